-- Controls of descriptors and their numbers. The states are those of Harris, Fraser and Pratt 2002, with one more for a
-- swap that is given up, and who decided that a swap failed; the serial numbers, by which a row is used again, and the
-- numbers are this project's own.
use Rattle.std.specs.Prelude.{ℕ, ◌+◌, ◌-◌, ◌*◌, ◌/◌, ◌%◌, ◌^◌, ◌<◌, ◌==◌, nat_lt, Bool, true, false, if◌then◌else◌, Option, Some, None, ⊤}
use Rattle.rh_tagword.specs.declared.limits.TheConstants.{NUMBER_BITS, STATE_BITS, WORKER_BITS, UNUSED, UNDECIDED, SUCCEEDED, WITHDRAWN, FAILED}
use Rattle.rh_tagword.specs.declared.control.State.{State}
use Rattle.rh_tagword.specs.declared.control.State.TheVariants.{Unused, Undecided, Succeeded, Withdrawn, Failed}

abbrev pub IsState : State → Type 0
IsState Unused = ⊤
IsState Undecided = ⊤
IsState Succeeded = ⊤
IsState Withdrawn = ⊤
IsState (Failed decider) = decider < 2 ^ WORKER_BITS

abbrev pub IsControl : (serial : ℕ) → State → Type 0
IsControl serial state = (serial < 2 ^ NUMBER_BITS) × IsState state

-- A control tells who decided that a swap failed, and not at which entry, which would take the room of the serial numbers: the
-- owner reads that in the decider's reason.
abbrev pub state_number : State → ℕ
state_number Unused = UNUSED
state_number Undecided = UNDECIDED
state_number Succeeded = SUCCEEDED
state_number Withdrawn = WITHDRAWN
state_number (Failed decider) = FAILED + decider

-- That descriptor 5 failed, as worker 3 decided, is 5 * 256 + 64 + 3 = 1347.
abbrev pub control_number : (serial : ℕ) → State → ℕ
control_number serial state = serial * 2 ^ STATE_BITS + state_number state

-- the state of a number below 2^8
abbrev pub state_in : ℕ → Option State
state_in n =
    if n == UNUSED then Some Unused
    else if n == UNDECIDED then Some Undecided
    else if n == SUCCEEDED then Some Succeeded
    else if n == WITHDRAWN then Some Withdrawn
    else if nat_lt n FAILED then None
    else if nat_lt (n - FAILED) (2 ^ WORKER_BITS) then Some (Failed (n - FAILED))
    else None

abbrev pub with_serial : (serial : ℕ) → Option State → Option (ℕ × State)
with_serial serial None = None
with_serial serial (Some state) = Some (serial, state)

-- the serial number and the state that a number is read as
abbrev pub control_in : ℕ → Option (ℕ × State)
control_in n = with_serial (n / 2 ^ STATE_BITS) (state_in (n % 2 ^ STATE_BITS))

-- whether the swap is over
abbrev pub is_decided : State → Bool
is_decided Unused = false
is_decided Undecided = false
is_decided Succeeded = true
is_decided Withdrawn = true
is_decided (Failed decider) = true
