-- Reading bytes and numbers from left to right, up to the first fault. A step gives a value and the bytes after it. The faults
-- are those of the file that is read.
use Rattle.std.specs.Prelude.{◌≡◌, ◌≢◌, ℕ, zero, suc, ◌+◌, Bool, true, false, ◌&&◌, nat_lt, nat_le, if◌then◌else◌, List, [], ◌∷◌, length, take, drop, Option, Some, None, Result, Ok, Err}
use Rattle.std.specs.List.{list_all}
use Rattle.std.specs.Int.{w64, from_be_bytes, to_be_bytes}

-- one step, and then the next
infixl 10 ◌>>=◌
abbrev pub ◌>>=◌ : {A B E : Type 0} → Result A E → (A → Result B E) → Result B E
(Ok x) >>= f = f x
(Err e) >>= f = Err e

abbrev pub is_byte : ℕ → Bool
is_byte b = nat_lt b 256

-- n bytes stand there, which are numbers below 256, as the list that stands for a reader may hold others
abbrev pub begins_with_bytes : ℕ → List ℕ → Bool
begins_with_bytes n bytes = nat_le n (length bytes) && list_all is_byte (take n bytes)

-- a number as 8 bytes, the highest first
abbrev pub eight_bytes : ℕ → List ℕ
eight_bytes n = to_be_bytes w64 n

unfoldable pub bytes_at : {E : Type 0} → (short : E) → ℕ → List ℕ → Result (List ℕ × List ℕ) E
bytes_at short n bytes = if begins_with_bytes n bytes then Ok (take n bytes, drop n bytes) else Err short

abbrev pub number_in : {E : Type 0} → List ℕ × List ℕ → Result (ℕ × List ℕ) E
number_in eight = Ok (from_be_bytes w64 eight.0, eight.1)

unfoldable pub number_at : {E : Type 0} → (short : E) → List ℕ → Result (ℕ × List ℕ) E
number_at short bytes = bytes_at short 8 bytes >>= number_in

-- a list of numbers, with this one before it
abbrev pub with_head : {E : Type 0} → ℕ → List ℕ × List ℕ → Result (List ℕ × List ℕ) E
with_head n others = Ok (n ∷ others.0, others.1)

-- n numbers one after the other, each by a step, of which the first has this index
unfoldable pub many_at : {E : Type 0} → (step : ℕ → List ℕ → Result (ℕ × List ℕ) E) → (index n : ℕ) → List ℕ → Result (List ℕ × List ℕ) E
many_at step index zero bytes = Ok ([], bytes)
many_at step index (suc n) bytes =
    step index bytes >>= (λ first. many_at step (index + 1) n first.1 >>= with_head first.0)

-- nothing comes any more
unfoldable pub end_at : {E : Type 0} → (long : E) → List ℕ → Result (List ℕ × List ℕ) E
end_at long [] = Ok ([], [])
end_at long (b ∷ bytes) = Err long

-- ---- what is said of a reader's bytes

abbrev pub Unless : Bool → Type 0 → Type 0
Unless true P = Unit {0}
Unless false P = P

-- A silent fault says nothing of the bytes. Any other is the one that is read in them.
abbrev pub Fails : {X E : Type 0} → (silent : E → Bool) → E → Result X E → Type 0
Fails silent e said = Unless (silent e) (said ≡ Err e)

-- a view of a call that hands its value out behind a reference
abbrev pub always : {X Y : Type 0} → Y → X → Y
always y x = y

-- Where the bytes are known, the answer, seen by view, and the bytes that are left are what this
-- reading of them gives.
abbrev pub Reads : {X Y E : Type 0} → (silent : E → Bool) → Option (List ℕ) → Option (List ℕ) → (List ℕ → Result (Y × List ℕ) E) → (X → Y) → Result X E → Type 0
Reads silent None new reading view r = Unit {0}
Reads silent (Some bytes) new reading view (Err e) = Fails silent e (reading bytes)
Reads silent (Some bytes) None reading view (Ok x) = ⊥
Reads silent (Some bytes) (Some rest) reading view (Ok x) = reading bytes ≡ Ok (view x, rest)

-- known bytes begin with what can be read so
abbrev pub BeginsWith : {Y E : Type 0} → (List ℕ → Result (Y × List ℕ) E) → Option (List ℕ) → Type 0
BeginsWith reading None = Unit {0}
BeginsWith {Y = Y} reading (Some bytes) = (p : Y × List ℕ) × (reading bytes ≡ Ok p)

-- Known bytes spell this, and none is left.
abbrev pub AreAll : {Y : Type 0} → (List ℕ → Y → Type 0) → Option (List ℕ) → Option (List ℕ) → Y → Type 0
AreAll Spells None new y = Unit {0}
AreAll Spells (Some bytes) None y = ⊥
AreAll Spells (Some bytes) (Some rest) y = Spells bytes y × (rest ≡ [])

-- the fault that a call tells
abbrev pub fault_of : {X E : Type 0} → Result X E → Option E
fault_of (Ok x) = None
fault_of (Err e) = Some e

-- The faults of a file that are told of any part of it, and want of memory, which is told of none. A failed read is silent, and
-- so is want of memory.
pub record AreFaults {E : Type 0} (silent : E → Bool) (short long read memory : E) : Type 0 where
  pub short_says : silent short ≡ false
  pub long_says : silent long ≡ false
  pub read_silent : silent read ≡ true
  pub memory_silent : silent memory ≡ true
  pub apart : read ≢ memory
