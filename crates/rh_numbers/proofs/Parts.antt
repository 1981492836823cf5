-- A text that is read in parts.
use Rattle.std.proofs.Common.{◌≡◌, Bool, true, false, ℕ, zero, suc, ◌+◌, ◌<◌, ◌≤◌, List, [], ◌∷◌, ◌++◌, length, take, drop, get_or, Option, Some, None, Result, Ok, Err, refl, sym, ap, subst, ◌∙◌, arith, append-nil, length-append}
use Rattle.std.specs.Prelude.{IsErrOf, MatchOption}
use Rattle.std.specs.Io.KnownBytes.{Consumes, IsAtEnd}
use Rattle.rh_layout.specs.declared.limits.TheConstants.{MAX_KEYS}
use Rattle.rh_numbers.specs.declared.fault.TextFault.{TextFault}
use Rattle.rh_numbers.specs.declared.fault.TextFault.TheVariants as faults
use Rattle.rh_numbers.specs.declared.fault.TextFault.TheVariants.{NotAKey, OutOfRange, TooMany, TooLong}
use Rattle.rh_numbers.specs.declared.limits.TheConstants.{MAX_BYTES, PART_BYTES}
use Rattle.rh_numbers.specs.declared.line_so_far.LineSoFar.{LineSoFar}
use Rattle.rh_numbers.specs.declared.reading.Reading.{Reading}
use Rattle.rh_numbers.specs.Parts.{LeadsOn, PartGives, keys_read, line_reached, said_by, so_far_of}
use Rattle.rh_bytes.specs.Input.{fault_of}
use Rattle.rh_numbers.specs.Reading.{NoTextReadFailed, TextFails, ReadsText, Said, Stops, said_from, text_said, with_line}
use Rattle.rh_numbers.proofs.Fronts.{all_said, the_fault, too_many_said}

-- the byte at a position, with what stands before and after it
pub at_place : (bytes rest : List ℕ) (i : ℕ) → i < length bytes → bytes ++ rest ≡ take i bytes ++ (get_or bytes i 0 ∷ (drop (suc i) bytes ++ rest))
at_place [] rest i lt = absurd (omega (arith, lt))
at_place (b ∷ bytes) rest zero lt = refl
at_place (b ∷ bytes) rest (suc i) lt = ap (λ l. b ∷ l) (at_place bytes rest i (omega (arith, lt)))

-- Where the bytes are known, n of them were read, and what is left goes on from here.
abbrev pub GoesOn : Option (List ℕ) → Option (List ℕ) → (n : ℕ) (keys : List ℕ) (line : ℕ) → LineSoFar → Type 0
GoesOn None b n keys line so_far = Unit {0}
GoesOn (Some bytes) None n keys line so_far = ⊥
GoesOn (Some bytes) (Some rest) n keys line so_far = (text_said bytes ≡ said_from keys line so_far rest) × (length bytes ≡ n + length rest)

pub begins : (a : Option (List ℕ)) (keys : List ℕ) (line : ℕ) (so_far : LineSoFar) → said_from keys line so_far ≡ text_said → GoesOn a a 0 keys line so_far
begins None keys line so_far same = tt
begins (Some bytes) keys line so_far same = (ap (λ f. f bytes) (sym same), omega arith)

pub goes_on : (a b c : Option (List ℕ)) (n m : ℕ) (part keys later : List ℕ) (line next : ℕ) (so_far then : LineSoFar) → GoesOn a b n keys line so_far → Consumes b c part → length part ≡ m
    → ((rest : List ℕ) → said_from keys line so_far (part ++ rest) ≡ said_from later next then rest) → GoesOn a c (n + m) later next then
goes_on None b c n m part keys later line next so_far then h read many step = tt
goes_on (Some bytes) None c n m part keys later line next so_far then h read many step = absurd h
goes_on (Some bytes) (Some rest) None n m part keys later line next so_far then h read many step = absurd read
goes_on (Some bytes) (Some rest) (Some more) n m part keys later line next so_far then h read many step =
    (h.0 ∙ ap (said_from keys line so_far) read ∙ step more, omega (arith, h.1, ap length read, length-append part more, many))

-- ---- one part

-- the line ends with the text
pub part_ends : (part before keys : List ℕ) (line next : ℕ) (so_far then : LineSoFar) → ((rest : List ℕ) → said_from before line so_far (part ++ rest) ≡ said_from keys next then rest)
    → said_from before line so_far part ≡ with_line keys next then
unfolding said_from
part_ends part before keys line next so_far then step = ap (said_from before line so_far) (sym (append-nil part)) ∙ step []

pub end_stops : (left : Option (List ℕ)) (part before keys after : List ℕ) (line next : ℕ) (so_far then : LineSoFar) (e : TextFault) → IsAtEnd left
    → ((rest : List ℕ) → said_from before line so_far (part ++ rest) ≡ said_from keys next then rest) → Stops e after (with_line keys next then)
    → MatchOption left (Unit {0}) (λ rest. Stops e after (said_from before line so_far (part ++ rest)))
unfolding said_from
end_stops None part before keys after line next so_far then e end step stops = tt
end_stops (Some rest) part before keys after line next so_far then e end step stops =
    subst (Stops e after) (sym (step rest ∙ ap (said_from keys next then) end)) stops

pub stops_if_known : (left : Option (List ℕ)) (part before after : List ℕ) (line : ℕ) (so_far : LineSoFar) (e : TextFault)
    → ((rest : List ℕ) → Stops e after (said_from before line so_far (part ++ rest)))
    → MatchOption left (Unit {0}) (λ rest. Stops e after (said_from before line so_far (part ++ rest)))
stops_if_known None part before after line so_far e stops = tt
stops_if_known (Some rest) part before after line so_far e stops = stops rest

-- a fault that was found in the bytes of a part
pub part_stops : (part : List ℕ) (left : Option (List ℕ)) (old new : Reading) (e : TextFault) (keys : List ℕ) (said : Said) → Stops e keys said
    → MatchOption left (Unit {0}) (λ rest. Stops e (keys_read new) (said_by old (part ++ rest))) → PartGives part left old new (Err e)
part_stops part left old new TooMany keys said found known = known
part_stops part left old new (NotAKey line) keys said found known = known
part_stops part left old new (OutOfRange line) keys said found known = known
part_stops part left old new _ keys said found known = absurd found

-- where memory was refused nothing was taken
pub nothing_taken : {X : Type 0} (part : List ℕ) (left : Option (List ℕ)) (old new : Reading) (e : TextFault) → IsErrOf {T = X} (Err e) faults.Memory → PartGives part left old new (Err e) → (part ≡ []) × LeadsOn part old new
nothing_taken part left old new e memory gives =
    let same : e ≡ faults.Memory = cc in
    subst (λ f. PartGives part left old new (Err f)) same gives

-- before a failed read nothing was wrong
pub good_before : {X : Type 0} (part : List ℕ) (left : Option (List ℕ)) (old new : Reading) (e : TextFault) → IsErrOf {T = X} (Err e) faults.Read → PartGives part left old new (Err e) → LeadsOn part old new
good_before part left old new e read gives =
    let same : e ≡ faults.Read = cc in
    subst (λ f. PartGives part left old new (Err f)) same gives

-- what a part gives where the text goes on, and where it ends
pub whole_part : (part : List ℕ) (left : Option (List ℕ)) (old new : Reading) (on : Bool) → on ≡ true → PartGives part left old new (Ok on)
    → (length part ≡ PART_BYTES) × LeadsOn part old new
whole_part part left old new true is gives = gives
whole_part part left old new false is gives = absurd cc

pub last_part : (part : List ℕ) (left : Option (List ℕ)) (old new : Reading) (on : Bool) → on ≡ false → PartGives part left old new (Ok on) → IsAtEnd left × (said_by old part ≡ (keys_read new, None))
last_part part left old new true is gives = absurd cc
last_part part left old new false is gives = gives

-- ---- a text of at most a million keys

stops : (e : TextFault) (bytes keys : List ℕ) (said : Said) → text_said bytes ≡ said → length keys ≤ MAX_KEYS → Stops e keys said → TextFails e bytes
stops faults.Memory bytes keys said is few h = absurd h
stops faults.Read bytes keys said is few h = absurd h
stops TooLong bytes keys said is few h = absurd h
stops (NotAKey line) bytes keys said is few h = the_fault (text_said bytes) keys (NotAKey line) (is ∙ h) few
stops (OutOfRange line) bytes keys said is few h = the_fault (text_said bytes) keys (OutOfRange line) (is ∙ h) few
stops TooMany bytes keys said is few (full, key, more, h) =
    too_many_said (text_said bytes) (keys ++ (key ∷ more)) ([], ap (λ s. s.0) is ∙ h ∙ sym (append-nil (keys ++ (key ∷ more)))) (omega (arith, full, length-append keys (key ∷ more)))

-- a fault that says nothing of the bytes
silent : {X : Type 0} (a c : Option (List ℕ)) (view : X → List ℕ) (e : TextFault) → ((bytes : List ℕ) → TextFails e bytes) → ReadsText a c view (Err e)
silent None c view e says = tt
silent (Some bytes) c view e says = says bytes

-- a fault that was found in a part
found : {X : Type 0} (a b c : Option (List ℕ)) (n : ℕ) (part keys after : List ℕ) (line : ℕ) (so_far : LineSoFar) (view : X → List ℕ) (e : TextFault) → GoesOn a b n keys line so_far → Consumes b c part
    → length after ≤ MAX_KEYS → MatchOption c (Unit {0}) (λ rest. Stops e after (said_from keys line so_far (part ++ rest))) → ReadsText a c view (Err e)
found None b c n part keys after line so_far view e h read few stop = tt
found (Some bytes) None c n part keys after line so_far view e h read few stop = absurd h
found (Some bytes) (Some rest) None n part keys after line so_far view e h read few stop = absurd read
found (Some bytes) (Some rest) (Some more) n part keys after line so_far view e h read few stop =
    stops e bytes after (said_from keys line so_far (part ++ more)) (h.0 ∙ ap (said_from keys line so_far) read) few stop

pub refused : {X : Type 0} (a b c : Option (List ℕ)) (n : ℕ) (part : List ℕ) (old new : Reading) (view : X → List ℕ) (e : TextFault) → GoesOn a b n (keys_read old) (line_reached old) (so_far_of old) → Consumes b c part
    → length (keys_read new) ≤ MAX_KEYS → PartGives part c old new (Err e) → ReadsText a c view (Err e)
refused a b c n part old new view faults.Read h read few gives = silent a c view faults.Read (λ bytes. tt)
refused a b c n part old new view faults.Memory h read few gives = silent a c view faults.Memory (λ bytes. tt)
refused a b c n part old new view TooLong h read few gives = found a b c n part (keys_read old) (keys_read new) (line_reached old) (so_far_of old) view TooLong h read few gives
refused a b c n part old new view TooMany h read few gives = found a b c n part (keys_read old) (keys_read new) (line_reached old) (so_far_of old) view TooMany h read few gives
refused a b c n part old new view (NotAKey bad) h read few gives = found a b c n part (keys_read old) (keys_read new) (line_reached old) (so_far_of old) view (NotAKey bad) h read few gives
refused a b c n part old new view (OutOfRange bad) h read few gives = found a b c n part (keys_read old) (keys_read new) (line_reached old) (so_far_of old) view (OutOfRange bad) h read few gives

pub finished : {X : Type 0} (a b c : Option (List ℕ)) (n : ℕ) (part keys : List ℕ) (line : ℕ) (so_far : LineSoFar) (view : X → List ℕ) (x : X) → GoesOn a b n keys line so_far → Consumes b c part → IsAtEnd c
    → length (view x) ≤ MAX_KEYS → said_from keys line so_far part ≡ (view x, None) → ReadsText a c view (Ok x)
finished None b c n part keys line so_far view x h read end few is = tt
finished (Some bytes) None c n part keys line so_far view x h read end few is = absurd h
finished (Some bytes) (Some rest) None n part keys line so_far view x h read end few is = absurd read
finished (Some bytes) (Some rest) (Some more) n part keys line so_far view x h read end few is =
    let whole : rest ≡ part = read ∙ ap (λ l. part ++ l) end ∙ append-nil part in
    (all_said (text_said bytes) (view x) (h.0 ∙ ap (said_from keys line so_far) whole ∙ is) few, end)

pub too_long : {X : Type 0} (a b : Option (List ℕ)) (n : ℕ) (keys : List ℕ) (line : ℕ) (so_far : LineSoFar) (view : X → List ℕ) → GoesOn a b n keys line so_far → MAX_BYTES ≤ n → ReadsText a b view (Err TooLong)
too_long None b n keys line so_far view h long = tt
too_long (Some bytes) None n keys line so_far view h long = absurd h
too_long (Some bytes) (Some rest) n keys line so_far view h long = omega (arith, h.1, long)

-- ---- the bytes alone give no failed read, and no end of what may be read

pub is_no_read : {X : Type 0} (e : TextFault) (keys : List ℕ) (said : Said) (r : Result X TextFault) → r ≡ Err e → Stops e keys said → r ≡ Err faults.Read → ⊥
is_no_read e keys said r is h read =
    let same : e ≡ faults.Read = cc in
    subst (λ e. Stops e keys said) same h

pub is_no_limit : {X : Type 0} (e : TextFault) (keys : List ℕ) (said : Said) (r : Result X TextFault) → r ≡ Err e → Stops e keys said → r ≡ Err TooLong → ⊥
is_no_limit e keys said r is h long =
    let same : e ≡ TooLong = cc in
    subst (λ e. Stops e keys said) same h

-- A fault in the bytes may stand before a failed read.
no_silence : (e : TextFault) (keys : List ℕ) (said : Said) → Stops e keys said → NoTextReadFailed (Some e) → ⊥
no_silence faults.Memory keys said h fine = h
no_silence TooLong keys said h fine = h
no_silence _ keys said h fine = fine

pub before_failure : {X : Type 0} (e : TextFault) (keys : List ℕ) (said : Said) (r : Result X TextFault) → r ≡ Err e → Stops e keys said → NoTextReadFailed (fault_of r) → ⊥
before_failure e keys said r is h fine = no_silence e keys said h (subst (λ r. NoTextReadFailed (fault_of r)) is fine)
