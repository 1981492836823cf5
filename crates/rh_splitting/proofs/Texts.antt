-- A text that is split, part of the text after part.
use Rattle.std.proofs.Common.{◌≡◌, ◌≢◌, Bool, true, false, ℕ, ◌+◌, ◌*◌, ◌≤◌, List, [], ◌∷◌, ◌++◌, Option, Some, None, Result, Ok, Err, refl, sym, ap, subst, ◌∙◌, arith, append_assoc, append-nil}
use Rattle.std.proofs.KnownBytes.{Consumes-nil, Consumes-trans}
use Rattle.rh_numbers.specs.declared.fault.TextFault.{TextFault}
use Rattle.rh_numbers.specs.declared.fault.TextFault.TheVariants as faults
use Rattle.rh_numbers.specs.declared.limits.TheConstants.{MAX_BYTES, PART_BYTES}
use Rattle.rh_numbers.specs.declared.line_so_far.LineSoFar.{LineSoFar}
use Rattle.rh_numbers.specs.declared.reading.Reading.{Reading}
use Rattle.rh_numbers.specs.Parts.{PartGives, ReadsTextPart, keys_read, line_reached, said_by, so_far_of}
use Rattle.rh_numbers.specs.Reading.{Said, Stops, said_from, text_said}
use Rattle.rh_numbers.proofs.Fronts.{Begins, begins, behind, said_behind}
use Rattle.rh_numbers.proofs.Meaning.{any_text_read}
use Rattle.rh_numbers.proofs.Parts.{GoesOn, goes_on}
use Rattle.rh_numbers.proofs.Taken.{Fresh, fresh_after, taken_good, taken_parts}
use Rattle.rh_parts.specs.Parts.{part_of}
use Rattle.rh_splitting.specs.declared.fault.SplitFault.{SplitFault}
use Rattle.rh_splitting.specs.declared.fault.SplitFault.TheVariants as faults_of
use Rattle.rh_splitting.specs.declared.part.Part.{Part}
use Rattle.rh_splitting.specs.Parts.{EachGot}
use Rattle.rh_splitting.specs.Splitting.{IsTextFrom, PutsKeys, SayFirst, SayThen, Splits, TakesText}
use Rattle.rh_splitting.proofs.Given.{both_given, failed_after}

-- what a reading that holds no key says comes behind the keys that were given
pub behind_given : (given bytes : List ℕ) (reading : Reading) → keys_read reading ≡ [] → said_from given (line_reached reading) (so_far_of reading) bytes ≡ behind given (said_by reading bytes)
behind_given given bytes reading none =
    ap (λ k. said_from k (line_reached reading) (so_far_of reading) bytes) (sym (ap (λ l. given ++ l) none ∙ append-nil given))
    ∙ said_behind given (keys_read reading) (line_reached reading) (so_far_of reading) bytes

pub goes_behind : (given part : List ℕ) (old new : Reading) → keys_read old ≡ [] → ((rest : List ℕ) → said_by old (part ++ rest) ≡ said_by new rest)
    → (rest : List ℕ) → said_from given (line_reached old) (so_far_of old) (part ++ rest) ≡ said_from (given ++ keys_read new) (line_reached new) (so_far_of new) rest
goes_behind given part old new none step rest =
    behind_given given (part ++ rest) old none ∙ ap (behind given) (step rest) ∙ sym (said_behind given (keys_read new) (line_reached new) (so_far_of new) rest)

-- ---- what the text says first

begins_behind : (given keys : List ℕ) (said : Said) → Begins keys said → Begins (given ++ keys) (behind given said)
begins_behind given keys said (more, is) = (more, ap (λ l. given ++ l) is ∙ sym (append_assoc given keys more))

stops_begins : (e : TextFault) (keys : List ℕ) (said : Said) → Stops e keys said → Begins keys said
stops_begins faults.Memory keys said h = absurd h
stops_begins faults.Read keys said h = absurd h
stops_begins faults.TooLong keys said h = absurd h
stops_begins (faults.NotAKey line) keys said h = ([], ap (λ s. s.0) h ∙ sym (append-nil keys))
stops_begins (faults.OutOfRange line) keys said h = ([], ap (λ s. s.0) h ∙ sym (append-nil keys))
stops_begins faults.TooMany keys said (full, key, more, is) = (key ∷ more, is)

-- the keys of a part are said first behind those before it, whatever came of it
part_begins : (part rest : List ℕ) (old new : Reading) (r : Result Bool TextFault) → PartGives part (Some rest) old new r → Begins (keys_read new) (said_by old (part ++ rest))
part_begins part rest old new (Ok true) gives = subst (Begins (keys_read new)) (sym (gives.1 rest)) (begins (keys_read new) (line_reached new) (so_far_of new) rest)
part_begins part rest old new (Ok false) gives =
    let whole : part ++ rest ≡ part = ap (λ l. part ++ l) gives.0 ∙ append-nil part in
    ([], ap (λ s. s.0) (ap (said_by old) whole ∙ gives.1) ∙ sym (append-nil (keys_read new)))
part_begins part rest old new (Err faults.Read) gives = subst (Begins (keys_read new)) (sym (gives rest)) (begins (keys_read new) (line_reached new) (so_far_of new) rest)
part_begins part rest old new (Err faults.Memory) gives = subst (Begins (keys_read new)) (sym (gives.1 rest)) (begins (keys_read new) (line_reached new) (so_far_of new) rest)
part_begins part rest old new (Err faults.TooLong) gives = stops_begins faults.TooLong (keys_read new) (said_by old (part ++ rest)) gives
part_begins part rest old new (Err faults.TooMany) gives = stops_begins faults.TooMany (keys_read new) (said_by old (part ++ rest)) gives
part_begins part rest old new (Err (faults.NotAKey line)) gives = stops_begins (faults.NotAKey line) (keys_read new) (said_by old (part ++ rest)) gives
part_begins part rest old new (Err (faults.OutOfRange line)) gives = stops_begins (faults.OutOfRange line) (keys_read new) (said_by old (part ++ rest)) gives

pub part_first : (bytes before left : Option (List ℕ)) (n : ℕ) (given : List ℕ) (old new : Reading) (r : Result Bool TextFault) → GoesOn bytes before n given (line_reached old) (so_far_of old) → keys_read old ≡ []
    → ReadsTextPart before left old new r → SayFirst bytes (given ++ keys_read new)
part_first None before left n given old new r goes none reads = tt
part_first (Some bytes) None left n given old new r goes none reads = absurd goes
part_first (Some bytes) (Some rest) None n given old new r goes none reads = absurd reads.taken
part_first (Some bytes) (Some rest) (Some more) n given old new r goes none reads =
    let here : text_said bytes ≡ behind given (said_by old (reads.part ++ more)) = goes.0 ∙ ap (said_from given (line_reached old) (so_far_of old)) reads.taken ∙ behind_given given (reads.part ++ more) old none in
    subst (Begins (given ++ keys_read new)) (sym here) (begins_behind given (keys_read new) (said_by old (reads.part ++ more)) (part_begins reads.part more old new r reads.gives))

-- of what is said first a front is said first
pub first_of_them : (bytes : Option (List ℕ)) (given keys front : List ℕ) (key : ℕ) (more : List ℕ) → keys ≡ front ++ (key ∷ more) → SayFirst bytes (given ++ keys) → SayFirst bytes ((given ++ front) ++ (key ∷ []))
first_of_them None given keys front key more is say = tt
first_of_them (Some bytes) given keys front key more is (others, say) = (
  more ++ others,
  say ∙ ap (λ l. (given ++ l) ++ others) is ∙ ap (λ l. l ++ others) (sym (append_assoc given front (key ∷ more)))
      ∙ append_assoc (given ++ front) (key ∷ more) others ∙ sym (append_assoc (given ++ front) (key ∷ []) (more ++ others)),
)

-- ---- how the text ends

pub text_ends : (bytes before left : Option (List ℕ)) (n : ℕ) (given : List ℕ) (old new : Reading) (r : Bool) → r ≡ false → GoesOn bytes before n given (line_reached old) (so_far_of old) → keys_read old ≡ []
    → ReadsTextPart before left old new (Ok r) → IsTextFrom bytes left (given ++ keys_read new)
text_ends bytes before left n given old new true is goes none reads = absurd cc
text_ends None before left n given old new false is goes none reads = tt
text_ends (Some bytes) None left n given old new false is goes none reads = absurd goes
text_ends (Some bytes) (Some rest) None n given old new false is goes none reads = absurd reads.taken
text_ends (Some bytes) (Some rest) (Some more) n given old new false is goes none reads =
    let whole : rest ≡ reads.part = reads.taken ∙ ap (λ l. reads.part ++ l) reads.gives.0 ∙ append-nil reads.part in
    (any_text_read bytes (given ++ keys_read new) (goes.0 ∙ ap (said_from given (line_reached old) (so_far_of old)) whole ∙ behind_given given reads.part old none ∙ ap (behind given) reads.gives.1), reads.gives.0)

pub text_goes_on : (bytes before left : Option (List ℕ)) (n : ℕ) (given : List ℕ) (old new : Reading) (r : Bool) → r ≡ true → GoesOn bytes before n given (line_reached old) (so_far_of old) → keys_read old ≡ []
    → ReadsTextPart before left old new (Ok r) → GoesOn bytes left (n + PART_BYTES) (given ++ keys_read new) (line_reached new) (so_far_of new)
text_goes_on bytes before left n given old new false is goes none reads = absurd cc
text_goes_on bytes before left n given old new true is goes none reads =
    goes_on bytes before left n PART_BYTES reads.part given (given ++ keys_read new) (line_reached old) (line_reached new) (so_far_of old) (so_far_of new) goes reads.taken reads.gives.0 (goes_behind given reads.part old new none reads.gives.1)

pub still_fresh : (bytes before left : Option (List ℕ)) (n : ℕ) (given : List ℕ) (old new : Reading) (r : Bool) → r ≡ true → Fresh bytes before n given (line_reached old) (so_far_of old) → keys_read old ≡ []
    → ReadsTextPart before left old new (Ok r) → Fresh bytes left (n + PART_BYTES) (given ++ keys_read new) (line_reached new) (so_far_of new)
still_fresh bytes before left n given old new false is fresh none reads = absurd cc
still_fresh bytes before left n given old new true is fresh none reads =
    fresh_after bytes before left n PART_BYTES reads.part given (given ++ keys_read new) (line_reached old) (line_reached new) (so_far_of old) (so_far_of new) fresh reads.taken reads.gives.0 (goes_behind given reads.part old new none reads.gives.1)

-- a fault that says where the text stops
stops_there : (bytes rest given : List ℕ) (old new : Reading) (e : TextFault) → text_said bytes ≡ behind given (said_by old rest) → said_by old rest ≡ (keys_read new, Some e) → text_said bytes ≡ (given ++ keys_read new, Some e)
stops_there bytes rest given old new e here is = here ∙ ap (behind given) is

pub text_stops : (bytes before left : Option (List ℕ)) (count : ℕ) (given : List ℕ) (old new : Reading) (e : TextFault) → GoesOn bytes before (PART_BYTES * count) given (line_reached old) (so_far_of old)
    → Fresh bytes before (PART_BYTES * count) given (line_reached old) (so_far_of old) → keys_read old ≡ [] → ReadsTextPart before left old new (Err e) → e ≢ faults.TooMany → e ≢ faults.TooLong → SayThen bytes left (given ++ keys_read new) e
text_stops None before left count given old new e goes fresh none reads many long = tt
text_stops (Some bytes) None left count given old new e goes fresh none reads many long = absurd goes
text_stops (Some bytes) (Some rest) None count given old new e goes fresh none reads many long = absurd reads.taken
text_stops (Some bytes) (Some rest) (Some more) count given old new e goes fresh none reads many long =
    then_fault e reads.part reads.taken reads.gives many long
  where
    here : (part : List ℕ) → rest ≡ part ++ more → text_said bytes ≡ behind given (said_by old (part ++ more))
    here part taken = goes.0 ∙ ap (said_from given (line_reached old) (so_far_of old)) taken ∙ behind_given given (part ++ more) old none

    then_fault : (e : TextFault) (part : List ℕ) → rest ≡ part ++ more → PartGives part (Some more) old new (Err e) → e ≢ faults.TooMany → e ≢ faults.TooLong → SayThen (Some bytes) (Some more) (given ++ keys_read new) e
    then_fault faults.Memory part taken gives many long =
        taken_parts (Some bytes) (Some rest) (Some more) count part given (given ++ keys_read new) (line_reached old) (line_reached new) (so_far_of old) (so_far_of new) fresh taken gives.0 (goes_behind given part old new none gives.1)
    then_fault faults.Read part taken gives many long =
        taken_good (Some bytes) (Some rest) (Some more) (PART_BYTES * count) part given (given ++ keys_read new) (line_reached old) (line_reached new) (so_far_of old) (so_far_of new) fresh taken (goes_behind given part old new none gives)
    then_fault faults.TooLong part taken gives many long = absurd (long refl)
    then_fault faults.TooMany part taken gives many long = absurd (many refl)
    then_fault (faults.NotAKey line) part taken gives many long = stops_there bytes (part ++ more) given old new (faults.NotAKey line) (here part taken) gives
    then_fault (faults.OutOfRange line) part taken gives many long = stops_there bytes (part ++ more) given old new (faults.OutOfRange line) (here part taken) gives

pub text_too_long : (bytes left : Option (List ℕ)) (n : ℕ) (given : List ℕ) (line : ℕ) (so_far : LineSoFar) → GoesOn bytes left n given line so_far → MAX_BYTES ≤ n → SayThen bytes left given faults.TooLong
text_too_long None left n given line so_far goes long = tt
text_too_long (Some bytes) None n given line so_far goes long = absurd goes
text_too_long (Some bytes) (Some rest) n given line so_far goes long = (omega (arith, goes.1, long), subst (Begins given) (sym goes.0) (begins given line so_far rest))

-- ---- how much of it was taken

pub takes_part : (bytes before left : Option (List ℕ)) (n : ℕ) (given : List ℕ) (old new : Reading) (r : Result Bool TextFault) → Fresh bytes before n given (line_reached old) (so_far_of old) → ReadsTextPart before left old new r → TakesText bytes left
takes_part bytes before left n given old new r (front, taken, count, on) reads = record {
  before = front;
  last = reads.part;
  taken = Consumes-trans bytes before left front reads.part taken reads.taken;
  short = reads.short;
  keys = given;
  no_fault = (line_reached old, so_far_of old, on);
}

pub takes_all : (bytes left : Option (List ℕ)) (n : ℕ) (given : List ℕ) (line : ℕ) (so_far : LineSoFar) → Fresh bytes left n given line so_far → TakesText bytes left
takes_all bytes left n given line so_far (front, taken, count, on) = record {
  before = front;
  last = [];
  taken = Consumes-trans bytes left left front [] taken (Consumes-nil left);
  short = omega arith;
  keys = given;
  no_fault = (line, so_far, on);
}

-- ---- a key that its part does not take

pub refused_key : {W : Type 0} (X : Type 0) (bytes left : Option (List ℕ)) (contents : W → Option (List ℕ)) (first mid last : List (Part W)) (given keys : List ℕ) (fault : SplitFault) → EachGot contents first mid given → SayFirst bytes (given ++ keys)
    → PutsKeys {X = X} contents mid last keys (Err fault) → Splits {X = X} bytes left contents first last (Err fault)
refused_key X bytes left contents first mid last given keys (faults_of.Text fault) got say puts = absurd puts
refused_key X bytes left contents first mid last given keys (faults_of.Keys fault) got say puts = absurd puts
refused_key X bytes left contents first mid last given keys (faults_of.TooMany part) got say (front, key, stands, place, each, full) =
    (given ++ front, key, first_of_them bytes given keys front key stands.0 stands.1 say, ap (λ n. part_of n key) (sym got.many) ∙ place, both_given contents first mid last given front got each, full)
refused_key X bytes left contents first mid last given keys (faults_of.Write part) got say (front, key, stands, place, failed) =
    (given ++ front, key, first_of_them bytes given keys front key stands.0 stands.1 say, ap (λ n. part_of n key) (sym got.many) ∙ place, failed_after contents first mid last part key given front got failed)
