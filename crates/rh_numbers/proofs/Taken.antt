-- How much of a text is taken up to its first fault.
use Rattle.std.proofs.Common.{◌≡◌, ◌∙◌, refl, ap, sym, ℕ, ◌+◌, ◌*◌, ◌≤◌, List, [], ◌++◌, length, Option, append_assoc, length-append, arith}
use Rattle.std.specs.Io.KnownBytes.{Consumes}
use Rattle.std.proofs.KnownBytes.{Consumes-nil, Consumes-trans}
use Rattle.rh_layout.specs.declared.limits.TheConstants.{MAX_KEYS}
use Rattle.rh_numbers.specs.declared.line_so_far.LineSoFar.{LineSoFar}
use Rattle.rh_numbers.specs.declared.limits.TheConstants.{PART_BYTES}
use Rattle.rh_numbers.specs.Reading.{TakesGood, TakesGoodParts, TakesToFault, said_from, text_said}

-- Whatever comes after these bytes, reading goes on from here.
abbrev pub ReadsOn : (before keys : List ℕ) (line : ℕ) → LineSoFar → Type 0
ReadsOn before keys line so_far = (rest : List ℕ) → text_said (before ++ rest) ≡ said_from keys line so_far rest

-- So many bytes were read, and reading goes on from here.
abbrev pub Fresh : (start now : Option (List ℕ)) (n : ℕ) (keys : List ℕ) (line : ℕ) → LineSoFar → Type 0
Fresh start now n keys line so_far = (before : List ℕ) × Consumes start now before × (length before ≡ n) × ReadsOn before keys line so_far

pub fresh_at_first : (a : Option (List ℕ)) (keys : List ℕ) (line : ℕ) (so_far : LineSoFar) → said_from keys line so_far ≡ text_said → Fresh a a 0 keys line so_far
fresh_at_first a keys line so_far same = ([], Consumes-nil a, refl, λ rest. ap (λ f. f rest) (sym same))

pub fresh_after : (a b c : Option (List ℕ)) (n m : ℕ) (part keys later : List ℕ) (line next : ℕ) (so_far then : LineSoFar) → Fresh a b n keys line so_far → Consumes b c part → length part ≡ m
    → ((rest : List ℕ) → said_from keys line so_far (part ++ rest) ≡ said_from later next then rest) → Fresh a c (n + m) later next then
fresh_after a b c n m part keys later line next so_far then (before, taken, long, on) read many step =
    (before ++ part, Consumes-trans a b c before part taken read, omega (arith, length-append before part, long, many), λ rest. ap text_said (append_assoc before part rest) ∙ on (part ++ rest) ∙ step rest)

pub taken_to_fault : (a b c : Option (List ℕ)) (n : ℕ) (part keys : List ℕ) (line : ℕ) (so_far : LineSoFar) → Fresh a b n keys line so_far → length keys ≤ MAX_KEYS → Consumes b c part → length part ≤ PART_BYTES → TakesToFault a c
taken_to_fault a b c n part keys line so_far (before, taken, long, on) many read few = record {
  before = before;
  last = part;
  taken = Consumes-trans a b c before part taken read;
  short = few;
  no_fault = (keys, many, (line, so_far, on));
}

-- all that may be read was read
pub taken_to_limit : (a b : Option (List ℕ)) (n : ℕ) (keys : List ℕ) (line : ℕ) (so_far : LineSoFar) → Fresh a b n keys line so_far → length keys ≤ MAX_KEYS → TakesToFault a b
taken_to_limit a b n keys line so_far fresh many = taken_to_fault a b b n [] keys line so_far fresh many (Consumes-nil b) (omega arith)

pub taken_good : (a b c : Option (List ℕ)) (n : ℕ) (part keys later : List ℕ) (line next : ℕ) (so_far then : LineSoFar) → Fresh a b n keys line so_far → Consumes b c part
    → ((rest : List ℕ) → said_from keys line so_far (part ++ rest) ≡ said_from later next then rest) → TakesGood a c later
taken_good a b c n part keys later line next so_far then fresh read step =
    let after = fresh_after a b c n (length part) part keys later line next so_far then fresh read refl step in
    record { taken = after.0; consumed = after.1; no_fault = (next, then, after.3) }

-- nothing was taken behind the whole parts
pub taken_parts : (a b c : Option (List ℕ)) (count : ℕ) (part keys later : List ℕ) (line next : ℕ) (so_far then : LineSoFar) → Fresh a b (PART_BYTES * count) keys line so_far → Consumes b c part → part ≡ []
    → ((rest : List ℕ) → said_from keys line so_far (part ++ rest) ≡ said_from later next then rest) → TakesGoodParts a c later
taken_parts a b c count part keys later line next so_far then fresh read nothing step =
    let after = fresh_after a b c (PART_BYTES * count) 0 part keys later line next so_far then fresh read (ap length nothing) step in
    (record { taken = after.0; consumed = after.1; no_fault = (next, then, after.3) }, count, omega (arith, after.2))
