-- The keys that were read come first among those that are said, and what comes after them does not depend on them.
use Rattle.std.proofs.Common.{◌≡◌, ℕ, ◌+◌, ◌<◌, ◌≤◌, List, [], ◌∷◌, ◌++◌, length, Some, None, Ok, Err, inl, inr, refl, sym, ap, ◌∙◌, arith, append_assoc, append-nil, length-append}
use Rattle.std.specs.Prelude.{nat_eq, nat_lt}
use Rattle.std.proofs.lemmas.Bool.{cases_Bool, le-ltb, lt-ltb}
use Rattle.rh_layout.specs.declared.limits.TheConstants.{MAX_KEY, MAX_KEYS}
use Rattle.rh_numbers.specs.declared.fault.TextFault.{TextFault}
use Rattle.rh_numbers.specs.declared.fault.TextFault.TheVariants as faults
use Rattle.rh_numbers.specs.declared.fault.TextFault.TheVariants.{NotAKey, OutOfRange, TooLong, TooMany}
use Rattle.rh_numbers.specs.declared.line_so_far.LineSoFar.{LineSoFar}
use Rattle.rh_numbers.specs.declared.line_so_far.LineSoFar.TheVariants.{Start, Number, After, Return}
use Rattle.rh_numbers.specs.Reading.{◌>>=◌, Said, Stops, limited, next, said_from, with_key, with_line}

-- these keys are said first
abbrev pub Begins : List ℕ → Said → Type 0
Begins keys said = (more : List ℕ) × (said.0 ≡ keys ++ more)

-- with these keys before those that are said
abbrev pub behind : List ℕ → Said → Said
behind front said = (front ++ said.0, said.1)

key_behind : (front keys : List ℕ) (at n : ℕ) → with_key (front ++ keys) at n ≡ behind front (with_key keys at n)
key_behind front keys at n =
    elim (cases_Bool (nat_lt MAX_KEY n)) [
      | inl t ↦ rw t refl
      | inr f ↦ rw f (ap (λ l. (l, None)) (append_assoc front keys (n ∷ [])))
    ]

pub line_behind : (front keys : List ℕ) (at : ℕ) (so_far : LineSoFar) → with_line (front ++ keys) at so_far ≡ behind front (with_line keys at so_far)
line_behind front keys at (Number n) = key_behind front keys at n
line_behind front keys at (After n) = key_behind front keys at n
line_behind front keys at (Return (Some n)) = key_behind front keys at n
line_behind front keys at _ = refl

then_behind : (front : List ℕ) (said : Said) (f : List ℕ → Said) → ((keys : List ℕ) → f (front ++ keys) ≡ behind front (f keys)) → (behind front said >>= f) ≡ behind front (said >>= f)
then_behind front (keys, None) f h = h keys
then_behind front (keys, Some e) f h = refl

pub said_behind : (front keys : List ℕ) (at : ℕ) (so_far : LineSoFar) (bytes : List ℕ) → said_from (front ++ keys) at so_far bytes ≡ behind front (said_from keys at so_far bytes)
unfolding said_from
said_behind front keys at so_far [] = line_behind front keys at so_far
said_behind front keys at so_far (b ∷ bytes) =
    elim (cases_Bool (nat_eq b 10)) [
      | inl t ↦ rw t (ap (λ said. said >>= (λ later. said_from later (at + 1) Start bytes)) (line_behind front keys at so_far)
          ∙ then_behind front (with_line keys at so_far) (λ later. said_from later (at + 1) Start bytes) (λ later. said_behind front later (at + 1) Start bytes))
      | inr f ↦ rw f (said_behind front keys at (next so_far b) bytes)
    ]

pub begins : (keys : List ℕ) (at : ℕ) (so_far : LineSoFar) (bytes : List ℕ) → Begins keys (said_from keys at so_far bytes)
begins keys at so_far bytes =
    ((said_from [] at so_far bytes).0, ap (λ k. (said_from k at so_far bytes).0) (sym (append-nil keys)) ∙ ap (λ s. s.0) (said_behind keys [] at so_far bytes))

-- where a line stops, so does the text that goes on after it
then_begins : (keys : List ℕ) (said : Said) (line : ℕ) (rest : List ℕ) → Begins keys said → Begins keys (said >>= (λ later. said_from later line Start rest))
then_begins keys (given, None) line rest (more, is) =
    let later = begins given line Start rest in
    (more ++ later.0, later.1 ∙ ap (λ l. l ++ later.0) is ∙ append_assoc keys more later.0)
then_begins keys (given, Some e) line rest (more, is) = (more, is)

pub stops_then : (e : TextFault) (keys : List ℕ) (said : Said) (line : ℕ) (rest : List ℕ) → Stops e keys said → Stops e keys (said >>= (λ later. said_from later line Start rest))
stops_then faults.Memory keys said line rest h = absurd h
stops_then faults.Read keys said line rest h = absurd h
stops_then TooLong keys said line rest h = absurd h
stops_then (NotAKey bad) keys said line rest h = ap (λ s. s >>= (λ later. said_from later line Start rest)) h
stops_then (OutOfRange bad) keys said line rest h = ap (λ s. s >>= (λ later. said_from later line Start rest)) h
stops_then TooMany keys said line rest (full, key, more, is) =
    let later = then_begins (keys ++ (key ∷ more)) said line rest ([], is ∙ sym (append-nil (keys ++ (key ∷ more)))) in
    (full, key, more ++ later.0, later.1 ∙ append_assoc keys (key ∷ more) later.0)

-- ---- where there may be a million keys

-- the first fault of a text that has not too many keys before it
pub the_fault : (said : Said) (keys : List ℕ) (e : TextFault) → said ≡ (keys, Some e) → length keys ≤ MAX_KEYS → limited said ≡ Err e
the_fault said keys e is few = ap limited is ∙ rw (le-ltb MAX_KEYS (length keys) few) refl

pub all_said : (said : Said) (keys : List ℕ) → said ≡ (keys, None) → length keys ≤ MAX_KEYS → limited said ≡ Ok keys
all_said said keys is few = ap limited is ∙ rw (le-ltb MAX_KEYS (length keys) few) refl

-- there are more than a million keys
pub too_many_said : (said : Said) (keys : List ℕ) → Begins keys said → MAX_KEYS < length keys → limited said ≡ Err TooMany
too_many_said said keys front many =
    let longer : MAX_KEYS < length said.0 = omega (arith, many, ap length front.1, length-append keys front.0) in
    rw (lt-ltb MAX_KEYS (length said.0) longer) refl
