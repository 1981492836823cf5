-- The places of the parts of a table.
use Rattle.std.proofs.Common.{◌≡◌, ◌∙◌, ap, sym, refl, ℕ, zero, suc, ◌+◌, ◌*◌, ◌-◌, ◌/◌, ◌%◌, ◌<◌, arith}
use Rattle.std.specs.Prelude.{true, false, nat_lt, if◌then◌else◌}
use Rattle.std.proofs.lemmas.Bool.{false_from_ne_true, lt-ltb, ltb-true}
use Rattle.std.proofs.lemmas.Nat.{div-mul-add, mod-mul-add, mul-add-lt}
use Rattle.rh_words.specs.declared.shape.Shape.{Shape}
use Rattle.rh_words.specs.declared.shape.Part.{Part}
use Rattle.rh_words.specs.declared.shape.Part.TheVariants.{Cell, Control, Serial, Length, EntryCell, EntryOld, EntryNew, MarkSerial, MarkDesc, MarkEntry, Reason, Counter}
use Rattle.rh_words.specs.Parts.{IsPart, cell_count, entry_row, entry_words, mark_row, reason_row, index_of, row_count, row_index}

pub entry_inside : (cells entry word workers : ℕ) → entry < cells → word < 3 → 3 + (3 * entry + word) < 3 + 3 * cells + 3 + workers
entry_inside cells entry word workers inside below = omega (arith, inside, below)

pub row_inside : (worker workers row rows : ℕ) → worker < workers → row < rows → worker * rows + row < workers * rows
row_inside worker workers row rows mine inside = omega (arith, mul-add-lt worker rows row workers mine inside)

-- ---- the part that stands at a index

abbrev head_part : (worker row : ℕ) → Part
head_part worker zero = Control worker
head_part worker (suc zero) = Serial worker
head_part worker (suc (suc n)) = Length worker

abbrev entry_part : (worker entry word : ℕ) → Part
entry_part worker entry zero = EntryCell worker entry
entry_part worker entry (suc zero) = EntryOld worker entry
entry_part worker entry (suc (suc n)) = EntryNew worker entry

abbrev tail_part : (worker row : ℕ) → Part
tail_part worker zero = MarkSerial worker
tail_part worker (suc zero) = MarkDesc worker
tail_part worker (suc (suc zero)) = MarkEntry worker
tail_part worker (suc (suc (suc owner))) = Reason worker owner

abbrev row_part : Shape → (worker row : ℕ) → Part
row_part z worker row =
    let entries = row - 3 in
    if nat_lt row 3 then head_part worker row
    else if nat_lt entries (entry_words z) then entry_part worker (entries / 3) (entries % 3)
    else tail_part worker (entries - entry_words z)

abbrev part_at : Shape → ℕ → Part
part_at z n =
    let rest = n - cell_count z in
    if nat_lt n (cell_count z) then Cell n
    else if nat_lt rest (z.workers * row_count z) then row_part z (rest / row_count z) (rest % row_count z)
    else Counter

is_less : (a b : ℕ) → a < b → nat_lt a b ≡ true
is_less a b h = lt-ltb a b h

is_not_less : (a b : ℕ) → (a < b → ⊥) → nat_lt a b ≡ false
is_not_less a b h = false_from_ne_true (nat_lt a b) (λ is. h (ltb-true a b is))

module _ (z : Shape) where
  row_found : (worker row : ℕ) → worker < z.workers → row < row_count z → part_at z (row_index z worker row) ≡ row_part z worker row
  row_found worker row mine inside =
      let beyond : nat_lt (row_index z worker row) (cell_count z) ≡ false = is_not_less _ _ (λ h. omega (arith, h)) in
      let rest : row_index z worker row - cell_count z ≡ worker * row_count z + row = omega arith in
      let fits : worker * row_count z + row < z.workers * row_count z = omega (arith, mul-add-lt worker (row_count z) row z.workers mine inside) in
      rw (beyond, rest, is_less _ _ fits, div-mul-add worker (row_count z) row inside, mod-mul-add worker (row_count z) row inside) refl

  head_at : (worker row : ℕ) → worker < z.workers → row < 3 → part_at z (row_index z worker row) ≡ head_part worker row
  head_at worker row here below = row_found worker row here (omega (arith, below)) ∙ rw (is_less row 3 below) refl

  entry_found : (worker entry word : ℕ) → entry < cell_count z → word < 3 → row_part z worker (entry_row entry word) ≡ entry_part worker entry word
  entry_found worker entry word inside below =
      let behind : nat_lt (entry_row entry word) 3 ≡ false = is_not_less _ _ (λ h. omega (arith, h)) in
      let rest : entry_row entry word - 3 ≡ 3 * entry + word = omega arith in
      let fits : 3 * entry + word < entry_words z = omega (arith, inside, below) in
      let which : (3 * entry + word) / 3 ≡ entry = omega (arith, below) in
      let what : (3 * entry + word) % 3 ≡ word = omega (arith, below) in
      rw (behind, rest, is_less _ _ fits, which, what) refl

  entry_at : (worker entry word : ℕ) → (worker < z.workers) × (entry < cell_count z) → word < 3 → part_at z (row_index z worker (entry_row entry word)) ≡ entry_part worker entry word
  entry_at worker entry word here below =
      row_found worker (entry_row entry word) here.0 (entry_inside (cell_count z) entry word z.workers here.1 below) ∙ entry_found worker entry word here.1 below

  tail_at : (worker row : ℕ) → worker < z.workers → row < 3 + z.workers → part_at z (row_index z worker (mark_row z row)) ≡ tail_part worker row
  tail_at worker row here below =
      let behind : nat_lt (mark_row z row) 3 ≡ false = is_not_less _ _ (λ h. omega (arith, h)) in
      let rest : mark_row z row - 3 ≡ entry_words z + row = omega arith in
      let beyond : nat_lt (entry_words z + row) (entry_words z) ≡ false = is_not_less _ _ (λ h. omega (arith, h)) in
      let last : entry_words z + row - entry_words z ≡ row = omega arith in
      row_found worker (mark_row z row) here (omega (arith, below)) ∙ rw (behind, rest, beyond, last) refl

  found_at : (p : Part) → IsPart z p → part_at z (index_of z p) ≡ p
  found_at (Cell c) here = rw (is_less c (cell_count z) here) refl
  found_at (Control worker) here = head_at worker 0 here (omega arith)
  found_at (Serial worker) here = head_at worker 1 here (omega arith)
  found_at (Length worker) here = head_at worker 2 here (omega arith)
  found_at (EntryCell worker entry) here = entry_at worker entry 0 here (omega arith)
  found_at (EntryOld worker entry) here = entry_at worker entry 1 here (omega arith)
  found_at (EntryNew worker entry) here = entry_at worker entry 2 here (omega arith)
  found_at (MarkSerial worker) here = tail_at worker 0 here (omega arith)
  found_at (MarkDesc worker) here = tail_at worker 1 here (omega arith)
  found_at (MarkEntry worker) here = tail_at worker 2 here (omega arith)
  found_at (Reason worker owner) here =
      let row : reason_row z owner ≡ mark_row z (3 + owner) = omega arith in
      ap (λ (n : ℕ). part_at z (row_index z worker n)) row ∙ tail_at worker (3 + owner) here.0 (let h = here.1 in omega (arith, h)) ∙ three owner
    where
      three : (owner : ℕ) → tail_part worker (3 + owner) ≡ Reason worker owner
      three owner = ap (tail_part worker) (let q : 3 + owner ≡ suc (suc (suc owner)) = omega arith in q)
  found_at Counter here =
      let beyond : nat_lt (index_of z Counter) (cell_count z) ≡ false = is_not_less _ _ (λ h. omega (arith, h)) in
      let rest : index_of z Counter - cell_count z ≡ z.workers * row_count z = omega arith in
      let last : nat_lt (z.workers * row_count z) (z.workers * row_count z) ≡ false = is_not_less _ _ (λ h. omega (arith, h)) in
      rw (beyond, rest, last) refl

  pub same_part : (p q : Part) → IsPart z p → IsPart z q → index_of z p ≡ index_of z q → p ≡ q
  same_part p q here there same = sym (found_at p here) ∙ ap (part_at z) same ∙ found_at q there
