-- A word that is set leaves the other parts of the table.
use Rattle.std.proofs.Common.{◌≡◌, ◌≢◌, ℕ, ◌<◌, List, length, set, sym, subst, arith, get_or-set_same, get_or-set_other}
use Rattle.std.proofs.lemmas.Nat.{mul-add-lt}
use Rattle.rh_words.specs.declared.shape.Shape.{Shape}
use Rattle.rh_words.specs.declared.shape.Part.{Part}
use Rattle.rh_words.specs.declared.shape.Part.TheVariants as part
use Rattle.rh_words.specs.Parts.{IsPart, cell_count, entry_row, mark_row, reason_row, index_of, row_count, row_index, word_count}
use Rattle.rh_words.proofs.IndexLemmas.{entry_inside, same_part}
use Rattle.rh_rule.specs.Represents.{word_at}

module _ (z : Shape) where
  row_within : (worker row : ℕ) → worker < z.workers → row < row_count z → row_index z worker row < word_count z
  row_within worker row mine inside = let h = mul-add-lt worker (row_count z) row z.workers mine inside in omega (arith, h)

  entry_within : (worker entry word : ℕ) → (worker < z.workers) × (entry < cell_count z) → word < 3
      → row_index z worker (entry_row entry word) < word_count z
  entry_within worker entry word here below = row_within worker (entry_row entry word) here.0 (entry_inside (cell_count z) entry word z.workers here.1 below)

  pub index_within : (p : Part) → IsPart z p → index_of z p < word_count z
  index_within (part.Cell c) here = omega arith
  index_within (part.Control worker) here = row_within worker 0 here (omega arith)
  index_within (part.Serial worker) here = row_within worker 1 here (omega arith)
  index_within (part.Length worker) here = row_within worker 2 here (omega arith)
  index_within (part.EntryCell worker entry) here = entry_within worker entry 0 here (omega arith)
  index_within (part.EntryOld worker entry) here = entry_within worker entry 1 here (omega arith)
  index_within (part.EntryNew worker entry) here = entry_within worker entry 2 here (omega arith)
  index_within (part.MarkSerial worker) here = row_within worker (mark_row z 0) here (omega arith)
  index_within (part.MarkDesc worker) here = row_within worker (mark_row z 1) here (omega arith)
  index_within (part.MarkEntry worker) here = row_within worker (mark_row z 2) here (omega arith)
  index_within (part.Reason worker owner) here = row_within worker (reason_row z owner) here.0 (let h = here.1 in omega (arith, h))
  index_within part.Counter here = omega arith

  module _ (words : List ℕ) (p : Part) (n : ℕ) (here : IsPart z p) where
    -- the part that is set, and the others
    pub word_new : length words ≡ word_count z → word_at z (set words (index_of z p) n) p ≡ n
    word_new sized = let h = index_within p here in get_or-set_same words (index_of z p) n 0 (subst (λ (k : ℕ). index_of z p < k) (sym sized) h)

    pub word_same : (q : Part) → IsPart z q → q ≢ p → word_at z (set words (index_of z p) n) q ≡ word_at z words q
    word_same q there ne = get_or-set_other words (index_of z p) (index_of z q) n 0 (λ e. ne (same_part z q p there here e))
