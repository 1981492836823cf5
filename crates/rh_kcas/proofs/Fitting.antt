-- Entries of which each fits behind the one before are those of a descriptor.
use Rattle.std.proofs.Common.{◌≡◌, ◌≢◌, ℕ, zero, suc, ◌-◌, ◌<◌, List, [], ◌∷◌, length, get_or, refl, sym, subst, ⊎_elim, arith}
use Rattle.rh_layout.specs.declared.entry.Entry.{Entry}
use Rattle.rh_world.proofs.Updated.{same_nat}
use Rattle.rh_words.specs.declared.shape.Shape.{Shape}
use Rattle.rh_words.specs.Parts.{cell_count}
use Rattle.rh_words.specs.Steps.{AreEntries, entry_of, no_entry}
use Rattle.rh_words.specs.Words.{IsPlain}
use Rattle.rh_kcas.specs.Fits.{Fits, IsBehind}

pub entry_at : (es : List Entry) (e : ℕ) (d : Entry) → e < length es → get_or es e d ≡ entry_of es e
entry_at [] e d l = absurd (omega arith)
entry_at (x ∷ es) zero d l = refl
entry_at (x ∷ es) (suc e) d l = entry_at es e d (omega arith)

pub behind_so : (es : List Entry) (e before : ℕ) → e < length es → e ≡ suc before → (get_or es (e - 1) no_entry).cell < (get_or es e no_entry).cell → (entry_of es before).cell < (entry_of es e).cell
behind_so es e before l is less =
    let same : e - 1 ≡ before = omega (arith, is) in
    let less' = subst (λ (k : ℕ). (get_or es k no_entry).cell < (get_or es e no_entry).cell) same less in
    subst (λ (x : Entry). x.cell < (entry_of es e).cell) (entry_at es before no_entry (omega (arith, is, l)))
    (subst (λ (x : Entry). (get_or es before no_entry).cell < x.cell) (entry_at es e no_entry l) less')

pub fits_so : (z : Shape) (es : List Entry) (e : ℕ) (d : Entry) → e < length es → IsBehind es e → (get_or es e d).cell < cell_count z → IsPlain (get_or es e d).old → IsPlain (get_or es e d).new
    → Fits z es e
fits_so z es e d l behind cell old new =
    let is = entry_at es e d l in record {
      cell = subst (λ (x : Entry). x.cell < cell_count z) is cell;
      old = subst (λ (x : Entry). IsPlain x.old) is old;
      new = subst (λ (x : Entry). IsPlain x.new) is new;
      behind = behind;
    }

-- and the other way
pub behind_back : (es : List Entry) (e : ℕ) → e < length es → 0 < e → IsBehind es e → (get_or es (e - 1) no_entry).cell < (get_or es e no_entry).cell
behind_back es zero l more h = absurd (omega (arith, more))
behind_back es (suc before) l more h =
    let same : suc before - 1 ≡ before = omega arith in
    subst (λ (k : ℕ). (get_or es k no_entry).cell < (get_or es (suc before) no_entry).cell) (sym same)
    (subst (λ (x : Entry). x.cell < (get_or es (suc before) no_entry).cell) (sym (entry_at es before no_entry (omega (arith, l))))
    (subst (λ (x : Entry). (entry_of es before).cell < x.cell) (sym (entry_at es (suc before) no_entry l)) (h before refl)))

pub record WordsFit (z : Shape) (x : Entry) : Type 0 where
  pub cell : x.cell < cell_count z
  pub old : IsPlain x.old
  pub new : IsPlain x.new

pub words_fit : (z : Shape) (es : List Entry) (e : ℕ) (d : Entry) → e < length es → Fits z es e → WordsFit z (get_or es e d)
words_fit z es e d l h = subst (WordsFit z) (sym (entry_at es e d l)) record { cell = h.cell; old = h.old; new = h.new }

rises : (z : Shape) (es : List Entry) → ((e : ℕ) → e < length es → Fits z es e) → (e f : ℕ) → e < f → f < length es → (entry_of es e).cell < (entry_of es f).cell
rises z es fit e zero l m = absurd (omega arith)
rises z es fit e (suc f) l m =
    let next = (fit (suc f) m).behind f refl in
    ⊎_elim (λ (q : e ≡ f). subst (λ (k : ℕ). (entry_of es k).cell < (entry_of es (suc f)).cell) (sym q) next)
    (λ (ne : e ≢ f). let less = rises z es fit e f (omega (arith, ne, l)) (omega (arith, m)) in omega (arith, less, next)) (same_nat e f)

pub are_entries : (z : Shape) (es : List Entry) → 0 < length es → ((e : ℕ) → e < length es → Fits z es e) → AreEntries z es
are_entries z es more fit = record {
  some = more;
  rising = rises z es fit;
  cells = λ e l. (fit e l).cell;
  olds = λ e l. (fit e l).old;
  news = λ e l. (fit e l).new;
}
