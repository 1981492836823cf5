-- Lists of acts with more at their end.
use Rattle.std.proofs.Common.{◌≡◌, ◌≢◌, ℕ, suc, ◌<◌, refl, ap, ◌∙◌, arith, List, [], ◌∷◌, ◌++◌, length, get_or, take, false}
use Rattle.std.specs.Prelude.{nat_eq}
use Rattle.std.specs.List.{filter}
use Rattle.std.proofs.lemmas.Bool.{eq-eqb}
use Rattle.std.proofs.lemmas.Bool.Decides.{nat_tests}
use Rattle.std.proofs.lemmas.List.{length-append, map-append, take-append-le, append-nil}
use Rattle.std.proofs.lemmas.List.Elements.{filter-append}
use Rattle.rh_acts.specs.Act.{Act, apply_act, apply_acts, Meets, AllMeet}
use Rattle.rh_acts.specs.Done.{Kept, WereTrue}
use Rattle.rh_acts.specs.Workers.{Made, acts_of, own}
use Rattle.rh_acts.proofs.OwnLemmas.{own_yes, own_no}

pub meet_one_by_one : (acts : List Act) (cells : List ℕ) → ((n : ℕ) → n < length acts → Meets (get_or acts n []) (apply_acts (take n acts) cells)) → AllMeet acts cells
meet_one_by_one [] cells each = tt
meet_one_by_one (a ∷ rest) cells each = (each 0 (omega arith), meet_one_by_one rest (apply_act a cells) (λ n l. each (suc n) (omega arith)))

apply_push : (acts : List Act) (a : Act) (cells : List ℕ) → apply_acts (acts ++ a ∷ []) cells ≡ apply_act a (apply_acts acts cells)
apply_push [] a cells = refl
apply_push (x ∷ xs) a cells = apply_push xs a (apply_act x cells)

meet_push : (acts : List Act) (a : Act) (cells : List ℕ) → AllMeet acts cells → Meets a (apply_acts acts cells) → AllMeet (acts ++ a ∷ []) cells
meet_push [] a cells all meets = (meets, tt)
meet_push (x ∷ xs) a cells all meets = (all.0, meet_push xs a (apply_act x cells) all.1 meets)

pub one_more_act : (acts : List Act) (a : Act) (cells : List ℕ) → (apply_acts (acts ++ a ∷ []) cells ≡ apply_act a (apply_acts acts cells)) × (AllMeet acts cells → Meets a (apply_acts acts cells) → AllMeet (acts ++ a ∷ []) cells)
one_more_act acts a cells = (apply_push acts a cells, meet_push acts a cells)

own_append : (w : ℕ) (xs ys : List Made) → own w (xs ++ ys) ≡ own w xs ++ own w ys
own_append w xs ys = ap acts_of (filter-append (λ (x : Made). nat_eq x.worker w) xs ys) ∙ map-append (λ (x : Made). x.act) (filter (λ (x : Made). nat_eq x.worker w) xs) (filter (λ (x : Made). nat_eq x.worker w) ys)

own_push : (made : List Made) (m : Made) (w : ℕ) → m.worker ≡ w → own w (made ++ m ∷ []) ≡ own w made ++ m.act ∷ []
own_push made m w e = own_append w made (m ∷ []) ∙ ap (λ (xs : List Act). own w made ++ xs) (own_yes w m [] (eq-eqb m.worker w e))

own_stays : (made : List Made) (m : Made) (w : ℕ) → m.worker ≢ w → own w (made ++ m ∷ []) ≡ own w made
own_stays made m w ne =
    let other : nat_eq m.worker w ≡ false = grind (arith, nat_tests) in
    own_append w made (m ∷ []) ∙ ap (λ (xs : List Act). own w made ++ xs) (own_no w m [] other) ∙ append-nil (own w made)

pub one_more_own : (made : List Made) (m : Made) (w : ℕ) → (m.worker ≡ w → own w (made ++ m ∷ []) ≡ own w made ++ m.act ∷ []) × (m.worker ≢ w → own w (made ++ m ∷ []) ≡ own w made)
one_more_own made m w = (own_push made m w, own_stays made m w)

pub reads_stay_true : (opening : List ℕ) (acts more : List Act) (reads : List Kept) → WereTrue opening acts reads → WereTrue opening (acts ++ more) reads
reads_stay_true opening acts more reads were r h =
    let was = were r h in (
      was.0,
      omega (arith, was.1, length-append acts more),
      ap (λ (xs : List Act). get_or (apply_acts xs opening) r.cell 0) (take-append-le was.0 acts more was.1) ∙ was.2,
    )
