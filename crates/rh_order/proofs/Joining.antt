-- Rounds of a table, one after the other.
use Rattle.std.proofs.Common.{◌≡◌, ℕ, ◌+◌, inl, inr, refl, sym, ap, ◌∙◌, arith, List, [], ◌∷◌, ◌++◌, length, get_or, take, filter}
use Rattle.std.specs.Prelude.{nat_eq}
use Rattle.std.proofs.lemmas.List.{length-append, map-append}
use Rattle.std.proofs.lemmas.List.Elements.{Contains-append_cases, filter-append}
use Rattle.std.proofs.lemmas.List.FromFn.{fill_by_all}
use Rattle.std.proofs.Math.Seq.{take-append-add}
use Rattle.rh_words.specs.Parts.{cell_count}
use Rattle.rh_words.specs.declared.shape.Shape.{Shape}
use Rattle.rh_words.specs.View.{View, new_view, round_view}
use Rattle.rh_acts.specs.Act.{Act, AllMeet, WasWord, apply_act, apply_acts}
use Rattle.rh_acts.specs.Done.{Kept, WereTrue}
use Rattle.rh_acts.specs.Workers.{Made, acts_of}
use Rattle.rh_acts.proofs.ListLemmas.{reads_stay_true}
use Rattle.rh_order.specs.History.{value_of}
use Rattle.rh_order.specs.Rounds.{IsFresh, RoundsBegin, RoundsFollow, RoundsJoin}
use Rattle.rh_order.proofs.Values.{get_cells}

-- ---- the start of a round

fresh : (z : Shape) (cells : List ℕ) (v : View) → IsFresh z (round_view cells v)
fresh z cells v = record {
  acts = refl;
  reads = refl;
  orderly = record { falling = tt; below = λ n i. absurd i; newest = λ p e. cc; over = λ o i. absurd i };
}

pub rounds_begin : RoundsBegin
rounds_begin z cells = (λ worker. fresh z cells (new_view cells worker), fresh z cells)

pub rounds_follow : RoundsFollow
rounds_follow w z keep v cells so mine long same =
    sym (fill_by_all (λ c. value_of (w.logical 0 c)) cells (cell_count z) 0 long
    (λ c inside. sym (same c inside) ∙ sym (so.opening v c mine inside) ∙ get_cells z (w.logical 0) c inside))

-- ---- two lists as one

acts_joined : (first next : List Made) → acts_of (first ++ next) ≡ acts_of first ++ acts_of next
acts_joined first next = map-append (λ (m : Made). m.act) first next

cells_joined : (acts more : List Act) (cells : List ℕ) → apply_acts (acts ++ more) cells ≡ apply_acts more (apply_acts acts cells)
cells_joined [] more cells = refl
cells_joined (a ∷ rest) more cells = cells_joined rest more (apply_act a cells)

meet_joined : (acts more : List Act) (cells : List ℕ) → AllMeet acts cells → AllMeet more (apply_acts acts cells) → AllMeet (acts ++ more) cells
meet_joined [] more cells one two = two
meet_joined (a ∷ rest) more cells one two = (one.0, meet_joined rest more (apply_act a cells) one.1 two)

-- what was true of the second list is true of the one
later_true : (opening : List ℕ) (acts more : List Act) (c value : ℕ) → WasWord (apply_acts acts opening) more c value → WasWord opening (acts ++ more) c value
later_true opening acts more c value was = (
  length acts + was.0,
  omega (arith, was.1, length-append acts more),
  ap (λ (cells : List ℕ). get_or cells c 0) (ap (λ (xs : List Act). apply_acts xs opening) (take-append-add acts more was.0) ∙ cells_joined acts (take was.0 more) opening) ∙ was.2,
)

reads_joined : (opening : List ℕ) (acts more : List Act) (earlier later : List Kept) → WereTrue opening acts earlier → WereTrue (apply_acts acts opening) more later
    → WereTrue opening (acts ++ more) (earlier ++ later)
reads_joined opening acts more earlier later one two r h =
    elim (Contains-append_cases earlier later r h) [
      | inl first ↦ reads_stay_true opening acts more earlier one r first
      | inr next ↦ later_true opening acts more r.cell r.value (two r next)
    ]

pub rounds_join : RoundsJoin
rounds_join opening first next =
    let joined = acts_joined first next in
    record {
      meet = λ one two. rw joined (meet_joined (acts_of first) (acts_of next) opening one two);
      cells = ap (λ (acts : List Act). apply_acts acts opening) joined ∙ cells_joined (acts_of first) (acts_of next) opening;
      workers = λ count one two m h. elim (Contains-append_cases first next m h) [ inl i ↦ one m i | inr i ↦ two m i ];
      acts = λ worker.
          ap acts_of (filter-append (λ (m : Made). nat_eq m.worker worker) first next)
          ∙ map-append (λ (m : Made). m.act) (filter (λ (m : Made). nat_eq m.worker worker) first) (filter (λ (m : Made). nat_eq m.worker worker) next);
      reads = λ earlier later one two. rw joined (reads_joined opening (acts_of first) (acts_of next) earlier later one two);
    }
