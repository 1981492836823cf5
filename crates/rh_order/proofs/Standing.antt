-- What the cells of a run stand for: the acts of all its rounds are a phase over their own keys.
use Rattle.std.proofs.Common.{◌≡◌, ℕ, ◌<◌, ◌≤◌, inl, ⊎_elim, refl, sym, ap, ◌∙◌, subst, arith, Bool, List, [], ◌∷◌, ◌++◌, ◌||◌, get_or, map, reverse}
use Rattle.std.specs.List.{Contains}
use Rattle.std.specs.FinSet as set
use Rattle.std.proofs.lemmas.List.{append_assoc, map-append}
use Rattle.std.proofs.lemmas.List.FromFn.{fill_by_all}
use Rattle.std.proofs.lemmas.List.Elements.{Contains-append_cases, Contains-append_left, Contains-append_right}
use Rattle.rh_layout.specs.Layout.{Keys, Layout}
use Rattle.rh_ledger.specs.declared.tally.Kind.{Kind}
use Rattle.rh_ledger.specs.declared.tally.Kind.TheVariants.{Insert, Remove, Ask}
use Rattle.rh_ledger.specs.Phase.{set_after}
use Rattle.rh_world.specs.Acts.{cells_after, is_success}
use Rattle.rh_rule.specs.Rest.{is_noted_success}
use Rattle.rh_rule.proofs.Telling.{same_filtered}
use Rattle.rh_words.specs.declared.shape.Shape.{Shape}
use Rattle.rh_words.specs.Parts.{cell_count}
use Rattle.rh_words.specs.View.{OwnDesc, View, own_ref}
use Rattle.rh_acts.specs.Act.{Act, AllMeet, apply_acts, changes}
use Rattle.rh_acts.specs.Done.{Does, IsDone, WereTrue}
use Rattle.rh_acts.specs.Workers.{AreOf, LeavesRoom, Made, acts_of, own}
use Rattle.rh_acts.proofs.ActLemmas.{contains_cases, contains_head, contains_none, contains_tail}
use Rattle.rh_acts.proofs.DoneLemmas.{done_key}
use Rattle.rh_acts.proofs.FoldLemmas.{all_kept, all_there, len_part, there_cases}
use Rattle.rh_acts.proofs.InOrder.{acts_are_a_phase}
use Rattle.rh_acts.proofs.OwnLemmas.{own_among}
use Rattle.rh_acts.proofs.Changing.{answer_is_change}
use Rattle.rh_order.specs.History.{act_of, history, kept_of, logical_cells, own_acts_of, value_of}
use Rattle.rh_order.specs.Histories.{HistorySpec, OwnActsSpec}
use Rattle.rh_order.specs.Rounds.{RoundsSpec}
use Rattle.rh_order.proofs.Happening.{order_of_acts}
use Rattle.rh_order.proofs.Joining.{rounds_join}
use Rattle.rh_order.proofs.Succeeding.{own_so_far}
use Rattle.rh_order.proofs.Values.{cells_length, get_cells}
use Rattle.rh_order.specs.Laws.{ActsSoFar, MomentSpec, RunMoment, WorkerSpec}
use Rattle.rh_order.specs.Run.{DoesOneOf, Run, RunInvariant}
use Rattle.rh_order.specs.Known.{KnowsHeld}
use Rattle.rh_order.specs.Words.{AreNow, has_succeeded, succeeded_now}
use Rattle.rh_order.proofs.Saying.{own_success, words_say, words_tell}
use Rattle.rh_order.proofs.Showing.{finished_among, key_shows}

-- the values for which the cells stand are one list
pub one_now : (z : Shape) (words : List ℕ) (keep : ℕ → View) (these those : List ℕ) → AreNow z words keep these → AreNow z words keep those → these ≡ those
one_now z words keep these those is are =
    let value : (c : ℕ) → c < cell_count z → get_or these c 0 ≡ get_or those c 0 =
    λ c inside. let word = is.stands c inside in is.values c word.0 inside word.1 ∙ sym (are.values c word.0 inside word.1) in
    fill_by_all (λ c. get_or those c 0) these (cell_count z) 0 is.size value ∙ sym (fill_by_all (λ c. get_or those c 0) those (cell_count z) 0 are.size (λ c inside. refl))

-- ---- acts and their keys

-- acts that each do a key of a worker do these keys
record DoKeys (kind : Kind) (b : ℕ) (keys : ℕ → List ℕ) (made : List Made) : Type 0 where
  pub so_far : List ℕ
  pub done : IsDone kind b [] so_far (acts_of made) (map changes (acts_of made))
  pub among : (k : ℕ) → Contains so_far k → (m : Made) × Contains made m × Contains (keys m.worker) k

keys_done : (kind : Kind) (b : ℕ) (keys : ℕ → List ℕ) (made : List Made) → ((m : Made) → Contains made m → DoesOneOf kind b (keys m.worker) m.act)
    → DoKeys kind b keys made
keys_done kind b keys [] each = record { so_far = []; done = (refl, refl); among = λ k h. absurd (contains_none k h) }
keys_done kind b keys (m ∷ made) each =
    let one = each m (contains_head m made) in
    let k = one.0 in
    let rest = keys_done kind b keys made (λ x h. each x (contains_tail m x made h)) in
    record {
      so_far = k ∷ rest.so_far;
      done = (m.act ∷ [], acts_of made, changes m.act, map changes (acts_of made), refl, refl, inl record { act = m.act; only = refl; does = subst (λ (t : Bool). Does kind b k t m.act) (sym (answer_is_change kind b k one.2.0 m.act one.2.1)) one.2.1 }, rest.done);
      among = λ q h. ⊎_elim
          (λ (e : k ≡ q). (m, contains_head m made, subst (Contains (keys m.worker)) e one.1))
          (λ later. let it = rest.among q later in (it.0, contains_tail m it.0 made it.1, it.2))
          (contains_cases k q rest.so_far h);
    }

-- where there is room for all keys, there is room for some
room_for_some : (kind : Kind) (b : ℕ) (S : Keys) (some_keys all : List ℕ) → ((k : ℕ) → Contains some_keys k → Contains all k)
    → LeavesRoom kind b S all → LeavesRoom kind b S some_keys
room_for_some Insert b S some_keys all among room =
    let part : set.len (set_after Insert S some_keys) ≤ set.len (set_after Insert S all) =
    len_part (set_after Insert S some_keys) (set_after Insert S all)
    (λ q h. ⊎_elim (λ old. all_kept S all q old) (λ new. all_there S all q (among q new)) (there_cases S some_keys q h)) in
    omega (arith, part, room)
room_for_some Remove b S some_keys all among room = tt
room_for_some Ask b S some_keys all among room = tt

from_acts : (made : List Made) (a : Act) → Contains (acts_of made) a → (m : Made) × Contains made m × (m.act ≡ a)
from_acts [] a h = absurd (contains_none a h)
from_acts (m ∷ made) a h = ⊎_elim (λ e. (m, contains_head m made, e)) (λ later. let it = from_acts made a later in (it.0, contains_tail m it.0 made it.1, it.2)) (contains_cases m.act a (acts_of made) h)

-- ---- the acts of all rounds

module _ (r : Run) (run : RunInvariant r) where
  abbrev now : List Made
  now = history run.world

  abbrev pub all_made : List Made
  all_made = run.before ++ now

  pub so : HistorySpec run.world r.shape r.keep
  so = order_of_acts run.world r.shape r.words r.keep run.core

  pub both : RoundsSpec r.opening run.before now
  both = rounds_join r.opening run.before now

  pub meet : AllMeet (acts_of all_made) r.opening
  meet = both.meet run.meet (subst (AllMeet (acts_of now)) run.cells so.meet)

  pub workers : AreOf r.shape.workers all_made
  workers = both.workers r.shape.workers run.workers so.workers

  pub was : (v : ℕ) → v < r.shape.workers → WereTrue r.opening (acts_of all_made) (run.reads v ++ kept_of r.shape (r.keep v))
  was v mine = both.reads (run.reads v) (kept_of r.shape (r.keep v)) (run.was v mine) (subst (λ (cells : List ℕ). WereTrue cells (acts_of now) (kept_of r.shape (r.keep v))) run.cells (so.reads v mine))

  -- they lead to what the cells stand for
  pub lead : logical_cells run.world r.shape ≡ apply_acts (acts_of all_made) r.opening
  lead = so.cells ∙ ap (apply_acts (acts_of now)) run.cells ∙ sym both.cells

  pub each_does : (m : Made) → Contains all_made m → DoesOneOf r.kind r.shape.bits (r.keys m.worker) m.act
  each_does m h = ⊎_elim (run.acts m)
      (λ i.
      let o = so.opened m i in
      subst (DoesOneOf r.kind r.shape.bits (r.keys m.worker)) (sym o.2) ((run.doing m.worker (so.workers m i)).opened o.0 o.1))
      (Contains-append_cases run.before now m h)

  -- what a worker made of its own is among them
  own_among_all : (v : ℕ) → v < r.shape.workers → (a : Act) → Contains (own v run.before ++ own_acts_of (r.keep v)) a → Contains (acts_of all_made) a
  own_among_all v mine a h = subst (λ (acts : List Act). Contains acts a) (sym (map-append (λ (m : Made). m.act) run.before now)) (⊎_elim
      (λ i. Contains-append_left (acts_of run.before) (acts_of now) a (own_among v run.before a i))
      (λ i. Contains-append_right (acts_of run.before) (acts_of now) a (finished_among run.world r.shape r.words r.keep run.core v mine a i))
      (Contains-append_cases (own v run.before) (own_acts_of (r.keep v)) a h))

  -- those of one worker, in this round and in all
  abbrev own_now : (v : ℕ) → v < r.shape.workers → OwnActsSpec run.world v (r.keep v)
  own_now v mine = own_so_far run.world r.shape r.words r.keep v run.core mine

  own_succeeded : (v : ℕ) → v < r.shape.workers → own v now ≡ succeeded_now r.shape r.words (r.keep v)
  own_succeeded v mine =
      let k = r.keep v in
      (own_now v mine).succeeded
      ∙ ap (λ (os : List OwnDesc). reverse (map (λ (o : OwnDesc). act_of o.entries) os))
      (same_filtered (λ (o : OwnDesc). is_success (run.world.control (own_ref k o.number)))
      (λ (o : OwnDesc). has_succeeded r.shape r.words (own_ref k o.number) || is_noted_success k.side.facts (own_ref k o.number)) k.opened
      (λ o i. own_success run.world r.shape r.words r.keep run.core v mine o i))

  knows : (v : ℕ) → v < r.shape.workers → KnowsHeld (r.keep v).side v
  knows v mine = subst (KnowsHeld (r.keep v).side) (run.core.represents.kept v mine).worker (run.doing v mine).knows

  -- the cells stand for these values, and for no others
  pub are_now : AreNow r.shape r.words r.keep (apply_acts (acts_of all_made) r.opening)
  are_now = subst (AreNow r.shape r.words r.keep) lead record {
    size = cells_length r.shape (cells_after run.world run.world.act_count);
    stands = words_tell run.world r.shape r.words r.keep run.core knows;
    values = λ c word inside is.
        get_cells r.shape (cells_after run.world run.world.act_count) c inside
        ∙ ap (λ u. value_of u) (sym (words_say run.world r.shape r.words r.keep run.core c word inside is));
  }

  acts_so_far : ActsSoFar r run.before now
  acts_so_far = record {
    workers = workers;
    meet = meet;
    begun = λ v c mine inside. ap (λ (cells : List ℕ). get_or cells c 0) (sym run.cells) ∙ so.opening v c mine inside;
    succeeded = own_succeeded;
    cells = are_now;
  }

  did : (v : ℕ) → v < r.shape.workers → WorkerSpec r all_made v
  did v mine =
      let own_so = own_now v mine in
      record {
        acts = own v run.before ++ own_acts_of (r.keep v);
        left = own_so.later;
        reads = run.reads v ++ kept_of r.shape (r.keep v);
        each = (run.doing v mine).so_far;
        were_true = was v mine;
        are_own = both.acts v ∙ ap (λ (acts : List Act). own v run.before ++ acts) own_so.finished ∙ sym (append_assoc (own v run.before) (own_acts_of (r.keep v)) own_so.later);
        one_left = own_so.one;
        none_left = own_so.closed;
      }

  module _ (S : Keys) (all : List ℕ) (layout : Layout r.opening r.shape.bits S) (asked : (v k : ℕ) → v < r.shape.workers → Contains (r.keys v) k → Contains all k) (room : LeavesRoom r.kind r.shape.bits S all) where
    does_asked : (a : Act) → Contains (acts_of all_made) a → DoesOneOf r.kind r.shape.bits all a
    does_asked a h =
        let it = from_acts all_made a h in
        let one = each_does it.0 it.1 in
        subst (DoesOneOf r.kind r.shape.bits all) it.2 (one.0, asked it.0.worker one.0 (workers it.0 it.1) one.1, one.2)

    stands : MomentSpec r S run.before now
    stands =
        let ks = keys_done r.kind r.shape.bits r.keys all_made each_does in
        let acts = acts_so_far in
        let among_all : (k : ℕ) → Contains ks.so_far k → Contains all k = λ k h. let it = ks.among k h in asked it.0.worker k (workers it.0 it.1) it.2 in
        let phase = acts_are_a_phase r.kind r.shape.bits r.opening S ks.so_far (acts_of all_made) layout meet (room_for_some r.kind r.shape.bits S ks.so_far all among_all room) (map changes (acts_of all_made)) ks.done in
        record {
          acts = acts;
          did = did;
          so_far = ks.so_far;
          each = ks.done;
          among = λ k h. let it = ks.among k h in (it.0.worker, workers it.0 it.1, it.2);
          layout = λ cells now_so. subst (λ (values : List ℕ). Layout values r.shape.bits (set_after r.kind S ks.so_far)) (one_now r.shape r.words r.keep (apply_acts (acts_of all_made) r.opening) cells acts.cells now_so) phase.0;
          reflects = λ v k mine h.
              let reads = run.reads v ++ kept_of r.shape (r.keep v) in
              let one = done_key r.kind r.shape.bits reads (r.done v) (own v run.before ++ own_acts_of (r.keep v)) (r.answers v) (run.doing v mine).so_far k h in
              key_shows r.kind r.shape.bits r.opening S (set_after r.kind S ks.so_far) all (acts_of all_made) one.0 reads k one.1 layout meet room does_asked phase.0 (was v mine) one.2
              (λ a i. own_among_all v mine a (one.3 a i));
        }

pub run_moment : RunMoment
run_moment r S all run layout asked room =
    stands r run S all layout asked room
