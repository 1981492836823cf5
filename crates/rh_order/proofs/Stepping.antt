-- A run goes on by a step of one of its workers.
use Rattle.std.proofs.Common.{◌≡◌, ℕ, ◌<◌, inl, inr, ⊎_elim, refl, sym, ap, ◌∙◌, subst, eqb, Bool, true, false, cond, List, [], ◌∷◌, ◌++◌, Option, Some, None}
use Rattle.std.specs.List.{Contains, slice_index}
use Rattle.std.proofs.lemmas.Bool.{eqb-true}
use Rattle.std.proofs.lemmas.List.{append-nil, append_assoc}
use Rattle.std.proofs.lemmas.List.Elements.{Contains-append_right}
use Rattle.rh_ledger.specs.declared.tally.Kind.{Kind}
use Rattle.rh_world.specs.World.{World, In, updated}
use Rattle.rh_world.proofs.Updated.{some_not_none, updated_here}
use Rattle.rh_words.specs.declared.shape.Shape.{Shape}
use Rattle.rh_words.specs.View.{OwnDesc, View}
use Rattle.rh_words.specs.Steps.{Allowed, Step, StepsTo, noted}
use Rattle.rh_rule.specs.Core.{Core, world_then}
use Rattle.rh_rule.specs.Sound.{Sound}
use Rattle.rh_rule.proofs.Soundness.{views_are_sound}
use Rattle.rh_rule.proofs.SeatsKept.{noted_opening}
use Rattle.rh_rule.proofs.StepLaw.{each_step_keeps}
use Rattle.rh_acts.specs.Act.{Act}
use Rattle.rh_acts.specs.Done.{Does, IsDone, IsAsRead, Kept, KeyDone}
use Rattle.rh_acts.proofs.DoneLemmas.{key_more, more_read, one_more}
use Rattle.rh_order.specs.History.{act_of, kept_of, opening_cells, own_acts_of, value_of}
use Rattle.rh_order.specs.OwnActs.{Orderly, StepFinishes}
use Rattle.rh_order.proofs.Finishing.{steps_finish}
use Rattle.rh_order.proofs.Happening.{order_of_acts}
use Rattle.rh_order.proofs.Joining.{rounds_follow}
use Rattle.rh_order.proofs.Learning.{reads_stay}
use Rattle.rh_order.specs.Advance.{Advances, Fails, GoesOn, Opens, Succeeds}
use Rattle.rh_order.specs.Laws.{RunClaims, RunGathers, RunSteps, WorkerClaims, WorkerSteps, furthered, stepped}
use Rattle.rh_order.specs.Run.{DoesOneOf, Progress, ProgressInvariant, Run, RunInvariant, also_done, also_answered, progress}
use Rattle.rh_order.specs.Known.{KnowsHeld}
use Rattle.rh_order.proofs.Growing.{more_behind}
use Rattle.rh_order.proofs.Knowing.{knows_next}

-- ---- what becomes of one worker

module _ (kind : Kind) (z : Shape) (p : Progress) (next : View) (is : ProgressInvariant z kind p) (orderly : Orderly next) (knows : KnowsHeld next.side next.worker) (stay : (r : Kept) → Contains (kept_of z p.view) r → Contains (kept_of z next) r) where
  -- all that it read by now
  abbrev read : List Kept
  read = p.reads ++ kept_of z next

  -- by what it read now it has done what it had done
  read_more : IsDone kind z.bits read p.done (p.acts ++ own_acts_of p.view) p.answers
  read_more = more_read kind z.bits (p.reads ++ kept_of z p.view) read p.done (p.acts ++ own_acts_of p.view) p.answers (more_behind p.reads (kept_of z p.view) (kept_of z next) stay) is.so_far

  acts_stay : own_acts_of next ≡ own_acts_of p.view → IsDone kind z.bits read p.done (p.acts ++ own_acts_of next) p.answers
  acts_stay same = rw same read_more

  -- one key more, by these own acts
  one_done : (k : ℕ) (so : Bool) (before first : List Act) → IsDone kind z.bits read p.done before p.answers
      → KeyDone kind z.bits read k first so → before ++ first ≡ p.acts ++ own_acts_of next
      → IsDone kind z.bits read (p.done ++ k ∷ []) (p.acts ++ own_acts_of next) (p.answers ++ so ∷ [])
  one_done k so before first so_far now same =
      subst (λ (acts : List Act). IsDone kind z.bits read (p.done ++ k ∷ []) acts (p.answers ++ so ∷ [])) same
      (one_more kind z.bits read p.done k before first p.answers so so_far now)

  -- each descriptor that it opened by now does one of its keys
  abbrev pub OpenedFor : Type 0
  OpenedFor = (o : OwnDesc) → In o next.opened → DoesOneOf kind z.bits p.keys (act_of o.entries)

  pub opened_same : next.opened ≡ p.view.opened → OpenedFor
  opened_same same o i = is.opened o (subst (In o) same i)

  pub opened_more : (k : ℕ) → Contains p.keys k → (own : OwnDesc) (changes : Bool) → next.opened ≡ own ∷ p.view.opened → Does kind z.bits k changes (act_of own.entries) → OpenedFor
  opened_more k mine own changes more does o i = ⊎_elim
      (λ (e : o ≡ own). (k, mine, (changes, subst (λ (x : OwnDesc). Does kind z.bits k changes (act_of x.entries)) (sym e) does)))
      (λ j. is.opened o j) (subst (In o) more i)

  -- no key is done
  pub none_done : own_acts_of next ≡ own_acts_of p.view → OpenedFor → ProgressInvariant z kind (record p { view = next })
  none_done same opened = record { orderly = orderly; so_far = acts_stay same; opened = opened; knows = knows }

  -- key k is done, as what was read tells
  pub done_by_reads : (k : ℕ) (so : Bool) → own_acts_of next ≡ own_acts_of p.view → IsAsRead kind z.bits (kept_of z next) k so → OpenedFor → ProgressInvariant z kind (furthered p next k (Some so))
  done_by_reads k so same tells opened = record {
    orderly = orderly;
    so_far = one_done k so (p.acts ++ own_acts_of next) [] (acts_stay same)
        (key_more kind z.bits (kept_of z next) read k [] so (Contains-append_right p.reads (kept_of z next)) (inr record { none = refl; tells = tells }))
        (append-nil (p.acts ++ own_acts_of next));
    opened = opened;
    knows = knows;
  }

  -- it is done by an own act
  pub act_done : (k : ℕ) (so : Bool) (act : Act) → own_acts_of next ≡ own_acts_of p.view ++ act ∷ [] → Does kind z.bits k so act → OpenedFor → ProgressInvariant z kind (furthered p next k (Some so))
  act_done k so act more does opened = record {
    orderly = orderly;
    so_far = one_done k so (p.acts ++ own_acts_of p.view) (act ∷ []) read_more (inl record { act = act; only = refl; does = does })
        (append_assoc p.acts (own_acts_of p.view) (act ∷ []) ∙ ap (λ (acts : List Act). p.acts ++ acts) (sym more));
    opened = opened;
    knows = knows;
  }

  -- ---- in a step

  module _ (finishes : StepFinishes p.view next) where
    still : GoesOn p.view next → own_acts_of next ≡ own_acts_of p.view
    still on = finishes.stays (λ n e. on.current ∙ e)

    pub goes_on : GoesOn p.view next → ProgressInvariant z kind (record p { view = next })
    goes_on on = none_done (still on) (opened_same on.opened)

    module _ (k : ℕ) (mine : Contains p.keys k) where
      not_done : Advances z kind k p.view next None → ProgressInvariant z kind (record p { view = next })
      not_done a = ⊎_elim goes_on (⊎_elim
          (λ (new : Opens z kind k p.view next).
          none_done (finishes.stays (λ n e. absurd (some_not_none n (sym e ∙ new.closed)))) (opened_more k mine new.own new.changes new.opened new.does))
          (λ (old : Fails p.view next).
          none_done (finishes.fails old.own old.control old.closes old.before old.in_vain) (opened_same old.opened))) a

      is_done : (so : Bool) → Advances z kind k p.view next (Some so) → ProgressInvariant z kind (furthered p next k (Some so))
      is_done so a = ⊎_elim
          (λ (on : GoesOn p.view next × IsAsRead kind z.bits (kept_of z next) k so). done_by_reads k so (still on.0) on.1 (opened_same on.0.opened))
          (λ (old : Succeeds z kind k p.view next so). act_done k so (act_of old.own.entries) (finishes.succeeds old.own old.closes old.before) old.does (opened_same old.opened)) a

      pub advances : (answer : Option Bool) → Advances z kind k p.view next answer → ProgressInvariant z kind (furthered p next k answer)
      advances None a = not_done a
      advances (Some so) a = is_done so a

-- ---- by its own step

module _ (kind : Kind) (z : Shape) (p : Progress) (s : Step) (word : ℕ) (next : View) (allowed : Allowed z p.view s) (steps : next ≡ noted z p.view s word) (sound : Sound z next) (is : ProgressInvariant z kind p) where
  finishes_so : StepFinishes p.view next
  finishes_so = subst (StepFinishes p.view) (sym steps) (steps_finish z p.view s word allowed (subst (Sound z) steps sound) is.orderly)

  knows_so : KnowsHeld next.side next.worker
  knows_so = subst (λ (x : View). KnowsHeld x.side x.worker) (sym steps) (knows_next z p.view s word allowed (subst (Sound z) steps sound) is.knows)

  stay_kept : (r : Kept) → Contains (kept_of z p.view) r → Contains (kept_of z next) r
  stay_kept r h = subst (λ (x : View). Contains (kept_of z x) r) (sym steps) ((reads_stay z p.view s word).1 r h)

  at_key : (k : ℕ) (answer : Option Bool) → Contains p.keys k → Advances z kind k p.view next answer → ProgressInvariant z kind (furthered p next k answer)
  at_key k answer mine a = advances kind z p next is finishes_so.orderly knows_so stay_kept finishes_so k mine answer a

  at_none : GoesOn p.view next → ProgressInvariant z kind (record p { view = next })
  at_none on = goes_on kind z p next is finishes_so.orderly knows_so stay_kept finishes_so on

pub worker_steps : WorkerSteps
worker_steps kind z p s word next k answer allowed steps sound mine a is = at_key kind z p s word next allowed steps sound is k answer mine a

pub worker_claims : WorkerClaims
worker_claims kind z p word next allowed steps sound is =
    at_none kind z p Step.claims word next allowed steps sound is
    record { opened = ap (λ (x : View). x.opened) steps; current = ap (λ (x : View). x.side.current) steps }

-- ---- the run

pub run_gathers : RunGathers
run_gathers r run then next done answers w who core lt same doing =
    let so = order_of_acts run.world r.shape r.words r.keep run.core in
    record {
      world = w;
      core = core;
      before = run.before;
      reads = run.reads;
      meet = run.meet;
      cells = rounds_follow w r.shape next who (opening_cells run.world r.shape) (order_of_acts w r.shape then next core) lt so.size
          (λ c inside. ap (λ (cells : List ℕ). value_of (slice_index cells c)) same ∙ sym (so.opening who c lt inside))
          ∙ run.cells;
      workers = run.workers;
      acts = run.acts;
      was = run.was;
      doing = doing;
    }

-- a function that is changed to what it was
same_updated : {A : Type 0} (f : ℕ → A) (k : ℕ) → updated f k (f k) ≡ f
same_updated f k = λ i j. go j (eqb j k) refl i
  where
    go : (j : ℕ) (here : Bool) → eqb j k ≡ here → cond here (f k) (f j) ≡ f j
    go j true is = ap f (sym (eqb-true j k is))
    go j false is = refl

module _ (r : Run) (who : ℕ) (s : Step) (word : ℕ) (then : List ℕ) (next : View) (lt : who < r.shape.workers) (allowed : Allowed r.shape (r.keep who) s) (steps : StepsTo r.shape s r.words (r.keep who) word then next) (run : RunInvariant r) where
  abbrev later : World
  later = world_then r.shape run.world who (r.keep who) s

  abbrev kept_then : ℕ → View
  kept_then = updated r.keep who next

  core_then : Core later r.shape then kept_then
  core_then = each_step_keeps run.world r.shape r.words then r.keep who s word next run.core lt allowed steps

  next_is : kept_then who ≡ next
  next_is = updated_here r.keep who who next refl

  sound_then : Sound r.shape next
  sound_then = subst (Sound r.shape) next_is (views_are_sound later r.shape then kept_then who core_then lt)

  -- the worker goes on so, and each other one stays as it was
  module _ (d : List ℕ) (t : List Bool) (doing : ProgressInvariant r.shape r.kind (record (progress r run.before run.reads who) { view = next; done = d; answers = t })) where
    abbrev run_then : Run
    run_then = record (stepped r then who next) { done = updated r.done who d; answers = updated r.answers who t }

    each_is : (v : ℕ) → v < r.shape.workers → (here : Bool) → eqb v who ≡ here
        → ProgressInvariant r.shape r.kind (record (progress r run.before run.reads v) { view = cond here next (r.keep v); done = cond here d (r.done v); answers = cond here t (r.answers v) })
    each_is v l true is = subst (λ u. ProgressInvariant r.shape r.kind (record (progress r run.before run.reads u) { view = next; done = d; answers = t })) (sym (eqb-true v who is)) doing
    each_is v l false is = run.doing v l

    goes_on_then : RunInvariant run_then
    goes_on_then = run_gathers r run then kept_then (updated r.done who d) (updated r.answers who t) later who core_then lt
        (ap (λ (v : View). v.opening) (next_is ∙ steps.view_is) ∙ noted_opening r.shape (r.keep who) s word) (λ v l. each_is v l (eqb v who) refl)

pub run_steps : RunSteps
run_steps r who s word then next k answer lt allowed steps mine a run =
    goes_on_then r who s word then next lt allowed steps run (also_done (r.done who) k answer) (also_answered (r.answers who) answer)
    (worker_steps r.kind r.shape (progress r run.before run.reads who) s word next k answer allowed steps.view_is
    (sound_then r who s word then next lt allowed steps run) mine a (run.doing who lt))

pub run_claims : RunClaims
run_claims r who word then next lt allowed steps run =
    let same : RunInvariant (record (stepped r then who next) { done = updated r.done who (r.done who); answers = updated r.answers who (r.answers who) }) =
    goes_on_then r who Step.claims word then next lt allowed steps run (r.done who) (r.answers who)
    (worker_claims r.kind r.shape (progress r run.before run.reads who) word next allowed steps.view_is
    (sound_then r who Step.claims word then next lt allowed steps run) (run.doing who lt)) in
    subst (λ (t : ℕ → List Bool). RunInvariant (record (stepped r then who next) { answers = t })) (same_updated r.answers who)
    (subst (λ (d : ℕ → List ℕ). RunInvariant (record (stepped r then who next) { done = d; answers = updated r.answers who (r.answers who) })) (same_updated r.done who) same)
