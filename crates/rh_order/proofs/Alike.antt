-- A run tells of the workers of its table alone.
use Rattle.std.proofs.Common.{◌≡◌, ℕ, ◌<◌, subst, Bool, List}
use Rattle.rh_ledger.specs.declared.tally.Kind.{Kind}
use Rattle.rh_world.specs.World.{World}
use Rattle.rh_words.specs.declared.shape.Shape.{Shape}
use Rattle.rh_words.specs.View.{View}
use Rattle.rh_rule.specs.Core.{Core}
use Rattle.rh_rule.specs.Represents.{Kept}
use Rattle.rh_acts.specs.Act.{Act}
use Rattle.rh_acts.specs.Done.{Kept as KeptWord}
use Rattle.rh_order.specs.Laws.{AreAlike, RunsAlike}
use Rattle.rh_order.specs.Run.{DoesOneOf, ProgressInvariant, Run}

core_alike : (w : World) (z : Shape) (words : List ℕ) (keep next : ℕ → View) → ((v : ℕ) → v < z.workers → keep v ≡ next v) → Core w z words keep → Core w z words next
core_alike w z words keep next same core =
    let m = core.represents in
    record {
      side = core.side;
      rule = core.rule;
      represents = record {
        sized = m.sized;
        workers = m.workers;
        keys = m.keys;
        counter = m.counter;
        cells = m.cells;
        controls = m.controls;
        rows = m.rows;
        kept = λ v mine. subst (Kept z words w (core.side v) v) (same v mine) (m.kept v mine);
        beyond = m.beyond;
      };
    }

doing_alike : (r s : Run) (v : ℕ) (acts : List Act) (reads : List KeptWord) → AreAlike r s v → (kind : Kind) (z : Shape)
    → ProgressInvariant z kind (record { view = r.keep v; keys = r.keys v; acts = acts; reads = reads; done = r.done v; answers = r.answers v })
    → ProgressInvariant z kind (record { view = s.keep v; keys = s.keys v; acts = acts; reads = reads; done = s.done v; answers = s.answers v })
doing_alike r s v acts reads alike kind z is =
    subst (λ (x : View). ProgressInvariant z kind (record { view = x; keys = s.keys v; acts = acts; reads = reads; done = s.done v; answers = s.answers v })) alike.kept
    (subst (λ (x : List ℕ). ProgressInvariant z kind (record { view = r.keep v; keys = x; acts = acts; reads = reads; done = s.done v; answers = s.answers v })) alike.keys_are
    (subst (λ (x : List ℕ). ProgressInvariant z kind (record { view = r.keep v; keys = r.keys v; acts = acts; reads = reads; done = x; answers = s.answers v })) alike.done_are
    (subst (λ (x : List Bool). ProgressInvariant z kind (record { view = r.keep v; keys = r.keys v; acts = acts; reads = reads; done = r.done v; answers = x })) alike.answers_are is)))

pub runs_alike : RunsAlike
runs_alike r keep keys done answers alike run = record {
  world = run.world;
  core = core_alike run.world r.shape r.words r.keep keep (λ v mine. (alike v mine).kept) run.core;
  before = run.before;
  reads = run.reads;
  meet = run.meet;
  cells = run.cells;
  workers = run.workers;
  acts = λ m h. subst (λ (x : List ℕ). DoesOneOf r.kind r.shape.bits x m.act) (alike m.worker (run.workers m h)).keys_are (run.acts m h);
  was = run.was;
  doing = λ v mine. doing_alike r (record r { keep = keep; keys = keys; done = done; answers = answers }) v _ (run.reads v) (alike v mine) r.kind r.shape (run.doing v mine);
}
