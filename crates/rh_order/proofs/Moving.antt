-- A run goes on by its moves, so that at each moment it keeps the keys that are done.
use Rattle.std.proofs.Common.{ℕ, ◌<◌, List, [], ◌∷◌, ◌++◌}
use Rattle.std.specs.List.{Contains}
use Rattle.rh_layout.specs.Layout.{Keys, Layout}
use Rattle.rh_acts.specs.Act.{apply_acts}
use Rattle.rh_acts.specs.Workers.{LeavesRoom, acts_of}
use Rattle.rh_order.specs.History.{history}
use Rattle.rh_order.specs.Laws.{started}
use Rattle.rh_order.specs.Moves.{AreNext, MayCome, KeepsKeys, RunMove, NoKeyIsLost, after, after_all}
use Rattle.rh_order.specs.Run.{Run, RunInvariant}
use Rattle.rh_order.proofs.Standing.{run_moment}
use Rattle.rh_order.proofs.Stepping.{run_claims, run_steps}
use Rattle.rh_order.proofs.Turning.{run_rounds, run_starts}

goes_on : (r : Run) (m : RunMove) → MayCome r m → RunInvariant r → RunInvariant (after r m)
goes_on r (RunMove.steps who k s word then next answer) it run = run_steps r who s word then next k answer it.within it.allowed it.made it.own_key it.advances run
goes_on r (RunMove.claims who word then next) it run = run_claims r who word then next it.within it.allowed it.made run
goes_on r (RunMove.round then cells) it run = run_rounds r then cells it.rest it.cells_are it.wiped run

-- what the cells stand for is the first set, changed, and reflects what is done, now and after any moves
module _ (S : Keys) (keys : ℕ → List ℕ) (all : List ℕ) where
  keeps : (r : Run) → Layout r.opening r.shape.bits S → ((v k : ℕ) → v < r.shape.workers → Contains (r.keys v) k → Contains all k)
      → ((v k : ℕ) → Contains (r.keys v) k → Contains (keys v) k) → LeavesRoom r.kind r.shape.bits S all → RunInvariant r → KeepsKeys S keys r
  keeps r layout asked given room run =
      let moment = run_moment r S all run layout asked room in
      record {
        cells = apply_acts (acts_of (run.before ++ history run.world)) r.opening;
        stand = moment.acts.cells;
        so_far = moment.so_far;
        among = λ k there. let of = moment.among k there in (of.0, of.1, given of.0 k of.2);
        layout = moment.layout (apply_acts (acts_of (run.before ++ history run.world)) r.opening) moment.acts.cells;
        reflects = moment.reflects;
      }

  keeps_on : (r : Run) (moves : List RunMove) → Layout r.opening r.shape.bits S → ((v k : ℕ) → v < r.shape.workers → Contains (r.keys v) k → Contains all k)
      → ((v k : ℕ) → Contains (r.keys v) k → Contains (keys v) k) → LeavesRoom r.kind r.shape.bits S all → AreNext r moves → RunInvariant r → KeepsKeys S keys (after_all r moves)
  keeps_on r [] layout asked given room next run = keeps r layout asked given room run
  keeps_on r (RunMove.steps who k s word then view answer ∷ moves) layout asked given room next run =
      let m = RunMove.steps who k s word then view answer in keeps_on (after r m) moves layout asked given room next.1 (goes_on r m next.0 run)
  keeps_on r (RunMove.claims who word then view ∷ moves) layout asked given room next run =
      let m = RunMove.claims who word then view in keeps_on (after r m) moves layout asked given room next.1 (goes_on r m next.0 run)
  keeps_on r (RunMove.round then cells ∷ moves) layout asked given room next run =
      let m = RunMove.round then cells in keeps_on (after r m) moves layout asked given room next.1 (goes_on r m next.0 run)

pub no_key_is_lost : NoKeyIsLost
no_key_is_lost kind z cells S keys all moves layout asked room next =
    keeps_on S keys all (started kind z cells keys) moves layout asked (λ v k there. there) room next (run_starts kind z cells keys layout.size)
