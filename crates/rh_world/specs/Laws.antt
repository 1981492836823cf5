-- What the laws of this crate say.
use Rattle.std.specs.Prelude.{◌≡◌, ◌≢◌, ℕ, ◌+◌, ◌<◌, ◌≤◌, ◌↔◌, List}
use Rattle.rh_world.specs.World.{Ref, World, IsOpened, IsDecided, HasFailed, In, IsFalling}
use Rattle.rh_world.specs.World.Cell.{desc, plain}
use Rattle.rh_world.specs.World.Control.{succeeded}
use Rattle.rh_world.specs.Logical.{IsLogical}
use Rattle.rh_world.specs.Facts.{HoldsIn, IsPrefix}
use Rattle.rh_world.specs.Facts.Fact.{over, stale}
use Rattle.rh_world.specs.Later.{Later}
use Rattle.rh_world.specs.Sides.{Side, KeptRead}
use Rattle.rh_world.specs.Rows.{Rows}
use Rattle.rh_world.specs.Acts.{Acts, MeetsOlds, cells_after, own_acts, successes_of}
use Rattle.rh_world.specs.Prefixes.{Prefixes, InOrder}
use Rattle.rh_world.specs.Claims.{Claims}
use Rattle.rh_world.specs.Rule.{Rule}
use Rattle.rh_world.specs.Moves.{Move, IsAllowed, released_cell, world_after, sides_after}
use Rattle.rh_world.specs.Ends.{start_world, start_sides, round_world, round_side, AllAtRest, WorldTurn, Runs}

-- Each allowed step keeps the rule, and each part of it by the parts before it. The claims need no other part.
abbrev pub EachStepKeeps : Type 0
EachStepKeeps = (w : World) (side : ℕ → Side) (who : ℕ) (m : Move) → Rule w side → IsAllowed w side who m
    → Rule (world_after w who m) (sides_after w side who m)

abbrev pub EachStepKeepsRows : Type 0
EachStepKeepsRows = (w : World) (side : ℕ → Side) (who : ℕ) (m : Move) → Rows w side → IsAllowed w side who m
    → Rows (world_after w who m) (sides_after w side who m)

abbrev pub EachStepKeepsActs : Type 0
EachStepKeepsActs = (w : World) (side : ℕ → Side) (who : ℕ) (m : Move) → Rows w side → Acts w side → IsAllowed w side who m
    → Acts (world_after w who m) (sides_after w side who m)

abbrev pub EachStepKeepsPrefixes : Type 0
EachStepKeepsPrefixes = (w : World) (side : ℕ → Side) (who : ℕ) (m : Move) → Rows w side → Acts w side → Prefixes w side
    → IsAllowed w side who m → Prefixes (world_after w who m) (sides_after w side who m)

abbrev pub EachStepKeepsClaims : Type 0
EachStepKeepsClaims = (w : World) (side : ℕ → Side) (who : ℕ) (m : Move) → Claims w side → IsAllowed w side who m
    → Claims (world_after w who m) (sides_after w side who m)

abbrev pub EachStepIsLater : Type 0
EachStepIsLater = (w : World) (side : ℕ → Side) (who : ℕ) (m : Move) → Rows w side → Acts w side → IsAllowed w side who m
    → Later w (world_after w who m)

abbrev pub RunsKeep : Type 0
RunsKeep = (w v : World) (side then : ℕ → Side) (turns : List WorldTurn) → Runs w side turns v then → Rule w side → Rule v then

-- The start meets the rule, and so does a new round where all are at rest.
abbrev pub StartMeets : Type 0
StartMeets = (workers keys : ℕ) (opening : ℕ → ℕ) → Rule (start_world workers keys opening) start_sides

abbrev pub NewRoundMeets : Type 0
NewRoundMeets = (w : World) (side : ℕ → Side) → Rule w side → AllAtRest side → Rule (round_world w) (λ v. round_side (side v))

-- The acts: the descriptors that succeeded, each once, and each met its olds. The cells stand for the opening cells
-- changed act by act. A worker's own acts, newest first, are those of its descriptors that succeeded.
pub record OneOrder (w : World) : Type 0 where
  pub made : (d : Ref) → w.control d ≡ succeeded → (i : ℕ) × (i < w.act_count) × (w.act i ≡ d)
  pub succeeded : (i : ℕ) → i < w.act_count → w.control (w.act i) ≡ succeeded
  pub once : (i j : ℕ) → i < w.act_count → j < w.act_count → w.act i ≡ w.act j → i ≡ j
  pub ordered : (i j : ℕ) → i < j → j < w.act_count → (w.act i).worker ≡ (w.act j).worker → (w.act i).number < (w.act j).number
  pub meets : (i : ℕ) → i < w.act_count → MeetsOlds w (w.act i) (cells_after w i)
  pub now : (c : ℕ) → IsLogical w c (cells_after w w.act_count c)
  pub own : (v : ℕ) (opened : List ℕ) → IsFalling opened → ((n : ℕ) → IsOpened (w.control (record { worker = v; number = n })) → In n opened)
      → own_acts w v w.act_count ≡ successes_of w v opened

abbrev pub ActsAreOneOrder : Type 0
ActsAreOneOrder = (w : World) (side : ℕ → Side) → Rule w side → OneOrder w

-- Where all are at rest, no mark and no descriptor stands in a cell, and every descriptor is decided.
pub record Settled (w : World) : Type 0 where
  pub cells : (c : ℕ) → w.cell c ≡ plain (cells_after w w.act_count c)
  pub decided : (d : Ref) → IsOpened (w.control d) → IsDecided (w.control d)

abbrev pub RestIsSettled : Type 0
RestIsSettled = (w : World) (side : ℕ → Side) → Rule w side → AllAtRest side → Settled w

-- What a failed descriptor and a kept read say. Of each there is a number of acts, among which the acts of its worker
-- are exactly those before it; after these the cell of the entry, which the descriptor has, did not hold the old value, or
-- the cell that was read held the word. Along the descriptors and reads of one worker the numbers never get smaller.
pub record Foretold (w : World) (side : ℕ → Side) : Type 0 where
  pub failed_acts : Ref → ℕ
  pub fails : (d : Ref) (e : ℕ) → HasFailed w d e
      → (e < w.size d) × IsPrefix w d.worker d.number (failed_acts d) × (cells_after w (failed_acts d) (w.target d e) ≢ w.old d e)
  pub reads : (v : ℕ) (k : KeptRead) → In k (side v).reads
      → IsPrefix w v k.next_number k.acts × (cells_after w k.acts k.cell ≡ k.word)
  pub two_reads : (v : ℕ) → InOrder (side v).reads
  pub two_failed : (d f : Ref) (e g : ℕ) → HasFailed w d e → HasFailed w f g → d.worker ≡ f.worker
      → d.number < f.number → failed_acts d ≤ failed_acts f
  pub failed_then_read : (d : Ref) (e : ℕ) (k : KeptRead) → HasFailed w d e → In k (side d.worker).reads
      → d.number < k.next_number → failed_acts d ≤ k.acts
  pub read_then_failed : (d : Ref) (e : ℕ) (k : KeptRead) → HasFailed w d e → In k (side d.worker).reads
      → k.next_number ≤ d.number → k.acts ≤ failed_acts d

abbrev pub PrefixesSay : Type 0
PrefixesSay = (w : World) (side : ℕ → Side) → Rule w side → Foretold w side

-- A descriptor whose worker has opened a later one is stale: it is decided, and stands in no cell if it succeeded. Where
-- such a one stands in a cell after all, a Release puts the old value there.
pub record StaleDescriptors (w : World) (side : ℕ → Side) : Type 0 where
  pub gone : (d later : Ref) → IsOpened (w.control d) → IsOpened (w.control later) → later.worker ≡ d.worker → d.number < later.number
      → HoldsIn w (over d) × HoldsIn w (stale d)
  pub released : (d : Ref) (e : ℕ) → HoldsIn w (stale d) → w.cell (w.target d e) ≡ desc d → released_cell w d e ≡ plain (w.old d e)

abbrev pub LaterOnesTell : Type 0
LaterOnesTell = (w : World) (side : ℕ → Side) → Rule w side → StaleDescriptors w side

-- The keys are shared out: a number below the keys was found by a Claim exactly if it is below the counter, by one
-- worker alone, and once. Each number that was found is below the counter, so that all keys were found where the end was.
pub record SharedOut (w : World) (side : ℕ → Side) : Type 0 where
  pub found : (n : ℕ) → n < w.keys → ((v : ℕ) × (v < w.workers) × In n (side v).claims) ↔ (n < w.counter)
  pub below : (v n : ℕ) → In n (side v).claims → n < w.counter
  pub one_worker : (u v n : ℕ) → In n (side u).claims → In n (side v).claims → u ≡ v
  pub once : (v : ℕ) → IsFalling (side v).claims
  pub counter : w.counter ≤ w.keys + w.workers

abbrev pub ClaimsShareOut : Type 0
ClaimsShareOut = (w : World) (side : ℕ → Side) → Rule w side → SharedOut w side
