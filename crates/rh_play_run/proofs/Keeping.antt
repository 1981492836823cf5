-- What no turn and no round changes of a game.
use Rattle.std.proofs.Common.{zero, suc, ◌≡◌, ℕ, ◌+◌, Bool, true, false, List, [], ◌∷◌, length, inl, inr, refl, sym, ◌∙◌, subst, length-set}
use Rattle.rh_words.specs.declared.steps.StepKind.{StepKind}
use Rattle.rh_turns.specs.declared.turning.Turn.{Turn}
use Rattle.rh_turns.specs.declared.turning.Turn.TheVariants.{Did, Finished, Spent, NoSuchWorker}
use Rattle.rh_turns.specs.Game.{Game}
use Rattle.rh_turns.specs.Laws.{turned}
use Rattle.rh_interleaving.specs.Turned.{Turned}
use Rattle.rh_play_text.specs.declared.schedule.Order.{Order}
use Rattle.rh_play_text.specs.declared.schedule.Order.TheVariants as order
use Rattle.rh_play_text.specs.declared.endings.Last.{Last}
use Rattle.rh_interleaving.proofs.Turning.{turned_so}
use Rattle.rh_play_run.specs.Pieces.{LogEntry}
use Rattle.rh_play_run.specs.Schedule.{ATurn, CarriesOut, CarriesOutAll, PassesToRest, Rounds, TurnOfEach, TurnsOf, TurnsUntil, last_of}

-- the keys, the table's size and first cells, and the number of workers
pub record Keeps (g next : Game) : Type 0 where
  pub kind : next.kind ≡ g.kind
  pub shape : next.shape ≡ g.shape
  pub opening : next.opening ≡ g.opening
  pub keys : next.keys ≡ g.keys
  pub workers : length next.hands ≡ length g.hands

stays : (g next : Game) → next ≡ g → Keeps g next
stays g next is = subst (Keeps g) (sym is) (record { kind = refl; shape = refl; opening = refl; keys = refl; workers = refl })

pub then_keeps : (g mid next : Game) → Keeps g mid → Keeps mid next → Keeps g next
then_keeps g mid next a b = record {
  kind = b.kind ∙ a.kind;
  shape = b.shape ∙ a.shape;
  opening = b.opening ∙ a.opening;
  keys = b.keys ∙ a.keys;
  workers = b.workers ∙ a.workers;
}

turn_keeps : (g : Game) (who : ℕ) (made : Turn) (next : Game) → Turned g who made next → Keeps g next
turn_keeps g who (Did k) next h =
    subst (Keeps g) (sym h.next_is)
    (record { kind = refl; shape = refl; opening = refl; keys = refl; workers = length-set g.hands who h.stepped })
turn_keeps g who _ next h = stays g next h.0

round_keeps : (g : Game) (began : Bool) (next : Game) → Rounds g began next → Keeps g next
round_keeps g true next h =
    subst (Keeps g) (sym h.1.next_is) (record { kind = refl; shape = refl; opening = refl; keys = refl; workers = h.1.workers })
round_keeps g false next h = stays g next h.1

a_turn_keeps : (g : Game) (who : ℕ) (made : Turn) (pieces : List LogEntry) (next : Game) → ATurn g who made pieces next → Keeps g next
a_turn_keeps g who made pieces next h = turn_keeps g who made next (turned_so g who made h.touched next h.traced)

turns_keep : (who turns : ℕ) (g : Game) (before told : Last) (pieces : List LogEntry) (next : Game) → TurnsOf who turns g before told pieces next → Keeps g next
unfolding TurnsOf
turns_keep who zero g before told pieces next h = stays g next h.2
turns_keep who (suc turns) g before told pieces next (made, first, others, mid, turned, rest, is) =
    then_keeps g mid next (a_turn_keeps g who made first mid turned) (turns_keep who turns mid (last_of made) told others next rest)

until_keeps : (limit who : ℕ) (kind : StepKind) (g : Game) (told : Last) (pieces : List LogEntry) (next : Game) → TurnsUntil limit who kind g told pieces next → Keeps g next
unfolding TurnsUntil
until_keeps zero who kind g told pieces next h = stays g next h.2
until_keeps (suc limit) who kind g told pieces next (made, first, mid, turned, inl reached) =
    then_keeps g mid next (a_turn_keeps g who made first mid turned) (stays mid next reached.3)
until_keeps (suc limit) who kind g told pieces next (made, first, mid, turned, inr (missed, others, rest, is)) =
    then_keeps g mid next (a_turn_keeps g who made first mid turned) (until_keeps limit who kind mid told others next rest)

pub each_keeps : (count from : ℕ) (g : Game) (before some : Bool) (pieces : List LogEntry) (next : Game) → TurnOfEach count from g before some pieces next → Keeps g next
unfolding TurnOfEach
each_keeps zero from g before some pieces next h = stays g next h.2
each_keeps (suc count) from g before some pieces next (made, first, others, mid, turned, rest, is) =
    then_keeps g mid next (a_turn_keeps g from made first mid turned) (each_keeps count (from + 1) mid _ some others next rest)

rests_keep : (passes more : ℕ) (g : Game) (pieces : List LogEntry) (next : Game) → PassesToRest passes more g pieces next → Keeps g next
unfolding PassesToRest
rests_keep zero more g pieces next (some, turns) = each_keeps more 0 g false some pieces next turns
rests_keep (suc passes) more g pieces next (true, first, others, mid, turns, rest, is) =
    then_keeps g mid next (each_keeps (length g.hands) 0 g false true first mid turns) (rests_keep passes more mid others next rest)
rests_keep (suc passes) more g pieces next (false, first, others, mid, turns, same, is) =
    then_keeps g mid next (each_keeps (length g.hands) 0 g false false first mid turns) (stays mid next same.1)

pub order_keeps : (todo : Order) (g : Game) (pieces : List LogEntry) (next : Game) → CarriesOut todo g pieces next → Keeps g next
unfolding CarriesOut
order_keeps (order.Turn worker turns) g pieces next (told, steps, h, is) = turns_keep worker turns g _ told steps next h
order_keeps (order.Until worker step) g pieces next (told, steps, h, is) = until_keeps _ worker _ g told steps next h
order_keeps order.Rest g pieces next (told, steps, h, stands, is) = rests_keep _ _ g steps next h
order_keeps order.Round g pieces next (began, h, is) = round_keeps g began next h
order_keeps order.Show g pieces next (same, is) = stays g next same

pub schedule_keeps : (orders : List Order) (g : Game) (pieces : List LogEntry) (next : Game) → CarriesOutAll orders g pieces next → Keeps g next
unfolding CarriesOutAll
schedule_keeps [] g pieces next h = stays g next h.1
schedule_keeps (todo ∷ orders) g pieces next (first, others, mid, does, rest, is) =
    then_keeps g mid next (order_keeps todo g first mid does) (schedule_keeps orders mid others next rest)
