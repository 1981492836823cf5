-- The cell that a worker holds between two of its steps: where its unsettled mark stands, or the one that it owes.
use Rattle.std.specs.Prelude.{◌≡◌, ℕ, ◌⊎◌, Option, Some, None, [], ◌∷◌}
use Rattle.rh_world.specs.World.{In}
use Rattle.rh_world.specs.Facts.Fact.{desc_is, found, old_is, target_is}
use Rattle.rh_world.specs.Moves.{MayWork}
use Rattle.rh_words.specs.View.{View, own_ref}
use Rattle.rh_words.specs.Words.{ref_of}
use Rattle.rh_helping.specs.Goal.{debt_of, owed_of}
use Rattle.rh_helping.specs.declared.goal.Owed.{Owed}
use Rattle.rh_helping.specs.Next.{Looking, Work}
use Rattle.rh_helping.specs.Next.{Looking as looking}
use Rattle.rh_helping.specs.Next.{Work as work}

abbrev pub held_by : Work → Option Owed
held_by (work.Control d) = None
held_by (work.Length d k) = None
held_by (work.LengthSerial d k n) = None
held_by (work.EntryCell t) = t.owed
held_by (work.EntryOld t c) = t.owed
held_by (work.EntryNew t c o) = t.owed
held_by (work.EntrySerial g) = g.task.owed
held_by (work.MarkSerial g) = None
held_by (work.MarkDesc g) = None
held_by (work.MarkEntry g) = None
held_by (work.Place g) = None
held_by (work.Settle s g) = None
held_by (work.MarkControl p) = Some (owed_of p.goal)
held_by (work.Promote p) = Some (owed_of p.goal)
held_by (work.Demote p k) = Some (owed_of p.goal)
held_by (work.Recheck g promoted) = Some (owed_of g)
held_by (work.WriteReason t) = None
held_by (work.Fail t) = None
held_by (work.Succeed t) = None
held_by (work.Withdraw d) = None
held_by (work.ReadReason t by) = t.owed
held_by (work.Release g) = g.task.owed
held_by (work.GiveBack o) = Some o

-- the same, of a worker that looks at a cell
abbrev pub held_in : Looking → Option Owed
held_in looking.Read = None
held_in (looking.Settle s) = None
held_in (looking.Help w) = held_by w

-- the own mark is unsettled, and was found in the cell, as one for the descriptor
pub record IsUnsettled (v : View) (o : Owed) : Type 0 where
  pub number : ℕ
  pub unsettled : v.side.unsettled ≡ Some number
  pub met : In (found (own_ref v number) o.piece.cell) v.side.facts
  pub names : In (desc_is (own_ref v number) (ref_of o.piece.desc)) v.side.facts

-- the cell is that of an entry whose old value is noted
pub record KnowsOld (v : View) (o : Owed) : Type 0 where
  pub work : MayWork v.side (ref_of o.piece.desc) o.piece.entry
  pub cell : In (target_is (ref_of o.piece.desc) o.piece.entry o.piece.cell) v.side.facts
  pub old : In (old_is (ref_of o.piece.desc) o.piece.entry o.old) v.side.facts

-- it holds no cell, or this one
abbrev pub IsHeld : View → Option Owed → Type 0
IsHeld v None = (v.side.unsettled ≡ None) × (v.side.debts ≡ [])
IsHeld v (Some o) = KnowsOld v o
    × ((IsUnsettled v o × (v.side.debts ≡ [])) ⊎ ((v.side.unsettled ≡ None) × (v.side.debts ≡ debt_of o ∷ [])))
