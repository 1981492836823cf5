-- The second of the two swaps of a restricted double-compare single-swap (Harris, Fraser and Pratt 2002): it settles a mark by
-- what the control of its descriptor tells. `rh_helping` has the stages of it, and which one comes next.
use Rattle.std.specs.Prelude.{◌≡◌, ℕ, Option, None, Some}
use Rattle.rh_world.specs.World.{Control}
use Rattle.rh_world.specs.World.Control.{undecided}
use Rattle.rh_words.specs.declared.shape.Shape.{Shape}
use Rattle.rh_words.specs.declared.reference.Piece.{Piece}
use Rattle.rh_words.specs.declared.reference.Ref.{Ref as Reference}
use Rattle.rh_words.specs.declared.steps.StepKind.TheVariants as kind
use Rattle.rh_words.specs.View.{View}
use Rattle.rh_rule.specs.declared.rule.Sitter.{Sitter}
use Rattle.rh_helping.specs.CellContent.{state_said}
use Rattle.rh_helping.specs.Next.{Settles}
use Rattle.rh_helping.specs.Next.{Settles as settles}
use Rattle.rh_helping.specs.Requested.{asked_of_mark}
use Rattle.rh_helping.specs.Settling.{GoesOn, kind_of_settling}
use Rattle.rh_shared.specs.declared.seat.OwnMark.{OwnMark}
use Rattle.rh_rdcss.specs.Calls.{Learned}
use Rattle.rh_rdcss.specs.Placing.{NotesMark}

-- the mark is the worker's own, and unsettled
abbrev pub IsOwnUnsettled : View → Reference → Type 0
IsOwnUnsettled v x = (x.worker ≡ v.worker) × (v.side.unsettled ≡ Some x.number)

-- the mark is the one that the seat keeps
abbrev pub Recalls : View → Reference → Option OwnMark → Type 0
Recalls v x None = ⊥
Recalls v x (Some own) = (own.mark ≡ x) × NotesMark v own

-- The steps with a mark from this stage on, each by the word that the one before it found. The answer is the word that the
-- Settle found; or none, where a Read showed that the mark or its descriptor is stale, and no Settle was made.
pub data RunsSettling (z : Shape) : Settles → Sitter → (answer : Option ℕ) → Sitter → Type 0 where
  settled : {s : Settles} {k next : Sitter} {word : ℕ} → kind_of_settling s ≡ kind.Settle → Learned z (asked_of_mark s) k word next → RunsSettling z s k (Some word) next
  left : {s : Settles} {k next : Sitter} (word : ℕ) → kind_of_settling s ≡ kind.Read → Learned z (asked_of_mark s) k word next → GoesOn s word None → RunsSettling z s k None next
  goes : {s then : Settles} {k middle next : Sitter} {answer : Option ℕ} (word : ℕ) → Learned z (asked_of_mark s) k word middle → GoesOn s word (Some then)
      → RunsSettling z then middle answer next → RunsSettling z s k answer next

-- The own mark is settled to its descriptor where the control tells that it is undecided. Else it is settled to the old value,
-- which its worker keeps: so also where the descriptor is stale.
abbrev pub own_target : (old : ℕ) → Option Control → Option ℕ
own_target old (Some undecided) = None
own_target old other = Some old

-- for what an own mark is that was found in this cell
abbrev pub own_piece : OwnMark → (c : ℕ) → Piece
own_piece own c = record { desc = own.piece.desc; entry = own.piece.entry; cell = c }

-- the control of its descriptor was read, and the own mark was settled by it; the Settle found this word
pub record SettlesOwn (z : Shape) (c : ℕ) (own : OwnMark) (k : Sitter) (word : ℕ) (next : Sitter) : Type 0 where
  pub said : ℕ
  pub between : Sitter
  pub control : Learned z (asked_of_mark (settles.Control own.mark (own_piece own c))) k said between
  pub swap : Learned z (asked_of_mark (settles.Settle own.mark (own_piece own c) (own_target own.old (state_said own.piece.desc.number said)))) between word next

abbrev pub SettlesMine : Shape → (c : ℕ) → Option OwnMark → Sitter → Option ℕ → Sitter → Type 0
SettlesMine z c None k r next = ⊥
SettlesMine z c (Some own) k None next = ⊥
SettlesMine z c (Some own) k (Some word) next = SettlesOwn z c own k word next

-- So of a mark of another worker, whose row is read first and which may be left; the own one is settled in any case.
pub record SettlesMark (z : Shape) (c : ℕ) (x : Reference) (kept : Option OwnMark) (k : Sitter) (r : Option ℕ) (next : Sitter) : Type 0 where
  pub foreign : (x.worker ≡ k.view.worker → ⊥) → RunsSettling z (settles.Desc x c) k r next
  pub own : x.worker ≡ k.view.worker → SettlesMine z c kept k r next
