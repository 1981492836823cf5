-- What a worker asks for is allowed, and it is of the kind of its work.
use Rattle.std.proofs.Common.{◌≡◌, ℕ, Option, Some, None, refl, sym, subst}
use Rattle.rh_words.specs.declared.shape.Shape.{Shape}
use Rattle.rh_words.specs.declared.steps.StepKind.{StepKind}
use Rattle.rh_words.specs.View.{OwnDesc, View}
use Rattle.rh_words.specs.Steps.{Allowed, Step, noted}
use Rattle.rh_rule.specs.Sound.{Finds}
use Rattle.rh_carrier.specs.Relies.{Knows, Went}
use Rattle.rh_helping.specs.Requested.{SettledFrom, asked_of_mark, requested}
use Rattle.rh_carrier.specs.Own.{KnowsOwn}
use Rattle.rh_helping.specs.Goal.{piece_of}
use Rattle.rh_helping.specs.Made.{HasMadeStep, kind_of}
use Rattle.rh_helping.specs.Next.{Settles, Work}
use Rattle.rh_helping.specs.Next.{Settles as settles}
use Rattle.rh_helping.specs.Next.{Work as work}
use Rattle.rh_helping.specs.Settling.{IsSettling, kind_of_settling}
use Rattle.rh_helping.specs.Work.{Stands, kind_of_work}
use Rattle.rh_helping.proofs.Decisions.{may_fail, may_give_reason, may_read_reason, may_succeed, may_withdraw}
use Rattle.rh_helping.proofs.Knowing.{allowed, task_known}
use Rattle.rh_helping.proofs.Made.{IsOnDescs, made_then}
use Rattle.rh_helping.proofs.Marking.{is_found, may_place}
use Rattle.rh_helping.proofs.Marks as marks
use Rattle.rh_helping.proofs.Marks.{may_settle}
use Rattle.rh_helping.proofs.Released.{may_give_back, may_release}
use Rattle.rh_helping.proofs.Rows as rows
use Rattle.rh_helping.proofs.Starting as starting

-- ---- with a mark that was met

pub may_ask_mark : (z : Shape) (v : View) → Knows z v → (s : Settles) → IsSettling v s → Allowed z v (asked_of_mark s)
may_ask_mark z v k (settles.Desc x c) h = marks.may_read_desc z v k x c h
may_ask_mark z v k (settles.Entry x c u) h = marks.may_read_entry z v k x c h.0
may_ask_mark z v k (settles.Serial x c u e) h = marks.may_read_serial z v k x c h.0
may_ask_mark z v k (settles.Control x p) h = marks.may_read_control z v k x p h
may_ask_mark z v k (settles.Old x p) h = marks.may_read_old z v k x p h.0
may_ask_mark z v k (settles.OldSerial x p old) h = marks.may_read_row z v k x p h.0
may_ask_mark z v k (settles.Settle x p old) h = may_settle z v k x p h.0 old h.1

-- the step that was asked for was made with it
pub made_settled : (z : Shape) (v next : View) (s : Settles) (asks : Step) (word : ℕ) → IsSettling v s → asks ≡ asked_of_mark s → Finds z v asks word → next ≡ noted z v asks word → SettledFrom z v s word next
made_settled z v next s asks word h is finds view_is = record {
  settling = h;
  finds = subst (λ (q : Step). Finds z v q word) is finds;
  view_is = subst (λ (q : Step). next ≡ noted z v q word) is view_is;
}

-- a step of this kind, that opens nothing, reads no cell and claims nothing
abbrev pub IsOf : Step → StepKind → Type 0
IsOf s k = (kind_of s ≡ k) × IsOnDescs s

pub of_mark : (s : Settles) → IsOf (asked_of_mark s) (kind_of_settling s)
of_mark (settles.Desc x c) = (refl, tt)
of_mark _ = (refl, tt)

-- ---- with a descriptor

pub may_request : (z : Shape) (v : View) → Knows z v → (opens : Option OwnDesc) → KnowsOwn v opens → (w : Work) → Stands z v w → Allowed z v (requested v w)
may_request z v k opens own (work.Control d) h = starting.may_read_control z v k d h.1
may_request z v k opens own (work.Length d state) h = starting.may_read_length z v k d state h.1
may_request z v k opens own (work.LengthSerial d state n) h = starting.may_read_serial z v k d state h.1
may_request z v k opens own (work.EntryCell t) h = rows.may_read_cell z v k t h.0
may_request z v k opens own (work.EntryOld t c) h = rows.may_read_old z v k t h.0
may_request z v k opens own (work.EntryNew t c o) h = rows.may_read_new z v k t h.0
may_request z v k opens own (work.EntrySerial g) h = rows.may_read_serial z v k g.task h.0
may_request z v k opens own (work.MarkSerial g) h = allowed z v k _ (refl, h.owes.settled, refl, h.mark)
may_request z v k opens own (work.MarkDesc g) h = allowed z v k _ (refl, h.0.owes.settled, h.1)
may_request z v k opens own (work.MarkEntry g) h = allowed z v k _ (refl, h.0.owes.settled, h.1.serial)
may_request z v k opens own (work.Place g) h = may_place z v k g h.0 h.1
may_request z v k opens own (work.Settle s g) h = may_ask_mark z v k s h.2
may_request z v k opens own (work.MarkControl p) h = marks.may_read_control z v k p.mark (piece_of p.goal) (is_found v p h)
may_request z v k opens own (work.Promote p) h = may_settle z v k p.mark (piece_of p.goal) (is_found v p h.0) None h.1
may_request z v k opens own (work.Demote p decided) h = may_settle z v k p.mark (piece_of p.goal) (is_found v p h.0) (Some p.goal.old) (h.2, h.0.goal.old)
may_request z v k opens own (work.Recheck g promoted) h = starting.may_read_control z v k g.task.desc (task_known z v k g.task h.goal.task)
may_request z v k opens own (work.WriteReason t) h = may_give_reason z v k t h v.worker refl
may_request z v k opens own (work.Fail t) h = may_fail z v k t h.0 h.1 v.worker refl
may_request z v k opens own (work.Succeed t) h = may_succeed z v k t h.0 h.1 h.2
may_request z v k opens own (work.Withdraw d) h = may_withdraw z v k opens own d h.2 (sym h.1) h.3
may_request z v k opens own (work.ReadReason t by) h = may_read_reason z v k t by h.0 h.1.failed opens own h.1.own h.1.opened
may_request z v k opens own (work.Release g) h = may_release z v k g h.0 h.1 _ refl
may_request z v k opens own (work.GiveBack o) h = may_give_back z v k o h

pub of_work : (v : View) (w : Work) → IsOf (requested v w) (kind_of_work w)
of_work v (work.Settle s g) = of_mark s
of_work v _ = (refl, tt)

-- ---- so the step that it asks for and makes is one of its work

pub asked_made : {T : Type 0} {shows : Shape → T → View → Type 0} {makes : Shape → Step → T → View → ℕ → T → View → Type 0} (z : Shape) (s asks : Step) (k : StepKind) (t : T) (v : View) (word : ℕ) (then later : T) (next : View)
    → IsOf s k → asks ≡ s → later ≡ then → Allowed z v asks → Went shows makes z asks t v word then next → HasMadeStep shows makes z k t v later next
asked_made {T} {shows} {makes} z s asks k t v word then later next of is same may went =
    let o : IsOf asks k = subst (λ (a : Step). IsOf a k) (sym is) of in
    subst (λ (q : StepKind). HasMadeStep shows makes z q t v later next) o.0 (made_then z asks t v word then later next same o.1 may went)
