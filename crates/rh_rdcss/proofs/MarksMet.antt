-- A mark that was met is settled stage by stage, and the own one by its control.
use Rattle.std.proofs.Common.{◌≡◌, ◌≢◌, ℕ, ◌<◌, Option, Some, None, ◌∙◌, ap, refl, sym, subst, Bool, true, false, ◌&&◌, arith, cond, eqb, eq-eqb}
use Rattle.std.specs.Prelude.{option_map, ◌%◌, ◌^◌}
use Rattle.rh_tagword.specs.Control.{state_in}
use Rattle.rh_tagword.specs.declared.control.State.{State}
use Rattle.rh_tagword.specs.declared.control.State.TheVariants.{Unused, Undecided, Succeeded, Withdrawn, Failed}
use Rattle.rh_world.specs.World.{Control, In, Ref}
use Rattle.rh_world.specs.World.Control.{failed, succeeded, undecided, unused, withdrawn}
use Rattle.rh_world.specs.Facts.Fact.{may_demote, old_is}
use Rattle.rh_world.specs.Sides.{Side, is_number}
use Rattle.rh_world.specs.Moves.{control_noted, mark_noted, settle_noted}
use Rattle.rh_world.proofs.Tests.{by_cond}
use Rattle.rh_world.proofs.Updated.{some_injective, some_not_none}
use Rattle.rh_words.specs.declared.shape.Shape.{Shape}
use Rattle.rh_words.specs.declared.steps.StepKind.TheVariants as kind
use Rattle.rh_words.specs.declared.reference.Piece.{Piece}
use Rattle.rh_words.specs.declared.reference.Ref.{Ref as Reference}
use Rattle.rh_words.specs.View.{View}
use Rattle.rh_words.specs.Words.{control_of, control_said, mark_number, read_control, ref_of, serial_in}
use Rattle.rh_words.specs.Steps.{Allowed, Step, is_none, mark_control_read, settle_view}
use Rattle.rh_helping.specs.CellContent.{state_said}
use Rattle.rh_helping.specs.Next.{Settles}
use Rattle.rh_helping.specs.Next.{Settles as settles}
use Rattle.rh_helping.specs.Requested.{asked_of_mark}
use Rattle.rh_helping.specs.Settling.{ByControl, GoesOn, IsFound, Keeps, kind_of_settling}
use Rattle.rh_helping.proofs.Controls.{MarkedAs, saw_mark_control}
use Rattle.rh_helping.proofs.Marks.{found_keeps, may_settle}
use Rattle.rh_shared.specs.declared.seat.OwnMark.{OwnMark}
use Rattle.rh_rule.specs.declared.rule.Sitter.{Sitter}
use Rattle.rh_rdcss.specs.Calls.{Learned}
use Rattle.rh_rdcss.specs.Settling.{IsOwnUnsettled, SettlesOwn, own_target}
use Rattle.rh_rdcss.proofs.Looked.{control_settles_none}

-- ---- the stages come to an end

abbrev pub stages_left : Settles → ℕ
stages_left (settles.Desc x c) = 7
stages_left (settles.Entry x c u) = 6
stages_left (settles.Serial x c u e) = 5
stages_left (settles.Control x p) = 4
stages_left (settles.Old x p) = 3
stages_left (settles.OldSerial x p old) = 2
stages_left (settles.Settle x p old) = 1

fewer_by : (x : Reference) (p : Piece) (o : Option Control) (next : Settles) → ByControl x p o (Some next) → stages_left next < 4
fewer_by x p None next h = cc
fewer_by x p (Some unused) next h = absurd h
fewer_by x p (Some undecided) next h = let e : next ≡ settles.Settle x p None = cc in subst (λ (s : Settles). stages_left s < 4) (sym e) (omega arith)
fewer_by x p (Some succeeded) next h = let e : next ≡ settles.Old x p = cc in subst (λ (s : Settles). stages_left s < 4) (sym e) (omega arith)
fewer_by x p (Some withdrawn) next h = let e : next ≡ settles.Old x p = cc in subst (λ (s : Settles). stages_left s < 4) (sym e) (omega arith)
fewer_by x p (Some (failed e by)) next h = let e : next ≡ settles.Old x p = cc in subst (λ (s : Settles). stages_left s < 4) (sym e) (omega arith)

pub fewer : (s : Settles) (word : ℕ) (next : Settles) → GoesOn s word (Some next) → stages_left next < stages_left s
fewer (settles.Desc x c) word next h = let e : next ≡ settles.Entry x c word = cc in subst (λ (s : Settles). stages_left s < 7) (sym e) (omega arith)
fewer (settles.Entry x c u) word next h = let e : next ≡ settles.Serial x c u word = cc in subst (λ (s : Settles). stages_left s < 6) (sym e) (omega arith)
fewer (settles.Serial x c u entry) word next h = subst (λ (s : Settles). stages_left s < 5) (sym h.1.1.1) (omega arith)
fewer (settles.Control x p) word next h = fewer_by x p (state_said p.desc.number word) next h
fewer (settles.Old x p) word next h = let e : next ≡ settles.OldSerial x p word = cc in subst (λ (s : Settles). stages_left s < 3) (sym e) (omega arith)
fewer (settles.OldSerial x p old) word next h = subst (λ (s : Settles). stages_left s < 2) (sym h.1) (omega arith)
fewer (settles.Settle x p old) word next h = cc

-- what is no Settle is a Read
pub is_read : (s : Settles) → kind_of_settling s ≢ kind.Settle → kind_of_settling s ≡ kind.Read
is_read (settles.Desc x c) ne = refl
is_read (settles.Entry x c u) ne = refl
is_read (settles.Serial x c u e) ne = refl
is_read (settles.Control x p) ne = refl
is_read (settles.Old x p) ne = refl
is_read (settles.OldSerial x p old) ne = refl
is_read (settles.Settle x p old) ne = absurd (ne refl)

-- the step that was asked for, and made, is this one
pub learned_as : (z : Shape) (k next : Sitter) (asks s : Step) (word : ℕ) → asks ≡ s → Learned z asks k word next → Learned z s k word next
learned_as z k next asks s word is l = subst (λ (q : Step). Learned z q k word next) is l

-- ---- the control is read

-- a control word tells a state, or that it is of a later descriptor
pub state_of_control : (number word : ℕ) → (r : Option State) × (option_map control_of r ≡ state_said number word)
state_of_control number word = by (eqb (serial_in word) number)
  where
    of_state : (o : Option State) → (k : State) × (control_of k ≡ control_said o)
    of_state None = (Withdrawn, refl)
    of_state (Some k) = (k, refl)

    by : (b : Bool) → (r : Option State) × (option_map control_of r ≡ cond {A = Option Control} b (Some (read_control word)) None)
    by true = let q = of_state (state_in (word % 2 ^ 8)) in (Some q.0, ap Some q.1)
    by false = (None, refl)

-- the own mark is settled by it, to the descriptor or to the old value that is noted
pub own_settles : (z : Shape) (k : Sitter) (x : Reference) (p : Piece) → IsFound k.view x p → (old : ℕ) → In (old_is (ref_of p.desc) p.entry old) k.view.side.facts
    → (word : ℕ) (next : Sitter) → Learned z (asked_of_mark (settles.Control x p)) k word next
    → Allowed z next.view (asked_of_mark (settles.Settle x p (own_target old (state_said p.desc.number word))))
own_settles z k x p h old noted word next l =
    let r = state_of_control p.desc.number word in
    let saw = saw_mark_control k.view (ref_of x) (ref_of p.desc) p.cell _ word l.finds r.0 r.1 next.view l.view_is in
    subst (λ (o : Option Control). Allowed z next.view (asked_of_mark (settles.Settle x p (own_target old o)))) r.1 (so saw.0.keeps r.0 saw.2)
  where
    back : Keeps k.view next.view → In (may_demote (ref_of x)) next.view.side.facts → Allowed z next.view (asked_of_mark (settles.Settle x p (Some old)))
    back keeps may = may_settle z next.view l.knows x p (found_keeps k.view next.view keeps x p h) (Some old) (may, keeps.facts (old_is (ref_of p.desc) p.entry old) noted)

    so : Keeps k.view next.view → (r : Option State) → MarkedAs next.view (ref_of x) p.cell r → Allowed z next.view (asked_of_mark (settles.Settle x p (own_target old (option_map control_of r))))
    so keeps None may = back keeps may
    so keeps (Some Unused) may = absurd may
    so keeps (Some Undecided) may = may_settle z next.view l.knows x p (found_keeps k.view next.view keeps x p h) None may
    so keeps (Some Succeeded) may = back keeps may
    so keeps (Some Withdrawn) may = back keeps may
    so keeps (Some (Failed who)) may = back keeps may

-- ---- the own mark is settled

of_mark : (s : Side) (x : Ref) (c : ℕ) (k : Control) → (mark_noted s x c k).unsettled ≡ s.unsettled
of_mark s x c unused = refl
of_mark s x c undecided = refl
of_mark s x c succeeded = refl
of_mark s x c withdrawn = refl
of_mark s x c (failed e by) = refl

control_same : (s : Side) (x : Ref) (c : ℕ) (d : Ref) (word : ℕ) → (mark_control_read s x c d word).unsettled ≡ s.unsettled
control_same s x c d word = by_cond (λ (t : Side). t.unsettled ≡ s.unsettled) (eqb (serial_in word) d.number) _ _
    (λ yes. of_mark (control_noted s d (read_control word)) x c (read_control word) ∙ control_settles_none s d (read_control word)) (λ no. refl)

settled_none : (v : View) (x : Ref) (c : ℕ) (d : Ref) (e : ℕ) (old : Option ℕ) (word : ℕ) → (q : Option ℕ) → v.side.unsettled ≡ q → q ≡ Some x.number → x.worker ≡ v.worker
    → (settle_view v x c d e old word).unsettled ≡ None
settled_none v x c d e old word None is mine worker = absurd (some_not_none x.number (sym mine))
settled_none v x c d e old word (Some n) is mine worker =
    let number : x.number ≡ n = sym (some_injective n x.number mine) in
    let own : is_number v.side.unsettled v.worker x ≡ true =
    ap (λ (o : Option ℕ). is_number o v.worker x) is ∙ ap (λ (b : Bool). b && eqb x.number n) (eq-eqb x.worker v.worker worker) ∙ eq-eqb x.number n number in
    ap (λ (b : Bool). (cond b (settle_noted v.side d e c (promoted old word x)) v.side).unsettled) own ∙ either (promoted old word x)
  where
    promoted : Option ℕ → ℕ → Ref → Bool
    promoted o w y = is_none o && eqb w (mark_number y)

    either : (b : Bool) → (settle_noted v.side d e c b).unsettled ≡ None
    either true = refl
    either false = refl

pub own_settled : (z : Shape) (c : ℕ) (own : OwnMark) (k : Sitter) (word : ℕ) (next : Sitter) → SettlesOwn z c own k word next → IsOwnUnsettled k.view own.mark → next.view.side.unsettled ≡ None
own_settled z c own k word next h mine =
    let x = ref_of own.mark in
    let d = ref_of own.piece.desc in
    let same : h.between.view.side.unsettled ≡ k.view.side.unsettled = ap (λ (u : View). u.side.unsettled) h.control.view_is ∙ control_same k.view.side x c d h.said in
    let worker : h.between.view.worker ≡ k.view.worker = ap (λ (u : View). u.worker) h.control.view_is in
    ap (λ (u : View). u.side.unsettled) h.swap.view_is
    ∙ settled_none h.between.view x c d own.piece.entry (own_target own.old (state_said own.piece.desc.number h.said)) word (Some own.mark.number) (same ∙ mine.1) refl (mine.0 ∙ sym worker)
