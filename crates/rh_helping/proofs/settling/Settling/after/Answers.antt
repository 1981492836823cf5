use Rattle.std.proofs.Common.{◌≡◌, ◌∙◌, sym, subst, None, Some}
use Rattle.rh_words.specs.declared.reference.Piece.{Piece}
use Rattle.rh_words.specs.View.{View}
use Rattle.rh_words.specs.Words.{ref_of}
use Rattle.rh_words.specs.View.RowWord.{old_word}
use Rattle.rh_world.specs.Facts.Fact.{may_demote}
use Rattle.rh_helping.specs.Requested.{SettledFrom}
use Rattle.rh_helping.specs.Machine.{settling_at}
use Rattle.rh_helping.specs.declared.settling.SettlingAt.{SettlingAt}
use Rattle.rh_helping.specs.Settling.{Grows, IsFound, IsSettling}
use Rattle.rh_helping.specs.Next.{Settles as settles}
use Rattle.rh_helping.proofs.Marks.{found_grows, serial_grows, serial_tells}
use Rattle.rh_helping.proofs.Rows as rows
use Rattle.rh_helping.proofs.settling.Settling.after.Goals as goal

pub unreachable-requires : goal.unreachable-requires
unreachable-requires c =
    let s = subst (λ (a : SettlingAt). SettledFrom c.requires.follows.0 c.requires.follows.1.0 (settling_at a c.args.self.now) c.args.found c.requires.follows.1.1.0) c.in-Serial.is c.requires.follows.1.1.1 in
    let named = s.finds c.args.self.now.named c.if-found-self.false s.settling.1 in
    let both : None ≡ Some named.0 = c.in-None.ensures ∙ named.1 in
    cc

pub returns-in-Some-clause-grows : goal.returns-in-Some-clause-grows
returns-in-Some-clause-grows c = λ z v next owes settled.
    let s = subst (λ (a : SettlingAt). SettledFrom z v (settling_at a c.args.self.now) c.args.found next) c.in-Serial.is settled in
    subst (λ (n : View). Grows v n) (sym s.view_is) (serial_grows v c.args.self.now.mark c.args.found)

pub returns-in-Some-clause-leads : goal.returns-in-Some-clause-leads
returns-in-Some-clause-leads c = λ z v next settled.
    let s = subst (λ (a : SettlingAt). SettledFrom z v (settling_at a c.args.self.now) c.args.found next) c.in-Serial.is settled in
    let p : Piece = record { desc = c.in-Some.desc; entry = c.args.self.now.piece.entry; cell = c.args.self.now.piece.cell } in
    subst (λ (n : View). IsFound n c.args.self.now.mark p) (sym s.view_is)
    (serial_tells v c.args.self.now.mark c.args.found p c.args.self.now.named c.if-found-self.false (sym c.in-Some.ensures) s.settling.0 s.settling.1 s.settling.2)

pub returns-else-found-self-2-clause-grows : goal.returns-else-found-self-2-clause-grows
returns-else-found-self-2-clause-grows c = λ z v next owes settled.
    let s = subst (λ (a : SettlingAt). SettledFrom z v (settling_at a c.args.self.now) c.args.found next) c.in-OldSerial.is settled in
    subst (λ (n : View). Grows v n) (sym s.view_is) (rows.serial_grows v (ref_of c.args.self.now.piece.desc) c.args.found)

pub returns-else-found-self-2-clause-leads : goal.returns-else-found-self-2-clause-leads
returns-else-found-self-2-clause-leads c = λ z v next settled.
    let s = subst (λ (a : SettlingAt). SettledFrom z v (settling_at a c.args.self.now) c.args.found next) c.in-OldSerial.is settled in
    let p = c.args.self.now.piece in
    let grown = rows.serial_grows v (ref_of p.desc) c.args.found in
    subst (λ (n : View). IsSettling n (settles.Settle c.args.self.now.mark p (Some c.args.self.now.value))) (sym s.view_is)
    (found_grows _ _ grown _ _ s.settling.0, (grown.facts (may_demote (ref_of c.args.self.now.mark)) s.settling.1, rows.serial_tells v (ref_of p.desc) c.args.found c.if-found-self-2.false (old_word p.entry c.args.self.now.value) s.settling.2))
