use Rattle.std.proofs.Common.{suc, ◌≡◌, ◌+◌, inl, rules, subst, sym, arith}
use Rattle.rh_layout.specs.Order.{home_of}
use Rattle.rh_tagword.proofs.PlainWords.{value_said, value_there}
use Rattle.rh_layout.specs.Round.{cell_ahead}
use Rattle.rh_words.specs.Parts.{cell_count}
use Rattle.rh_words.specs.View.{View}
use Rattle.rh_order.specs.Advance.{GoesOn}
use Rattle.rh_helping.specs.Next.Looked.{On, Sees}
use Rattle.rh_helping.specs.Looking.{kind_of_looking}
use Rattle.rh_helping.specs.Machine.{looking_of}
use Rattle.rh_worker.specs.Makes.{MakesStep}
use Rattle.rh_worker.specs.Reading.{HasScanned}
use Rattle.rh_worker.proofs.Anew.{kept_alike, left_off, none_read, one_read, tells_anew}
use Rattle.rh_worker.proofs.Keeping.{has_seen, read_first, stepped_makes, value_kept, value_read}
use Rattle.rh_worker.proofs.Scans.{looks_on, more_seen}
use Rattle.rh_worker.proofs.scanning.scan.Goals as goal

pub returns-in-On-clause-worker : goal.returns-in-On-clause-worker
returns-in-On-clause-worker g c =
    let w = c.args.worker.now in
    let z = c.args.shape.now in
    let made = stepped_makes z _ _ _ _ w.side.known.view _ _ c.in-On.ensures.made in
    record {
      key = c.requires.worker.key;
      room = c.requires.worker.room;
      stays = (c.in-On.ensures.leads, has_seen z _ _ w.side.known.view _ _ made w.key w.buffer c.args.seen c.requires.worker.stays.1);
    }

pub returns-in-On-clause-advances : goal.returns-in-On-clause-advances
returns-in-On-clause-advances g c =
    let w = c.args.worker.now in
    inl (looks_on c.args.shape.now _ _ (looking_of c.args.watch w.machine) (On (looking_of c.in-On.watch c.look.new.self)) c.requires.worker.stays.0 c.in-On.ensures.leads c.in-On.ensures.made.opened)

pub returns-in-On-clause-anew : goal.returns-in-On-clause-anew
returns-in-On-clause-anew g c before h =
    let w = c.args.worker.now in
    let z = c.args.shape.now in
    let next = c.look.new.side.known.view in
    (none_read z before w.side.known.view next w.key w.buffer.seen.items c.args.seen (kept_alike z w.side.known.view next c.in-On.ensures.made.reads) h, tt)

pub unwrap-value-requires : goal.unwrap-value-requires
unwrap-value-requires g c = value_there c.plain_value.result c.in-Sees.word c.plain_value.ensures c.in-Sees.ensures.leads.1

pub see-requires-clause-room : goal.see-requires-clause-room
see-requires-clause-room g c = (c.args.shape.now.bits, c.requires.worker.room, c.requires.worker.stays.1.within)

pub see-requires-clause-value : goal.see-requires-clause-value
see-requires-clause-value g c = (value_said c.plain_value.result c.in-Sees.word c.unwrap-value.result c.plain_value.ensures c.unwrap-value.ensures).0

pub decide-requires-clause-room : goal.decide-requires-clause-room
decide-requires-clause-room g c = c.see.ensures.room c.args.shape.now.bits c.requires.worker.room c.requires.worker.stays.1.within

pub decide-requires-clause-sound : goal.decide-requires-clause-sound
decide-requires-clause-sound g c = c.in-Sees.ensures.made.trusts.knows.sound

pub decide-requires-clause-were_read : goal.decide-requires-clause-were_read
decide-requires-clause-were_read g c =
    let w = c.args.worker.now in
    let z = c.args.shape.now in
    let v = w.side.known.view in
    let next = c.look.new.side.known.view in
    let a = c.in-Sees in
    let h = c.requires.worker.stays.1 in
    let at : c.cell_after-cell.result ≡ cell_ahead (cell_count z) (home_of z.bits w.key) c.args.seen = cc in
    let said = value_said c.plain_value.result a.word c.unwrap-value.result c.plain_value.ensures c.unwrap-value.ensures in
    let first = read_first z v next c.cell_after-cell.result a.word v.next_number c.unwrap-value.result a.ensures.made.reads (search rules) (value_read a.word c.unwrap-value.result said) in
    let made = stepped_makes z _ _ _ _ v _ next a.ensures.made in
    let e = c.see.ensures in
    more_seen z v next w.key c.args.seen c.cell_after-cell.result c.unwrap-value.result w.buffer.seen.items c.see.new.self.seen.items made.reads h.were_read h.seen e.within e.before e.seen at (value_kept z v c.cell_after-cell.result c.unwrap-value.result next first)

pub returns-in-Sees-clause-makes : goal.returns-in-Sees-clause-makes
returns-in-Sees-clause-makes g c =
    let z = c.args.shape.now in
    let made = stepped_makes z _ _ _ _ c.args.worker.now.side.known.view _ _ c.in-Sees.ensures.made in
    subst (λ (n : View). MakesStep g.T.Steps.shows g.T.Steps.made z (kind_of_looking (looking_of c.args.watch c.args.worker.now.machine)) c.args.table.now c.args.worker.now.side.known.view c.look.new.table n) (sym c.decide.ensures.same_view) made

pub returns-in-Sees-clause-anew : goal.returns-in-Sees-clause-anew
returns-in-Sees-clause-anew g c before h =
    let w = c.args.worker.now in
    let z = c.args.shape.now in
    let v = w.side.known.view in
    let next = c.look.new.side.known.view in
    let a = c.in-Sees in
    let at : c.cell_after-cell.result ≡ cell_ahead (cell_count z) (home_of z.bits w.key) c.args.seen = cc in
    let said = value_said c.plain_value.result a.word c.unwrap-value.result c.plain_value.ensures c.unwrap-value.ensures in
    let first = read_first z v next c.cell_after-cell.result a.word v.next_number c.unwrap-value.result a.ensures.made.reads (search rules) (value_read a.word c.unwrap-value.result said) in
    let on = looks_on z v next (looking_of c.args.watch w.machine) (Sees a.word) c.requires.worker.stays.0 a.ensures.leads a.ensures.made.opened in
    let count : suc c.args.seen ≡ c.args.seen + 1 = omega arith in
    let one = one_read z before v next w.key w.buffer.seen.items c.see.new.self.seen.items c.args.seen c.cell_after-cell.result c.unwrap-value.result c.see.ensures.before c.see.ensures.seen at first h in
    let got = c.decide.ensures.anew before (subst (HasScanned z before next w.key c.see.new.self.seen.items) count one) in
    (got.0, tells_anew z before w.kind w.key v _ _ (subst (GoesOn v) (sym c.decide.ensures.same_view) on) got.1)

pub returns-in-Spent-clause-anew : goal.returns-in-Spent-clause-anew
returns-in-Spent-clause-anew g c before h =
    let w = c.args.worker.now in
    let z = c.args.shape.now in
    let next = c.look.new.side.known.view in
    let same = none_read z before w.side.known.view next w.key w.buffer.seen.items c.args.seen (kept_alike z w.side.known.view next c.in-Spent.ensures.made.reads) h in
    (left_off z before next w.key w.buffer.seen.items w.buffer.seen.items c.args.seen same, tt)
