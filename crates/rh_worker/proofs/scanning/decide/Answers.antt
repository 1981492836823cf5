use Rattle.std.proofs.Common.{ℕ, List, length-take, rules, subst, sym, take, arith}
use Rattle.rh_helping.specs.declared.looking.Watch.TheVariants as watch
use Rattle.rh_worker.specs.Worker.{Stays}
use Rattle.rh_worker.specs.Reading.{HasScanned, seen_at}
use Rattle.rh_worker.specs.declared.stage.KeyStage.{KeyStage}
use Rattle.rh_worker.specs.declared.stage.KeyStage.TheVariants as stage
use Rattle.rh_worker.proofs.Anew.{front_read, left_off}
use Rattle.rh_worker.proofs.Scans.{none_seen, seen_again, as_read_is}
use Rattle.rh_worker.proofs.scanning.decide.Goals.{then-count-cells, else-count-cells}
use Rattle.rh_worker.proofs.scanning.decide.Goals as goal

pub returns-in-Done-clause-answer : goal.returns-in-Done-clause-answer
returns-in-Done-clause-answer c =
    let w = c.args.worker.now in
    as_read_is w.kind c.args.shape.now w.side.known.view w.key (take c.args.count w.buffer.seen.items) c.decide-decision.new.self.entries.items c.in-Done.answer
    (omega (arith, length-take c.args.count w.buffer.seen.items)) c.requires.were_read c.in-Done.ensures.decides

pub returns-after-count-cells-clause-worker : goal.returns-after-count-cells-clause-worker
returns-after-count-cells-clause-worker c =
    let w = c.args.worker.now in
    let z = c.args.shape.now in
    let v = w.side.known.view in
    let t = c.decide-decision.new.self in
    record {
      key = c.requires.key;
      room = c.in-More.ensures.room;
      stays = subst (Stays z v w.kind w.key t w.machine) (sym c.reading-worker.ensures) (elim c.if-count-cells.branch [
        | then-count-cells b ↦ subst (λ n. Stays z v w.kind w.key t w.machine (stage.Scan watch.Read n)) (sym b.seen-is)
            (c.requires.clear, seen_again z v w.key w.buffer t c.args.count (omega arith) c.requires.seen c.in-More.ensures.seen c.requires.were_read)
        | else-count-cells b ↦ subst (λ n. Stays z v w.kind w.key t w.machine (stage.Scan watch.Read n)) (sym b.seen-is) (c.requires.clear, none_seen z v w.key t (search rules))
      ]);
    }

pub returns-in-Done-clause-anew : goal.returns-in-Done-clause-anew
returns-in-Done-clause-anew c before h =
    let w = c.args.worker.now in
    let z = c.args.shape.now in
    let v = w.side.known.view in
    let within = c.requires.seen in (
      left_off z before v w.key w.buffer.seen.items _ c.args.count h,
      record { seen = take c.args.count w.buffer.seen.items; read = front_read z before v w.key w.buffer.seen.items c.args.count within h; tells = c.in-Done.ensures.decides },
    )

pub returns-in-Acts-clause-anew : goal.returns-in-Acts-clause-anew
returns-in-Acts-clause-anew c before h =
    let w = c.args.worker.now in
    let z = c.args.shape.now in
    (subst (HasScanned z before w.side.known.view w.key _) (sym c.stage_for-worker.ensures.unseen) (left_off z before w.side.known.view w.key w.buffer.seen.items _ c.args.count h), tt)

pub returns-after-count-cells-clause-anew : goal.returns-after-count-cells-clause-anew
returns-after-count-cells-clause-anew c before h =
    let w = c.args.worker.now in
    let z = c.args.shape.now in
    let v = w.side.known.view in
    let t = c.decide-decision.new.self in
    let same = c.in-More.ensures.seen in (
      subst (λ (p : KeyStage). HasScanned z before v w.key t.seen.items (seen_at p)) (sym c.reading-worker.ensures) (elim c.if-count-cells.branch [
        | then-count-cells b ↦ subst (HasScanned z before v w.key t.seen.items) (sym b.seen-is) (subst (λ (l : List ℕ). HasScanned z before v w.key l c.args.count) (sym same) h)
        | else-count-cells b ↦ subst (HasScanned z before v w.key t.seen.items) (sym b.seen-is) (left_off z before v w.key w.buffer.seen.items t.seen.items c.args.count h)
      ]),
      tt,
    )
