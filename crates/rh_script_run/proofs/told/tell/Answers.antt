use Rattle.std.proofs.Common.{ap}
use Rattle.rh_dump.specs.Dump.{dump_text}
use Rattle.rh_report.specs.Texts.{asked_text}
use Rattle.rh_script_run.proofs.told.tell.Goals as goal

pub returns-in-Answers : goal.returns-in-Answers
returns-in-Answers g c = rw c.in-Answers.is (_, ap (asked_text c.in-Answers.name.now) c.deref.ensures.value, c.write_asked.ensures)

pub returns-in-Dump : goal.returns-in-Dump
returns-in-Dump g c =
    let cells = c.cells.result.now in
    rw c.in-Dump.is (_, (cells, c.cells.ensures.layout, c.cells.ensures.free, ap (λ bits. dump_text bits cells) c.bits.ensures.bits), c.write_dump.ensures)
