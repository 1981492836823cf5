use Rattle.std.proofs.Common.{◌≡◌, ◌∙◌, sym, true, false}
use Rattle.rh_snapshot.proofs.Keys.{no_table}
use Rattle.rh_snapshot.proofs.cells.make_table.Goals as goal
use Rattle.rh_snapshot.proofs.cells.make_table.Goals.{in-First, in-Second}

pub returns-else-made-clause-test : goal.returns-else-made-clause-test
returns-else-made-clause-test c = elim c.match-header.branch [
  | in-First w ↦
      let bad = w.make_cells-made.ensures.refused (sym w.made-is ∙ c.if-made.false) in
      c.if-made.false ∙ sym (no_table c.args.header c.args.numbers.now bad.0 w.in-First.is bad.1 bad.2)
  | in-Second w ↦ let no : true ≡ false = sym w.made-is ∙ c.if-made.false in absurd cc
]
