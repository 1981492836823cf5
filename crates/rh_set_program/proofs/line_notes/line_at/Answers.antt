use Rattle.std.proofs.Common.{◌≡◌, ◌∙◌, ◌-◌, ◌∷◌, ap, sym, drop, rules, arith}
use Rattle.std.specs.List.{slice_get}
use Rattle.rh_lines.specs.Lines.{lines_of}
use Rattle.rh_set_program.proofs.Lines.{behind, first_behind}
use Rattle.rh_set_program.proofs.line_notes.line_at.Goals as goal

pub loop-preserved : goal.loop-preserved
loop-preserved c =
    let stands : drop c.loop.counter (lines_of c.args.text.now) ≡ c.in_ok-after.field-0-0.now ∷ lines_of c.in_ok-after.after.now = sym c.loop.invariant ∙ search rules in
    sym (behind _ _ c.loop.counter _ stands)

pub returns : goal.returns
returns c =
    let stands : drop c.loop.counter (lines_of c.args.text.now) ≡ c.in_ok-line.line.now ∷ lines_of c.in_ok-line.field-0-1.now = sym c.loop.invariant ∙ search rules in
    let number : c.args.number - 1 ≡ c.loop.counter = search (arith, rules) in
    ap (slice_get (lines_of c.args.text.now)) number ∙ first_behind _ _ c.loop.counter _ stands
