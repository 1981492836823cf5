use Rattle.std.proofs.Common.{◌∙◌, ap, arith}
use Rattle.std.specs.Prelude.{map}
use Rattle.std.proofs.lemmas.List.{take_all}
use Rattle.rh_combine.specs.Grid.{in_part}
use Rattle.rh_combine.proofs.ranges.cut_all.Goals as goal

pub returns-clause-parts : goal.returns-clause-parts
returns-clause-parts c p d inside =
    c.loop-keys.invariant.parts p d inside
    ∙ ap (λ ls. map (in_part c.args.grid.now p) (map (λ k. k.now) ls)) (take_all c.loop-keys.keys-index c.args.lists.now (omega arith))
