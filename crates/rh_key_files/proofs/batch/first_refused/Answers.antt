use Rattle.std.proofs.Common.{◌≡◌, ◌∙◌, ap, arith, drop, []}
use Rattle.std.specs.List.{position_from}
use Rattle.std.proofs.lemmas.List.{drop_all}
use Rattle.rh_key_files.specs.Reading.{is_refused}
use Rattle.rh_key_files.proofs.Filled.{none_refused}
use Rattle.rh_key_files.proofs.batch.first_refused.Goals as goal

pub returns-clause-in_range : goal.returns-clause-in_range
returns-clause-in_range c =
    let none : drop c.loop-key.key-index c.args.keys.now ≡ [] = drop_all c.loop-key.key-index c.args.keys.now (omega arith) in
    λ is_none. none_refused c.args.version c.args.index c.args.keys.now (c.loop-key.invariant.rest_decides ∙ ap (position_from (is_refused c.args.version) c.loop-key.at) none)
