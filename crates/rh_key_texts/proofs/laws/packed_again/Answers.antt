use Rattle.std.proofs.Common.{rules}
use Rattle.rh_key_texts.proofs.Same.{packed_after}
use Rattle.rh_key_texts.proofs.laws.packed_again.Goals as goal

pub returns : goal.returns
returns c = λ keys left rest. packed_after c.args.file.now c.args.text.now c.args.again.now keys (search rules) left rest
