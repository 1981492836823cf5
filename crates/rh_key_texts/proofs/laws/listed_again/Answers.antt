use Rattle.std.proofs.Common.{rules}
use Rattle.rh_key_texts.proofs.Same.{listed_after}
use Rattle.rh_key_texts.proofs.laws.listed_again.Goals as goal

pub returns : goal.returns
returns c = λ keys left rest. listed_after c.args.text.now c.args.file.now c.args.again.now keys (search rules) left rest
