use Rattle.rh_numbers.proofs.TwoTexts.{in_chunks}
use Rattle.rh_numbers.proofs.laws.text_in_chunks.Goals as goal

pub returns : goal.returns
returns c = in_chunks c.args.front.now c.args.rest.now
