use Rattle.std.proofs.Common.{subst}
use Rattle.rh_numbers.specs.Grammar.{without_mark}
use Rattle.rh_checks.proofs.Parts.{WalksOn, short_found}
use Rattle.rh_checks.proofs.text.find_short_text.Goals as goal

pub returns : goal.returns
returns c =
    let on : WalksOn (without_mark c.args.bytes.now) c.new-walk.result c.read.new.self = subst (λ l. WalksOn l c.new-walk.result c.read.new.self) c.behind_mark.ensures c.in_ok-read.ensures.on in
    short_found c.args.bytes.now c.new-walk.result c.read.new.self c.in_ok-found.found c.new-walk.ensures.on on c.in_ok-found.ensures
