use Rattle.std.proofs.Common.{◌≡◌, take, rules}
use Rattle.std.proofs.lemmas.List.{take_all, take_min}
use Rattle.rh_streams.specs.declared.showing.TheConstants.{MAX_SHOWN}
use Rattle.rh_streams.specs.Quoted.{quoted}
use Rattle.rh_streams.proofs.showing.quoted.Goals as goal

pub returns : goal.returns
unfolding quoted
returns c =
    let all : take c.loop-byte.byte-index (take c.min.result c.args.bytes.now) ≡ take c.min.result c.args.bytes.now = take_all c.loop-byte.byte-index (take c.min.result c.args.bytes.now) (search rules) in
    let first : take c.min.result c.args.bytes.now ≡ take MAX_SHOWN c.args.bytes.now = rw c.min.ensures (take_min MAX_SHOWN c.args.bytes.now) in
    search (all, first, rules)
