use Rattle.std.proofs.Common.{rules}
use Rattle.rh_shelf.specs.Kinds.{files_of}
use Rattle.rh_shelf.proofs.PutLemmas.{none_in_doubt}
use Rattle.rh_faulty.specs.Shelf.{inner_shelf}
use Rattle.rh_faulty.proofs.shelf.FaultyShelfShelf.put.Goals as goal

pub returns-clause-takes : goal.returns-clause-takes
returns-clause-takes c =
    let doubt = none_in_doubt c.put-outcome.result (files_of (inner_shelf c.args.self.now)) (files_of (inner_shelf c.count.new.self)) c.args.path.now (search rules) in
    search (doubt, rules)
