use Rattle.std.proofs.Common.{rules}
use Rattle.rh_shelf.specs.Kinds.{files_of}
use Rattle.rh_shelf.proofs.PutLemmas.{none_in_doubt}
use Rattle.rh_shelf.proofs.memory.MemShelfShelf.put.Goals as goal

pub returns-clause-takes : goal.returns-clause-takes
returns-clause-takes c =
    let doubt = none_in_doubt c.insert-outcome.result (files_of c.args.self.now) (files_of c.count.new.self) c.args.path.now (search rules) in
    search (doubt, rules)
