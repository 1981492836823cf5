use Rattle.std.proofs.Common.{◌≡◌, string_bytes}
use Rattle.std.proofs.lemmas.Result.{IfOk-at_ok}
use Rattle.rh_shelf.proofs.PutLemmas.{put_file}
use Rattle.rh_shelf.proofs.memory.MemShelf.insert.Goals as goal

pub returns-clause-put : goal.returns-clause-put
returns-clause-put c =
    let key_is_path = IfOk-at_ok (λ s. string_bytes s ≡ c.args.path.now) c.in_ok-path.was c.from_str.ensures.ok in
    put_file c.args.self.now.files c.insert.new.self c.in_ok-path.path c.in_ok-bytes.bytes c.args.path.now c.args.bytes.now key_is_path c.in_ok-bytes.ensures.copy c.in_ok-insert.ensures.updates
