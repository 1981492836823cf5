use Rattle.std.proofs.Common.{rules}
use Rattle.rh_key_files.proofs.Decoded.{decoded}
use Rattle.rh_key_files.proofs.numbers.decode_numbers.Goals as goal

pub returns-clause-spelled : goal.returns-clause-spelled
returns-clause-spelled c = decoded _ _ (search rules) (λ k. (c.type_inv.bytes k).fits) c.read_u64_into.ensures
