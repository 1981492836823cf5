use Rattle.std.proofs.Common.{rules, ◌*◌, ◌%◌, ◌^◌, arith}
use Rattle.std.proofs.lemmas.Nat.{one_shl}
use Rattle.rh_edit.proofs.SetLemmas.{keeps_empty, keys_of_empty}
use Rattle.rh_edit.proofs.set.SeqSet.new.Goals as goal

pub invariant_of-result : goal.invariant_of-result
invariant_of-result c =
    keeps_empty (1 * 2 ^ c.args.bits % 2 ^ 64) c.in_ok-table.table.items (search rules) c.args.bits c.requires (one_shl c.args.bits 64 (omega arith))

pub returns-clause-keys : goal.returns-clause-keys
returns-clause-keys c = keys_of_empty (1 * 2 ^ c.args.bits % 2 ^ 64) c.in_ok-table.table.items (search rules)
