use Rattle.std.proofs.Common.{sym, subst, arith}
use Rattle.std.proofs.lemmas.List.{get_or-replicate}
use Rattle.rh_tagword.specs.Word.{IsValue}
use Rattle.rh_kcas_bench.proofs.empty_table.Goals as goal

pub make-requires-clause-values : goal.make-requires-clause-values
make-requires-clause-values c = λ k inside. subst IsValue (sym (get_or-replicate 128 k 0 0 inside)) (omega arith)
