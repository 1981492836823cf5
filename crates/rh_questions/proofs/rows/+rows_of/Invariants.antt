use Rattle.std.proofs.Common.{length}
use Rattle.rh_questions.proofs.rows.+rows_of.Given as goal

abbrev pub decreases-rows_of : goal.decreases-rows_of
decreases-rows_of l = length l.lists.now
