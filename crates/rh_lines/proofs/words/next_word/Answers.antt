use Rattle.std.proofs.Common.{refl, arith}
use Rattle.rh_lines.proofs.Splitting.{no_word_in, words_step}
use Rattle.rh_lines.proofs.words.next_word.Goals as goal

pub returns-then-is_empty : goal.returns-then-is_empty
returns-then-is_empty c = no_word_in c.args.line.now c.trim_start_matches-line.result.now c.trim_start_matches-line.ensures.matches (grind arith)

pub returns : goal.returns
returns c =
    rw c.unwrap_or.ensures (words_step c.args.line.now c.trim_start_matches-line.result _ c.split_once.result c.trim_start_matches-line.ensures.matches (grind arith) refl (c.split_once.ensures.byte (omega arith) (λ w o h. h)))
