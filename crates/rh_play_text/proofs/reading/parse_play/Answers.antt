use Rattle.std.proofs.Common.{refl}
use Rattle.rh_lines.specs.Grammar.{after_lines}
use Rattle.rh_play_text.proofs.reading.parse_play.Goals as goal

pub returns-then-text-gt-MAX_TEXT_BYTES-clause-before : goal.returns-then-text-gt-MAX_TEXT_BYTES-clause-before
unfolding after_lines
returns-then-text-gt-MAX_TEXT_BYTES-clause-before c = refl
