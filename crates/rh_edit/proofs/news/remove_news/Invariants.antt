use Rattle.std.proofs.Common.{ℕ, ◌<◌, ◌≡◌, get_or}
use Rattle.rh_edit.specs.News.{shifted_back}
use Rattle.rh_edit.proofs.news.remove_news.Given as goal

abbrev pub invariant-loop-i : goal.invariant-loop-i
invariant-loop-i l = (p : ℕ) → p < l.i → get_or l.news p 0 ≡ get_or (shifted_back l.seen l.at) p 0
