use Rattle.std.proofs.Common.{ℕ, ◌<◌, ◌≡◌, get_or}
use Rattle.rh_edit.specs.News.{inserted_at}
use Rattle.rh_edit.proofs.news.insert_news.Given as goal

abbrev pub invariant-loop-i : goal.invariant-loop-i
invariant-loop-i l = (p : ℕ) → p < l.i → get_or l.news p 0 ≡ get_or (inserted_at l.value l.seen l.at) p 0
