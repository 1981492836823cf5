use Rattle.std.proofs.Common.{◌≡◌, rules, arith, ap, sym, ◌∙◌, ◌++◌, ◌+◌, ◌-◌, drop, take}
use Rattle.std.proofs.lemmas.List.{take_at}
use Rattle.rh_lists.proofs.Skips.{cut_held, gives_held}
use Rattle.rh_lists.proofs.skipping.Skipping.give.Goals as goal

pub returns-clause-gives : goal.returns-clause-gives
returns-clause-gives g c =
    let s = c.args.self.now in
    let n = c.min-count.result in
    let whole : n ≡ s.given + n - s.given = omega arith in
    let given = take_at c.copy_from_slice.new.self (drop n c.args.buf.now) n (search rules) ∙ c.copy_from_slice.ensures.after in
    gives_held s.is_known s.lines _ _ _ _ c.requires.known
    (cut_held s.given n s.held s.front (search rules) ∙ ap (λ l. l ++ drop (s.given + n) (take s.held s.front)) (ap (λ k. take k (drop s.given s.front)) whole ∙ sym given))
