use Rattle.std.proofs.Common.{◌≡◌, ◌-◌, ◌++◌, ℕ, List, rules, arith, subst, take}
use Rattle.std.proofs.lemmas.Slice.{take-put_mid}
use Rattle.rh_lists.specs.Blanks.{blanked}
use Rattle.rh_lists.proofs.Skips.{settles}
use Rattle.rh_lists.proofs.skipping.Skipping.settle.Goals as goal

pub returns-clause-kept : goal.returns-clause-kept
returns-clause-kept g c =
    let s = c.args.self.now in
    let whole : s.held - 0 ≡ s.held = omega arith in
    let blank = subst (λ n. (rest : List ℕ) → blanked c.lines_passed-lines.result (take n s.front ++ rest) ≡ c.blank.new.bytes ++ blanked c.blank.new.lines rest) whole c.blank.ensures in
    let made = take-put_mid 0 _ s.front c.blank.new.bytes s.held (search rules) (search rules) in
    settles s.held s.lines c.lines_passed-lines.result c.blank.new.lines s.front c.blank.new.bytes c.lines_passed-lines.ensures blank s.is_known s.given _ _ c.requires.unknown (s.none_given c.requires.unknown) made c.requires.filled
