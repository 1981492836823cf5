use Rattle.std.proofs.Common.{◌≡◌, ◌∙◌, ◌++◌, [], ap, inr, subst, if◌then◌else◌}
use Rattle.rh_cli.specs.Progress.{Went, before, cut_text, taken_away, terminal}
use Rattle.rh_cli.proofs.ProgressLemmas.{in_turn}
use Rattle.rh_cli.proofs.progress.ProgressLineProgress.cut.Goals as goal

-- (the text is so long that a search spells it out and ends)
pub returns : goal.returns
returns g c =
    let front : c.before-before.result.now ≡ before c.args.self.now = c.before-before.ensures ∙ ap (λ b. if b then taken_away else []) c.is_next.ensures.there in
    inr (record {
      there = c.show.ensures.stands;
      went = subst (λ old. Went g.W.Write.contents old (terminal c.show.new.self) (before c.args.self.now ++ cut_text)) c.is_next.ensures.same
          (subst (λ b. Went g.W.Write.contents (terminal c.is_next.new.self) (terminal c.show.new.self) (b ++ cut_text)) front (in_turn _ _ _ c.before-before.result.now cut_text c.show.ensures.went));
    })
