use Rattle.std.proofs.Common.{◌∙◌, ap, option_copied, refl, string_bytes, sym}
use Rattle.std.specs.BTreeMap.{get_by_text}
use Rattle.rh_script.specs.Names.{admitted}
use Rattle.rh_script.specs.Plan.{number_after, place_after}
use Rattle.rh_script.specs.Steps.{instruction_as}
use Rattle.rh_script.proofs.Naming.{adds_one, kept, none_kept, nothing_kept, same_places}
use Rattle.rh_script.proofs.Positions.{looked_up, place_looked_up}
use Rattle.rh_script.proofs.given.Given.admit.Goals as goal

pub returns-in-Some-clause-admitted : goal.returns-in-Some-clause-admitted
unfolding admitted number_after
returns-in-Some-clause-admitted c = λ before has.
    ap (λ s. place_after before (instruction_as s)) c.in-Act.is
    ∙ place_looked_up c.args.self.now.lists _ (string_bytes c.in-Act.name) has.lists
    ∙ ap (λ text. looked_up (get_by_text c.args.self.now.lists text)) (sym c.as_str.ensures.value)
    ∙ ap looked_up (sym c.get.ensures.value ∙ ap option_copied c.in-Some.is)

pub returns-in-None-clause-admitted : goal.returns-in-None-clause-admitted
unfolding admitted number_after
returns-in-None-clause-admitted c = λ before has _.
    ap (λ s. place_after before (instruction_as s)) c.in-Act.is
    ∙ place_looked_up c.args.self.now.lists _ (string_bytes c.in-Act.name) has.lists
    ∙ ap (λ text. looked_up (get_by_text c.args.self.now.lists text)) (sym c.as_str.ensures.value)
    ∙ ap looked_up (sym c.get.ensures.value ∙ ap option_copied c.in-None.is)

-- ---- what is kept

pub returns-in_ok-keep-in-Use-clause-kept : goal.returns-in_ok-keep-in-Use-clause-kept
returns-in_ok-keep-in-Use-clause-kept c = λ before line has.
    kept before line c.args.command.now _ c.args.self.now _ has c.in-Use.is (rw c.deref-in-Use.ensures at (c.in_ok-list-in-Use.ensures.kept _ has.lists)) (adds_one _ _ c.in-Use.path _ c.deref-in-Use-2.ensures c.in_ok-keep-in-Use.ensures.kept) refl

pub returns-in_ok-give_list-in-Save-clause-kept : goal.returns-in_ok-give_list-in-Save-clause-kept
returns-in_ok-give_list-in-Save-clause-kept c = λ before line has.
    kept before line c.args.command.now _ c.args.self.now _ has c.in-Save.is (rw c.deref-in-Save.ensures at (c.in_ok-give_list-in-Save.ensures.kept _ has.lists)) refl refl

pub returns-in-Some-clause-kept : goal.returns-in-Some-clause-kept
returns-in-Some-clause-kept c = λ before line has. nothing_kept before line c.args.command.now _ c.args.self.now has c.in-Act.is refl refl refl

pub returns-in_ok-keep-in-Snapshot-clause-kept : goal.returns-in_ok-keep-in-Snapshot-clause-kept
returns-in_ok-keep-in-Snapshot-clause-kept c = λ before line has.
    kept before line c.args.command.now _ c.args.self.now _ has c.in-Snapshot.is (same_places _ _ has.lists) refl (adds_one _ _ c.in-Snapshot.path _ c.deref-in-Snapshot-3.ensures c.in_ok-keep-in-Snapshot.ensures.kept)

pub returns-in-Clear-clause-kept : goal.returns-in-Clear-clause-kept
returns-in-Clear-clause-kept c = λ before line has. none_kept before line c.args.command.now c.args.self.now has c.in-Clear.is

pub returns-in-Clear-2-clause-kept : goal.returns-in-Clear-2-clause-kept
returns-in-Clear-2-clause-kept c = λ before line has. none_kept before line c.args.command.now c.args.self.now has c.in-Clear.is

pub returns-in-Clear-3-clause-kept : goal.returns-in-Clear-3-clause-kept
returns-in-Clear-3-clause-kept c = λ before line has. none_kept before line c.args.command.now c.args.self.now has c.in-Clear.is
