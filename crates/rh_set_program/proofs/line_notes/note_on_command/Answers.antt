use Rattle.std.proofs.Common.{◌≡◌, ◌∷◌, rules}
use Rattle.rh_lines.specs.Lines.{words_of}
use Rattle.rh_set_program.proofs.NoteLemmas.{line_noted, word_noted}
use Rattle.rh_set_program.proofs.line_notes.note_on_command.Goals as goal

pub returns-in-Some-form_of : goal.returns-in-Some-form_of
returns-in-Some-form_of c =
    let words : words_of c.args.line.now ≡ c.in_ok-word.word.now ∷ words_of c.in_ok-word.field-0-1.now = search rules in
    line_noted c.note_on_form.result _ _ _ words c.in-Some-form_of.ensures c.note_on_form.ensures

pub returns-in-None : goal.returns-in-None
returns-in-None c =
    let words : words_of c.args.line.now ≡ c.in_ok-word.word.now ∷ words_of c.in_ok-word.field-0-1.now = search rules in
    word_noted c.note_on_word.result _ _ _ words c.in-None.ensures c.note_on_word.ensures
