use Rattle.std.proofs.Common.{◌≡◌, ◌∙◌, ◌∷◌, ap, rules}
use Rattle.rh_lines.specs.Lines.{words_of}
use Rattle.rh_set_program.proofs.line_notes.note_on_name.Goals as goal

pub returns : goal.returns
returns c =
    let verb = c.in_ok-rest.field-0-0.now in
    let named = c.in_ok-word.word.now in
    let rest = words_of c.in_ok-word.field-0-1.now in
    let first : words_of c.args.line.now ≡ verb ∷ words_of c.in_ok-rest.rest.now = search rules in
    let second : words_of c.in_ok-rest.rest.now ≡ named ∷ rest = search rules in
    (verb, named, rest, first ∙ ap (λ words. verb ∷ words) second, search rules)
