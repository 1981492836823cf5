-- Notes on a line whose words are known.
use Rattle.std.proofs.Common.{◌≡◌, ◌≢◌, ℕ, List, ◌∷◌, Option, Some, None, inl, inr}
use Rattle.std.specs.Prelude.{IfSome}
use Rattle.rh_lines.specs.Lines.{words_of}
use Rattle.rh_script.specs.Grammar.{verb_of}
use Rattle.rh_set_program.specs.Notes.{NotesCommand, ShowsLine, ShowsWord}
use Rattle.rh_set_program.specs.declared.note.Note.{Note}
use Rattle.rh_set_program.specs.declared.note.Note.TheVariants as note

pub line_noted : (r : Option Note) (line verb : List ℕ) (rest : List (List ℕ)) → words_of line ≡ verb ∷ rest → verb_of verb ≢ None → IfSome r (ShowsLine line) → IfSome r (NotesCommand line)
line_noted None line verb rest is known shows = tt
line_noted (Some (note.Form shown form)) line verb rest is known shows = (verb, rest, is, inr (known, shows))
line_noted (Some (note.Byte shown)) line verb rest is known shows = absurd shows
line_noted (Some (note.File f)) line verb rest is known shows = absurd shows
line_noted (Some (note.TooLarge held list)) line verb rest is known shows = absurd shows
line_noted (Some note.TooMany) line verb rest is known shows = absurd shows
line_noted (Some (note.Text path)) line verb rest is known shows = absurd shows
line_noted (Some note.Input) line verb rest is known shows = absurd shows
line_noted (Some (note.Name word)) line verb rest is known shows = absurd shows
line_noted (Some (note.Command word)) line verb rest is known shows = absurd shows

pub word_noted : (r : Option Note) (line verb : List ℕ) (rest : List (List ℕ)) → words_of line ≡ verb ∷ rest → verb_of verb ≡ None → IfSome r (ShowsWord verb) → IfSome r (NotesCommand line)
word_noted None line verb rest is unknown shows = tt
word_noted (Some (note.Command shown)) line verb rest is unknown shows = (verb, rest, is, inl (unknown, shows))
word_noted (Some (note.Byte shown)) line verb rest is unknown shows = absurd shows
word_noted (Some (note.File f)) line verb rest is unknown shows = absurd shows
word_noted (Some (note.TooLarge held list)) line verb rest is unknown shows = absurd shows
word_noted (Some note.TooMany) line verb rest is unknown shows = absurd shows
word_noted (Some (note.Text path)) line verb rest is unknown shows = absurd shows
word_noted (Some note.Input) line verb rest is unknown shows = absurd shows
word_noted (Some (note.Name word)) line verb rest is unknown shows = absurd shows
word_noted (Some (note.Form word form)) line verb rest is unknown shows = absurd shows
