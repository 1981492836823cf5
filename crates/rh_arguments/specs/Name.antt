-- The name by which a program was called.
use Rattle.std.specs.Prelude.{List, [], ◌∷◌, unwrap_or}
use Rattle.std.specs.Path.{path_file_name}
use Rattle.clap.specs.Walk.{Text}

-- what stands after the last slash of the first word, or the program's own name where that is nothing
abbrev pub name_in : List Text → (own : Text) → Text
name_in [] own = own
name_in (word ∷ _) own = unwrap_or (path_file_name word) own
