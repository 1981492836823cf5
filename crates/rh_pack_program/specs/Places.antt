-- What a command reads there.
use Rattle.std.specs.Prelude.{ℕ, List, Option}
use Rattle.rh_shelf.specs.declared.file.FileShelf.{FileShelf}
use Rattle.rh_pack_program.specs.declared.places.Opened.{Opened}
use Rattle.rh_pack_program.specs.declared.places.Opened.TheVariants.{File, Input}
use Rattle.rh_pack_program.specs.declared.places.Places.{Places}

-- the bytes that are still to be read
abbrev pub remaining_of : {F I : Type 0} → (F → Option (List ℕ)) → (I → Option (List ℕ)) → Opened F I → Option (List ℕ)
remaining_of of_file of_input (File file) = of_file file
remaining_of of_file of_input (Input input) = of_input input

-- the files among the places
abbrev pub files_of : {T P : Type 0} → Places T P → FileShelf T
files_of s = s.files
