-- The key files of the parts: how far they are.
use Rattle.std.specs.Prelude.{◌≡◌, ℕ, ◌+◌, length, Result, IfErr, OnOk}
use Rattle.rh_splitting.specs.IntoFiles.{IsOfFiles}
use Rattle.rh_splitting.specs.declared.fault.FilesFault.{FilesFault}
use Rattle.rh_splitting.specs.declared.files.PartFiles.{PartFiles}

-- how many files were made and not removed again
abbrev pub made_of : {F : Type 0} → PartFiles F → ℕ
made_of files = length files.made.items

-- how many of them are whole
abbrev pub whole_of : {F : Type 0} → PartFiles F → ℕ
whole_of files = files.whole

-- how many of them stand at their places
abbrev pub placed_of : {F : Type 0} → PartFiles F → ℕ
placed_of files = files.placed

-- So many files were made, all of them are whole, and all stand at their places.
pub record HasPlaced {F : Type 0} (files : PartFiles F) (n : ℕ) : Type 0 where
  pub made : made_of files ≡ n
  pub whole : whole_of files ≡ n
  pub placed : placed_of files ≡ n

-- So many more files are made; how many are whole, and stand at their places, stays. Where it failed that is no fault of the list.
pub record MakesFiles {F T : Type 0} (n : ℕ) (old new : PartFiles F) (r : Result T FilesFault) : Type 0 where
  pub made : OnOk r (made_of new ≡ made_of old + n)
  pub whole : whole_of new ≡ whole_of old
  pub placed : placed_of new ≡ placed_of old
  pub fault : IfErr r IsOfFiles
