-- What a word refers to, by what stands in a cell with it.
use Rattle.std.proofs.Common.{◌≡◌, ℕ, Option, Some, None, refl, ap, ◌∙◌}
use Rattle.rh_tagword.specs.Word.{word_in}
use Rattle.rh_tagword.specs.declared.word.Word.{Word}
use Rattle.rh_tagword.specs.declared.word.Word.TheVariants.{Empty, Key, Mark, Desc}
use Rattle.rh_world.specs.World.{Cell, Ref}
use Rattle.rh_world.specs.World.Cell.{desc, mark, plain}
use Rattle.rh_words.specs.Words.{cell_in, cell_said, desc_in, ref_said}

-- what stands in a cell, as a reference
abbrev pub referred : Cell → Option Ref
referred (plain u) = None
referred (mark x) = None
referred (desc d) = Some d

said_refers : (o : Option Word) (n : ℕ) → referred (cell_said o n) ≡ ref_said o
said_refers None n = refl
said_refers (Some Empty) n = refl
said_refers (Some (Key k)) n = refl
said_refers (Some (Mark worker number)) n = refl
said_refers (Some (Desc worker number)) n = refl

pub refers : (k : Cell) (n : ℕ) → k ≡ cell_in n → referred k ≡ desc_in n
refers k n e = ap referred e ∙ said_refers (word_in n) n
