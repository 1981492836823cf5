-- The end of a text, and its first fault.
use Rattle.std.proofs.Common.{◌≡◌, ℕ, ◌+◌, List, [], ◌∷◌, ◌++◌, Option, Some, None, Result, Ok, Err, sym, ap, subst, ◌∙◌, append-nil}
use Rattle.std.specs.Prelude.{IfErr, IfOk}
use Rattle.rh_numbers.specs.declared.chunk.ChunkEnd.{ChunkEnd}
use Rattle.rh_numbers.specs.declared.chunk.ChunkEnd.TheVariants.{Open, Bad}
use Rattle.rh_numbers.specs.declared.fault.TextFault.{TextFault}
use Rattle.rh_numbers.specs.declared.fault.TextFault.TheVariants as texts
use Rattle.rh_numbers.specs.declared.line_so_far.BadLine.{BadLine}
use Rattle.rh_numbers.specs.declared.line_so_far.BadLine.TheVariants.{NotAKey, OutOfRange}
use Rattle.rh_numbers.specs.declared.line_so_far.LineSoFar.{LineSoFar}
use Rattle.rh_numbers.specs.declared.line_so_far.LineSoFar.TheVariants.{Head}
use Rattle.rh_numbers.specs.Chunks.{ReadsTo, ended, goes_on, in_line}
use Rattle.rh_numbers.specs.Reading.{Said, text_said, with_line}
use Rattle.rh_numbers.proofs.Spelling.{at_end}
use Rattle.rh_cutting.specs.declared.list.KeyList.{KeyList}
use Rattle.rh_cutting.specs.Pieces.{keys_in}
use Rattle.rh_lists.specs.Parts.{TellsText, Refuses}

module _ (bytes keys : List ℕ) (lines : ℕ) (end : ChunkEnd) (read : ReadsTo Head bytes keys lines end) where
  pub bad_line_said : (bad : BadLine) (rest : List ℕ) → end ≡ Bad bad → text_said (bytes ++ rest) ≡ (keys, Some (in_line (1 + lines) bad))
  bad_line_said bad rest is = read [] 1 rest ∙ ap (λ e. goes_on keys (1 + lines) e rest) is

  -- where nothing comes any more
  pub end_said : (so_far : LineSoFar) (last : Result (Option ℕ) BadLine) → end ≡ Open so_far → ((keys : List ℕ) (line : ℕ) → with_line keys line so_far ≡ ended keys line last)
      → text_said bytes ≡ ended keys (1 + lines) last
  end_said so_far last is told =
      ap text_said (sym (append-nil bytes)) ∙ read [] 1 [] ∙ ap (λ e. goes_on keys (1 + lines) e []) is ∙ at_end keys (1 + lines) so_far ∙ told keys (1 + lines)

-- ---- the fault of a line

pub line_refused : (said : Said) (line : ℕ) (bad : BadLine) → said.1 ≡ Some (in_line line bad) → Refuses said (in_line line bad)
line_refused said line NotAKey h = h
line_refused said line OutOfRange h = h

module _ (bytes keys : List ℕ) (lines : ℕ) (end : ChunkEnd) (read : ReadsTo Head bytes keys lines end) (bad : BadLine) (is : end ≡ Bad bad) where
  pub refused_on : (rest : List ℕ) → Refuses (text_said (bytes ++ rest)) (in_line (1 + lines) bad)
  refused_on rest = line_refused (text_said (bytes ++ rest)) (1 + lines) bad (ap (λ s. s.1) (bad_line_said bytes keys lines end read bad rest is))

  pub refused_here : Refuses (text_said bytes) (in_line (1 + lines) bad)
  refused_here = subst (λ l. Refuses (text_said l) (in_line (1 + lines) bad)) (append-nil bytes) (refused_on [])

-- one key more, unless there is no memory for it
pub key_told : (said : Said) (keys : List ℕ) (key : ℕ) (r : Result KeyList TextFault) → IfOk r (λ more. keys_in more ≡ keys ++ (key ∷ [])) → IfErr r (λ fault. fault ≡ texts.Memory)
    → said ≡ (keys ++ (key ∷ []), None) → TellsText said r
key_told said keys key (Ok more) ok err h = h ∙ ap (λ k. (k, None)) (sym ok)
key_told said keys key (Err fault) ok err h = subst (Refuses said) (sym err) tt
