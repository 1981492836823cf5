-- A chunk of a text, read line by line.
use Rattle.std.proofs.Common.{◌≡◌, ◌≢◌, ℕ, zero, suc, ◌+◌, ◌-◌, ◌<◌, List, [], ◌∷◌, ◌++◌, length, take, drop, drop-cons, get_or, Some, None, refl, sym, ap, ◌∙◌, arith, append_assoc, append-nil, length-drop, take-append-drop}
use Rattle.std.specs.Prelude.{fold, slice_index}
use Rattle.std.proofs.lemmas.List.{drop_all, get_or-drop}
use Rattle.rh_numbers.specs.declared.chunk.ChunkEnd.{ChunkEnd}
use Rattle.rh_numbers.specs.declared.chunk.ChunkEnd.TheVariants.{Open, Bad}
use Rattle.rh_numbers.specs.declared.line_so_far.BadLine.{BadLine}
use Rattle.rh_numbers.specs.declared.line_so_far.LineSoFar.{LineSoFar}
use Rattle.rh_numbers.specs.declared.line_so_far.LineSoFar.TheVariants.{Start}
use Rattle.rh_numbers.specs.Chunks.{ReadsTo, goes_on, last_of, told}
use Rattle.rh_numbers.specs.Grammar.{IsOneLine}
use Rattle.rh_numbers.specs.Reading.{◌>>=◌, next, said_from, with_line}
use Rattle.rh_numbers.proofs.Fronts.{behind, said_behind}
use Rattle.rh_numbers.proofs.Spelling.{at_feed, walk}

-- ---- along one line

one_line : (text : List ℕ) (n : ℕ) → ((i : ℕ) → i < n → slice_index text i ≢ 10) → IsOneLine (take n text)
one_line text zero none = tt
one_line [] (suc n) none = tt
one_line (b ∷ text) (suc n) none = (none 0 (omega arith), one_line text n (λ i lt. none (suc i) (omega (arith, lt))))

module _ (keys : List ℕ) (line : ℕ) (so_far : LineSoFar) (text : List ℕ) (n : ℕ) (none : (i : ℕ) → i < n → slice_index text i ≢ 10) (more : List ℕ) where
  cut_here : text ++ more ≡ take n text ++ (drop n text ++ more)
  cut_here = ap (λ l. l ++ more) (sym (take-append-drop n text)) ∙ append_assoc (take n text) (drop n text) more

  -- up to these bytes the line has said this
  pub walked : said_from keys line so_far (text ++ more) ≡ said_from keys line (fold next so_far (take n text)) (drop n text ++ more)
  walked = ap (said_from keys line so_far) cut_here ∙ walk keys line so_far (take n text) (drop n text ++ more) (one_line text n none)

  module _ (said : LineSoFar) (is : said ≡ fold next so_far (take n text)) where
    -- the line goes on behind the chunk
    pub to_the_end : n ≡ length text → said_from keys line so_far (text ++ more) ≡ said_from keys line said more
    to_the_end all =
        walked ∙ ap (λ s. said_from keys line s (drop n text ++ more)) (sym is)
        ∙ ap (λ l. said_from keys line said (l ++ more)) (drop_all n text (omega (arith, all)))

    module _ (lt : n < length text) (feed : slice_index text n ≡ 10) where
      at_its_end : said_from keys line so_far (text ++ more) ≡ (with_line keys line said >>= (λ later. said_from later (line + 1) Start (drop (n + 1) text ++ more)))
      at_its_end =
          let one : n + 1 ≡ suc n = omega arith in
          let ends : drop n text ≡ 10 ∷ drop (n + 1) text = drop-cons text n 0 lt ∙ (λ i. feed i ∷ drop (sym one i) text) in
          walked ∙ ap (λ s. said_from keys line s (drop n text ++ more)) (sym is) ∙ ap (λ l. said_from keys line said (l ++ more)) ends
          ∙ at_feed keys line said (drop (n + 1) text ++ more)

      pub next_line : (later : List ℕ) → with_line keys line said ≡ told later line None → said_from keys line so_far (text ++ more) ≡ said_from later (line + 1) Start (drop (n + 1) text ++ more)
      next_line later h = at_its_end ∙ ap (λ s. s >>= (λ k. said_from k (line + 1) Start (drop (n + 1) text ++ more))) h

      pub bad_line : (later : List ℕ) (bad : BadLine) → with_line keys line said ≡ told later line (Some bad) → said_from keys line so_far (text ++ more) ≡ goes_on later line (Bad bad) more
      bad_line later bad h = at_its_end ∙ ap (λ s. s >>= (λ k. said_from k (line + 1) Start (drop (n + 1) text ++ more))) h

-- ---- the last byte

pub last_of_rest : (text : List ℕ) (n : ℕ) → n < length text → last_of (drop n text) ≡ last_of text
last_of_rest text n lt =
    let place : n + (length (drop n text) - 1) ≡ length text - 1 = omega (arith, length-drop n text) in
    get_or-drop n text (length (drop n text) - 1) 0 ∙ ap (λ i. get_or text i 0) place

-- ---- whatever stands before the chunk

behind_goes_on : (front keys : List ℕ) (line : ℕ) (end : ChunkEnd) (rest : List ℕ) → behind front (goes_on keys line end rest) ≡ goes_on (front ++ keys) line end rest
behind_goes_on front keys line (Open so_far) rest = sym (said_behind front keys line so_far rest)
behind_goes_on front keys line (Bad bad) rest = refl

-- the same where no key was said before
abbrev pub IsReadFirst : LineSoFar → List ℕ → (keys : List ℕ) (lines : ℕ) → ChunkEnd → Type 0
IsReadFirst so_far text keys lines end = (line : ℕ) (rest : List ℕ) → said_from [] line so_far (text ++ rest) ≡ goes_on keys (line + lines) end rest

pub read_anywhere : (so_far : LineSoFar) (text keys : List ℕ) (lines : ℕ) (end : ChunkEnd) → IsReadFirst so_far text keys lines end
    → (k : List ℕ) (l : ℕ) (e : ChunkEnd) → k ≡ keys → l ≡ lines → e ≡ end → ReadsTo so_far text k l e
read_anywhere so_far text keys lines end first k l e is_keys is_lines is_end front line rest =
    ap (λ k. said_from k line so_far (text ++ rest)) (sym (append-nil front)) ∙ said_behind front [] line so_far (text ++ rest) ∙ ap (behind front) (first line rest)
    ∙ behind_goes_on front keys (line + lines) end rest
    ∙ sym (λ i. goes_on (front ++ is_keys i) (line + is_lines i) (is_end i) rest)
