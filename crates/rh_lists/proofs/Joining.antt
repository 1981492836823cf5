-- Two parts of a text, one behind the other.
use Rattle.std.proofs.Common.{◌≡◌, ℕ, ◌+◌, ◌-◌, ◌<◌, ◌≤◌, List, ◌++◌, length, take, drop, get_or, Result, Ok, Err, refl, sym, ap, subst, ◌∙◌, arith, append_assoc, add_assoc, length-append, length-take}
use Rattle.std.specs.Prelude.{IfOk, slice_index}
use Rattle.std.proofs.lemmas.List.{get_or-take}
use Rattle.rh_numbers.specs.declared.chunk.ChunkEnd.{ChunkEnd}
use Rattle.rh_numbers.specs.declared.chunk.ChunkEnd.TheVariants.{Open, Bad}
use Rattle.rh_numbers.specs.declared.line_so_far.LineSoFar.{LineSoFar}
use Rattle.rh_numbers.specs.declared.line_so_far.LineSoFar.TheVariants.{Start}
use Rattle.rh_numbers.specs.Chunks.{EndsLine, ReadsTo, goes_on, last_of}
use Rattle.rh_numbers.specs.Reading.{said_from}
use Rattle.rh_numbers.proofs.Chunks.{last_of_rest}
use Rattle.rh_lists.specs.Parts.{IsPartOf, IsReadTo, said_last, end_of_part}
use Rattle.rh_lists.specs.declared.part.ListPart.{ListPart}

module _ (so_far : LineSoFar) (front back keys : List ℕ) (lines : ℕ) (end : ChunkEnd) (first : ReadsTo so_far front keys lines end) where
  pub one_behind_the_other : (later : LineSoFar) (more all : List ℕ) (others : ℕ) (last : ChunkEnd) → end ≡ Open later → all ≡ keys ++ more → ReadsTo (said_last end) back more others last → ReadsTo so_far (front ++ back) all (lines + others) last
  one_behind_the_other later more all others last is both second before line rest =
      let then : ReadsTo later back more others last = subst (λ s. ReadsTo s back more others last) (ap said_last is) second in
      ap (said_from before line so_far) (append_assoc front back rest) ∙ first before line (back ++ rest) ∙ ap (λ e. goes_on (before ++ keys) (line + lines) e (back ++ rest)) is
      ∙ then (before ++ keys) (line + lines) rest
      ∙ (λ i. goes_on (append_assoc before keys more i) (add_assoc line lines others i) last rest)
      ∙ ap (λ k. goes_on (before ++ k) (line + (lines + others)) last rest) (sym both)

-- ---- bytes that are cut where a line begins

last_of_front : (bytes : List ℕ) (at : ℕ) → 0 < at → at ≤ length bytes → slice_index bytes (at - 1) ≡ 10 → last_of (take at bytes) ≡ 10
last_of_front bytes at some within feed =
    let place : length (take at bytes) - 1 ≡ at - 1 = omega (arith, length-take at bytes) in
    let inside : at - 1 < at = omega arith in
    ap (λ i. get_or (take at bytes) i 0) place ∙ get_or-take at bytes (at - 1) 0 inside ∙ feed

starts_anew : (end : ChunkEnd) → EndsLine end → said_last end ≡ Start
starts_anew (Open so_far) is = is
starts_anew (Bad bad) is = refl

-- both parts are read apart, and joined
pub both_read : {E : Type 0} (so_far : LineSoFar) (bytes front back : List ℕ) (at : ℕ) (first second : ListPart) (r : Result ListPart E) → front ≡ take at bytes → back ≡ drop at bytes → front ++ back ≡ bytes → 0 < at → at < length bytes
    → slice_index bytes (at - 1) ≡ 10 → IsPartOf so_far front first → IsPartOf Start back second
    → IfOk r (λ both. (so_far : LineSoFar) (front back : List ℕ) → IsReadTo so_far front first → IsReadTo (end_of_part first) back second → IsReadTo so_far (front ++ back) both)
    → IfOk r (λ both. both.lines ≤ first.lines + second.lines) → IfOk r (λ both. EndsLine second.end → EndsLine both.end) → IfOk r (IsPartOf so_far bytes)
both_read so_far bytes front back at first second (Err e) before behind all some inside feed one other read lines ends = tt
both_read so_far bytes front back at first second (Ok both) before behind all some inside feed one other read lines ends =
    let ended : last_of front ≡ 10 = ap last_of before ∙ last_of_front bytes at some (omega (arith, inside)) feed in
    let anew : end_of_part first ≡ Start = starts_anew first.end (one.whole ended) in
    record {
      read = subst (λ l. IsReadTo so_far l both) all (read so_far front back one.read (subst (λ s. IsReadTo s back second) (sym anew) other.read));
      lines = omega (arith, lines, one.lines, other.lines, ap length all, length-append front back);
      whole = λ end. ends (other.whole (ap last_of behind ∙ last_of_rest bytes at inside ∙ end));
    }
