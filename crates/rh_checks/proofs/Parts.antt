-- A text that is read in parts.
use Rattle.std.proofs.Common.{◌≡◌, ℕ, ◌+◌, ◌*◌, ◌≤◌, List, [], ◌++◌, length, Option, Some, None, Ok, inl, sym, ap, ◌∙◌, arith, append-nil, length-append}
use Rattle.std.specs.Io.KnownBytes.{Consumes, IsAtEnd}
use Rattle.rh_lists.specs.Lists.{HasBytes}
use Rattle.rh_numbers.specs.declared.limits.TheConstants.{MAX_BYTES, PART_BYTES}
use Rattle.rh_numbers.specs.declared.line_so_far.LineSoFar.TheVariants.{Start}
use Rattle.rh_numbers.specs.Grammar.{without_mark}
use Rattle.rh_numbers.proofs.Searching.{mark_in_front}
use Rattle.rh_checks.specs.declared.found.Found.{Found}
use Rattle.rh_checks.specs.declared.walk.Walk.{Walk}
use Rattle.rh_checks.specs.Lines.{Findings, findings, text_findings}
use Rattle.rh_checks.specs.Lists.{FindsText, findings_in}
use Rattle.rh_checks.specs.Walk.{findings_from, findings_on}
use Rattle.rh_checks.proofs.Walks.{after, no_front, walked}

-- what the walk over these bytes finds, from the first one on
abbrev pub from_first : List ℕ → Findings
from_first bytes = findings_from (findings [] []) 1 Start [] bytes

pub all_walked : (text : List ℕ) → from_first (without_mark text) ≡ text_findings text
all_walked text = walked [] [] 1 [] (without_mark text) ∙ ap (after [] [] 1) (no_front (without_mark text))

-- Where the bytes are known, so many whole parts of them were read, and the walk goes on behind them.
abbrev pub Going : (begun : List ℕ) (start now : Option (List ℕ)) → Walk → (parts : ℕ) → Type 0
Going begun None now walk parts = Unit {0}
Going begun (Some bytes) None walk parts = ⊥
Going begun (Some bytes) (Some rest) walk parts = (findings_on walk rest ≡ from_first (without_mark (begun ++ bytes))) × (length bytes ≡ PART_BYTES * parts + length rest)

-- the walk goes on behind these bytes
abbrev pub WalksOn : (bytes : List ℕ) (old new : Walk) → Type 0
WalksOn bytes old new = (rest : List ℕ) → findings_on old (bytes ++ rest) ≡ findings_on new rest

pub first_walked : (begun : List ℕ) (start : Option (List ℕ)) (first walk : Walk) → 3 ≤ length begun → ((rest : List ℕ) → findings_on first rest ≡ from_first rest) → WalksOn (without_mark begun) first walk → Going begun start start walk 0
first_walked begun None first walk long new on = tt
first_walked begun (Some bytes) first walk long new on =
    (sym (on bytes) ∙ new (without_mark begun ++ bytes) ∙ ap from_first (sym (mark_in_front begun bytes (inl long))), omega arith)

pub part_walked : (begun part : List ℕ) (start mid now : Option (List ℕ)) (old new : Walk) (parts : ℕ) → Going begun start mid old parts → Consumes mid now part → WalksOn part old new → length part ≡ PART_BYTES → Going begun start now new (parts + 1)
part_walked begun part None mid now old new parts going taken on whole = tt
part_walked begun part (Some bytes) None now old new parts going taken on whole = absurd going
part_walked begun part (Some bytes) (Some xs) None old new parts going taken on whole = absurd taken
part_walked begun part (Some bytes) (Some xs) (Some ys) old new parts going taken on whole =
    (sym (on ys) ∙ ap (findings_on old) (sym taken) ∙ going.0, omega (arith, going.1, ap length taken, length-append part ys, whole))

pub text_found : (begun part : List ℕ) (start mid now : Option (List ℕ)) (old new : Walk) (parts : ℕ) (found : Found) → Going begun start mid old parts → Consumes mid now part → WalksOn part old new → IsAtEnd now → findings_in found ≡ findings_on new [] → FindsText begun start now (Ok found)
text_found begun part None mid now old new parts found going taken on end is = tt
text_found begun part (Some bytes) None now old new parts found going taken on end is = absurd going
text_found begun part (Some bytes) (Some xs) None old new parts found going taken on end is = absurd taken
text_found begun part (Some bytes) (Some xs) (Some ys) old new parts found going taken on end is =
    (is ∙ ap (findings_on new) (sym end) ∙ sym (on ys) ∙ ap (findings_on old) (sym taken) ∙ going.0 ∙ all_walked (begun ++ bytes), end)

pub short_found : (bytes : List ℕ) (first walk : Walk) (found : Found) → ((rest : List ℕ) → findings_on first rest ≡ from_first rest) → WalksOn (without_mark bytes) first walk → findings_in found ≡ findings_on walk [] → findings_in found ≡ text_findings bytes
short_found bytes first walk found new on is =
    is ∙ sym (on []) ∙ ap (findings_on first) (append-nil (without_mark bytes)) ∙ new (without_mark bytes) ∙ all_walked bytes

pub many_bytes : (begun : List ℕ) (start now : Option (List ℕ)) (walk : Walk) (parts : ℕ) → Going begun start now walk parts → MAX_BYTES ≤ PART_BYTES * parts → HasBytes MAX_BYTES start
many_bytes begun None now walk parts going long = tt
many_bytes begun (Some bytes) None walk parts going long = absurd going
many_bytes begun (Some bytes) (Some rest) walk parts going long = omega (arith, going.1, long)
