-- What the front of some bytes says of them all.
use Rattle.std.proofs.Common.{◌≡◌, ℕ, ◌+◌, ◌<◌, ◌≤◌, ◌≢◌, List, [], ◌++◌, length, Option, Some, None, Ok, Err, inl, inr, refl, sym, ap, ◌∙◌, subst, arith, append-nil, length-append}
use Rattle.std.proofs.lemmas.Bool.{cases_lt, lt-leb}
use Rattle.std.specs.Io.KnownBytes.{Consumes, IsAtEnd}
use Rattle.rh_lines.specs.Lines.{lines_of}
use Rattle.rh_play_text.specs.declared.fault.PlayTextFault.{PlayTextFault}
use Rattle.rh_play_text.specs.declared.fault.PlayTextKind.TheVariants as kind
use Rattle.rh_play_text.specs.declared.limits.TheConstants.{MAX_TEXT_BYTES}
use Rattle.rh_play_text.specs.declared.play.Play.{Play}
use Rattle.rh_play_text.specs.Grammar.{HasNoFaultBefore, sayings_of}
use Rattle.rh_play_text.specs.Play.{said_of}
use Rattle.rh_play_run.specs.Run.{IsLineRead, IsPlayRead, IsRefusedText, IsTextFault}

-- the front is all, or too long
abbrev pub IsFront : (bytes left : Option (List ℕ)) (text : List ℕ) → Type 0
IsFront bytes left text = Consumes bytes left text × (length text < MAX_TEXT_BYTES + 1 → IsAtEnd left)

too_long : (text : List ℕ) → MAX_TEXT_BYTES < length text → sayings_of text ≡ Err (record { line = 0; kind = kind.TooLong })
unfolding sayings_of
too_long text long = rw (lt-leb (length text) MAX_TEXT_BYTES long) refl

same_sayings : (text rest bytes : List ℕ) → bytes ≡ text ++ rest → (length text < MAX_TEXT_BYTES + 1 → rest ≡ []) → sayings_of bytes ≡ sayings_of text
same_sayings text rest bytes is end =
    elim (cases_lt (length text) (MAX_TEXT_BYTES + 1)) [
      | inl short ↦ ap sayings_of (is ∙ ap (λ (l : List ℕ). text ++ l) (end short) ∙ append-nil text)
      | inr long ↦
          let all : length bytes ≡ length text + length rest = ap length is ∙ length-append text rest in
          too_long bytes (omega arith) ∙ sym (too_long text (omega arith))
    ]

pub play_read : (bytes left : Option (List ℕ)) (text : List ℕ) (play : Play) → IsFront bytes left text → sayings_of text ≡ Ok (said_of play) → IsPlayRead bytes play
play_read None left text play front said = tt
play_read (Some bytes) None text play front said = absurd front.0
play_read (Some bytes) (Some rest) text play front said = same_sayings text rest bytes front.0 front.1 ∙ said

pub text_told : (text : List ℕ) (fault : PlayTextFault) → (fault.kind ≢ kind.Memory → sayings_of text ≡ Err fault) → (fault.kind ≡ kind.Memory → (1 ≤ fault.line) × (fault.line ≤ length (lines_of text)))
    → (fault.kind ≡ kind.Memory → length text ≤ MAX_TEXT_BYTES) → HasNoFaultBefore fault.line text → IsRefusedText text fault
text_told text fault refused within size before =
    (refused, λ memory. record { size = size memory; first = (within memory).0; last = (within memory).1; before = before })

-- a text that is not too long is all
whole_read : (number : ℕ) (text rest bytes : List ℕ) → bytes ≡ text ++ rest → (length text < MAX_TEXT_BYTES + 1 → rest ≡ []) → IsLineRead number text → IsLineRead number bytes
whole_read number text rest bytes is end read =
    subst (IsLineRead number) (sym (is ∙ ap (λ (l : List ℕ). text ++ l) (end (omega (arith, read.size))) ∙ append-nil text)) read

pub text_refused : (bytes left : Option (List ℕ)) (text : List ℕ) (fault : PlayTextFault) → IsFront bytes left text → IsRefusedText text fault → IsTextFault bytes fault
text_refused None left text fault front refused = tt
text_refused (Some bytes) None text fault front refused = absurd front.0
text_refused (Some bytes) (Some rest) text fault front refused = (
  (λ other. same_sayings text rest bytes front.0 front.1 ∙ refused.0 other),
  (λ memory. whole_read fault.line text rest bytes front.0 front.1 (refused.1 memory)),
)
