-- A text that was appended, and then its seal.
use Rattle.std.proofs.Common.{◌≡◌, ℕ, ◌-◌, List, ◌++◌, length, take, drop, Result, Ok, Err, sym, ap, ◌∙◌, append_assoc}
use Rattle.std.specs.Prelude.{OnOk, is_ok, if◌then◌else◌}
use Rattle.std.proofs.lemmas.List.{take_rest, drop_at}
use Rattle.sha2.specs.Sha256.{sha256}
use Rattle.rh_snapshot.specs.Snapshot.{sealed}

pub seal_appended : {X E : Type 0} (old mid after next head cells seal read : List ℕ) (before : ℕ) (r : Result X E)
    → before ≡ length old → mid ≡ old ++ head → after ≡ mid ++ cells → read ≡ after
    → seal ≡ sha256 (take (length read - before) (drop before read)) → next ≡ (if is_ok r then after ++ seal else after)
    → OnOk r (next ≡ old ++ sealed (head ++ cells))
seal_appended old mid after next head cells seal read before (Err e) start first second is hashed last = tt
seal_appended old mid after next head cells seal read before (Ok x) start first second is hashed last =
    let text = head ++ cells in
    let whole : after ≡ old ++ text = second ∙ ap (λ l. l ++ cells) first ∙ append_assoc old head cells in
    let part : take (length read - before) (drop before read) ≡ text = take_rest read before ∙ ap (drop before) (is ∙ whole) ∙ drop_at old text before (sym start) in
    last ∙ ap (λ l. l ++ seal) whole ∙ append_assoc old text seal ∙ ap (λ s. old ++ (text ++ s)) (hashed ∙ ap sha256 part)
