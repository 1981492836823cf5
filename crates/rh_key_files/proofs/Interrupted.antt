-- Keys of which a failed read cut the rest off.
use Rattle.std.proofs.Common.{◌≡◌, ◌∙◌, ap, sym, refl, ℕ, ◌+◌, ◌-◌, ◌<◌, ◌≤◌, List, [], ◌++◌, length, take, Option, Some, None, Ok, Err, arith, append-nil, append_assoc}
use Rattle.std.specs.List.{position_from}
use Rattle.std.specs.Io.KnownBytes.{Consumes}
use Rattle.rh_key_files.specs.declared.version.Version.{Version}
use Rattle.rh_key_files.specs.declared.fault.KeyFault.TheVariants.{Short}
use Rattle.rh_key_files.specs.KeyFile.{spelled_keys}
use Rattle.rh_bytes.specs.Input.{always}
use Rattle.rh_key_files.specs.Reading.{CutShort, ReadsKeys, is_refused, keys_at, key_at}
use Rattle.rh_bytes.proofs.Many.{many_at-add}
use Rattle.rh_key_files.proofs.Filled.{IsFilled, part_short}
use Rattle.rh_key_files.proofs.Grammar.{keys_given, keys_read}

-- a part that is not whole, in which no key is refused
pub part_cut : (version : Version) (index : ℕ) (a b : Option (List ℕ)) (part keys : List ℕ) (n : ℕ) (front : List ℕ) → IsFilled part keys n front → None ≡ position_from (is_refused version) index front → n < length part → Consumes a b (take n part)
    → CutShort a b (keys_at version index (length keys))
part_cut version index None b part keys n front f fine lt h = tt
part_cut version index (Some x) None part keys n front f fine lt h = absurd h
part_cut version index (Some x) (Some y) part keys n front f fine lt h =
    (take n part, h, part_short version index (Some (take n part)) (Some []) part keys n front (always {X = Unit {0}} []) f fine lt (sym (append-nil (take n part))) refl)

-- after keys that were read, and before more of them
cut_within : (version : Version) (index done many more : ℕ) (front cut : List ℕ) → keys_at version index done (spelled_keys front ++ cut) ≡ Ok (front, cut) → keys_at version (index + done) many cut ≡ Err Short → keys_at version index (done + many + more) (spelled_keys front ++ cut) ≡ Err Short
cut_within version index done many more front cut first later =
    rw (many_at-add (key_at version) index (done + many) more (spelled_keys front ++ cut), many_at-add (key_at version) index done many (spelled_keys front ++ cut), first, later) refl

pub cut_later : (version : Version) (index done at many all : ℕ) (a b c : Option (List ℕ)) (front : List ℕ) → at ≡ index + done → done + many ≤ all → ReadsKeys a b (keys_at version index done) (always {X = Unit {0}} front) (Ok tt) → CutShort b c (keys_at version at many) → CutShort a c (keys_at version index all)
cut_later version index done at many all None b c front place within p q = tt
cut_later version index done at many all (Some x) None c front place within p q = absurd p
cut_later version index done at many all (Some x) (Some y) None front place within p q = absurd q
cut_later version index done at many all (Some x) (Some y) (Some z) front place within p (cut, parts, early) =
    let spells = keys_read version index done x (front, y) p in
    let first : keys_at version index done (spelled_keys front ++ cut) ≡ Ok (front, cut) =
    ap (λ m. keys_at version index m (spelled_keys front ++ cut)) (sym spells.many) ∙ keys_given version index front cut spells.fit in
    let later : keys_at version (index + done) many cut ≡ Err Short = ap (λ j. keys_at version j many cut) (sym place) ∙ early in
    let whole : done + many + (all - (done + many)) ≡ all = omega arith in (
      spelled_keys front ++ cut,
      spells.whole ∙ ap (λ l. spelled_keys front ++ l) parts ∙ sym (append_assoc (spelled_keys front) cut z),
      ap (λ m. keys_at version index m (spelled_keys front ++ cut)) (sym whole) ∙ cut_within version index done many (all - (done + many)) front cut first later,
    )
