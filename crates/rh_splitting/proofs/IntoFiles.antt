-- A list that is split into key files, before whose bytes none was taken.
use Rattle.std.proofs.Common.{◌≡◌, ◌∙◌, refl, sym, subst, ℕ, List, [], ◌∷◌, ◌++◌, length, Option, Some, None, Result, Ok, Err, inr, arith, append_assoc}
use Rattle.std.specs.Prelude.{All, IfErr}
use Rattle.std.specs.Io.KnownBytes.{Consumes, Keeps}
use Rattle.std.proofs.KnownBytes.{Consumes-kept, Consumes-nil}
use Rattle.std.proofs.lemmas.Option.{get_or_from_slice_get, slice_get_within}
use Rattle.rh_bytes.specs.Counting.{Rose, failures_of, inner_of}
use Rattle.rh_bytes.specs.Taking.{TakesAtMost}
use Rattle.rh_bytes.specs.declared.counted.Counted.{Counted}
use Rattle.rh_key_files.specs.Limits.{header_bytes}
use Rattle.rh_key_files.specs.Reading.{BeginsWithHeader, IsReadFrom, TakesGoodKeys, header_at}
use Rattle.rh_key_files.proofs.Tested.{good_in_header, header_long}
use Rattle.rh_layout.specs.declared.limits.TheConstants.{MAX_KEYS}
use Rattle.rh_numbers.specs.Reading.{SayOnly}
use Rattle.rh_numbers.specs.declared.fault.TextFault.TheVariants.{Read}
use Rattle.rh_numbers.specs.declared.line_so_far.LineSoFar.TheVariants.{Head}
use Rattle.rh_parts.specs.Parts.{in_part}
use Rattle.rh_splitting.specs.declared.fault.FilesFault.{FilesFault}
use Rattle.rh_splitting.specs.declared.fault.FilesFault.TheVariants as files
use Rattle.rh_splitting.specs.declared.fault.SplitFault.{SplitFault}
use Rattle.rh_splitting.specs.declared.fault.SplitFault.TheVariants.{Keys, Text, TooMany, Write}
use Rattle.rh_splitting.specs.declared.part.Part.{Part}
use Rattle.rh_splitting.specs.declared.source.Source.{Source}
use Rattle.rh_splitting.specs.declared.source.Source.TheVariants as sources
use Rattle.rh_splitting.specs.IntoFiles.{HasFirst, IsNotSplit, IsOfFiles, IsOfWriting, SplitsList, told_of_list}
use Rattle.rh_splitting.specs.Parts.{EachGot, IsBegun, IsFull}
use Rattle.rh_splitting.specs.Splitting.{IsListFrom, ReadsSource, SayThen, SplitsSource, TakesOfSource, unread}
use Rattle.rh_splitting.proofs.Given.{at_place}

-- ---- nothing was taken yet

-- what is known of the bytes that stayed is known of those before
moved : (P : Option (List ℕ) → Type 0) (a b : Option (List ℕ)) → (P b → P None) → Keeps a b → P b → P a
moved P None b forget kept p = forget p
moved P (Some xs) None forget kept p = absurd kept
moved P (Some xs) (Some ys) forget kept p = subst (λ l. P (Some l)) kept p

none_taken : (a b : Option (List ℕ)) → Keeps a b → Consumes a b []
none_taken a b kept = Consumes-kept a a b [] (Consumes-nil a) kept

nothing_said : SayOnly [] []
nothing_said = (1, Head, λ rest. refl)

takes_none : {X : Type 0} (source : Source) (a b : Option (List ℕ)) (r : Result X SplitFault) → Keeps a b → TakesOfSource source a b r
takes_none sources.Text a b r kept = record { before = []; last = []; taken = none_taken a b kept; short = omega arith; keys = []; no_fault = nothing_said }
takes_none sources.Keys a b r kept =
    let none : (n : ℕ) → TakesAtMost a b n = λ n. record { taken = []; consumed = none_taken a b kept; few = omega arith } in
    record { taken = none _; bounded = none _ }

takes_later : {X : Type 0} (source : Source) (a b c : Option (List ℕ)) (r : Result X SplitFault) → Keeps a b → TakesOfSource source b c r → TakesOfSource source a c r
takes_later source a b c r kept takes = moved (λ x. TakesOfSource source x c r) a b (λ _. takes_none source None c r tt) kept takes

no_line : (a b : Option (List ℕ)) → Keeps a b → SayThen a b [] Read
no_line None b kept = tt
no_line (Some xs) b kept = record { taken = []; consumed = none_taken (Some xs) b kept; no_fault = nothing_said }

no_fault_read : (a : Option (List ℕ)) (fault : SplitFault) → fault ≡ unread sources.Keys → (b : Option (List ℕ)) (count : ℕ) → IsNotSplit sources.Keys a b count fault
no_fault_read None fault is b count = rw is (refl, tt)
no_fault_read (Some xs) fault is b count = rw is (refl, tt)

-- nothing can be read
pub unread_stops : (source : Source) (a b : Option (List ℕ)) (count : ℕ) (fault : SplitFault) → fault ≡ unread source → Keeps a b → IsNotSplit source a b count fault
unread_stops sources.Text a b count fault is kept = rw is (refl, [], no_line a b kept)
unread_stops sources.Keys a b count fault is kept = no_fault_read a fault is b count

no_key_tested : (a b : Option (List ℕ)) → Keeps a b → TakesGoodKeys header_at a b
no_key_tested a b kept = good_in_header header_at header_bytes a b header_long (record { taken = []; consumed = none_taken a b kept; few = omega arith })

-- nothing was read of a source that can be read
pub none_read : {R : Type 0} (remaining : R → Option (List ℕ)) (source : Source) (old new : Counted R) → Keeps (remaining (inner_of old)) (remaining (inner_of new)) → failures_of new ≡ failures_of old
    → ReadsSource {X = Unit {0}} remaining source old new (Ok tt)
none_read remaining source old new kept same =
    record { takes = takes_none source _ _ (Ok tt) kept; counts = record { rose = λ h. cc; stays = λ _. same }; tested = λ h. cc; memory = λ h. cc; not_too_many = λ h. cc }

-- nor of one that cannot
pub cannot_read : {R : Type 0} (remaining : R → Option (List ℕ)) (source : Source) (old new : Counted R) (fault : SplitFault) → fault ≡ unread source → Keeps (remaining (inner_of old)) (remaining (inner_of new))
    → Rose (failures_of old) (failures_of new) → ReadsSource {X = Unit {0}} remaining source old new (Err fault)
cannot_read remaining sources.Text old new fault is kept rose =
    rw is (record { takes = takes_none {X = Unit {0}} sources.Text _ _ (Err (unread sources.Text)) kept; counts = record { rose = λ _. rose; stays = λ h. absurd h }; tested = λ h. cc; memory = λ h. cc; not_too_many = λ h. cc })
cannot_read remaining sources.Keys old new fault is kept rose =
    rw is (record { takes = takes_none {X = Unit {0}} sources.Keys _ _ (Err (unread sources.Keys)) kept; counts = record { rose = λ _. rose; stays = λ h. absurd h }; tested = λ _. no_key_tested _ _ kept; memory = λ h. cc; not_too_many = λ h. cc })

-- what reads it from there on reads it from the first byte on
pub reads_later : {R : Type 0} (remaining : R → Option (List ℕ)) (source : Source) (a b c : Counted R) (r : Result (Unit {0}) SplitFault) → Keeps (remaining (inner_of a)) (remaining (inner_of b)) → failures_of b ≡ failures_of a
    → ReadsSource remaining source b c r → ReadsSource remaining source a c r
reads_later remaining source a b c r kept same reads = record {
  takes = takes_later source _ _ _ r kept reads.takes;
  counts = record { rose = λ h. subst (λ n. Rose n (failures_of c)) same (reads.counts.rose h); stays = λ h. reads.counts.stays h ∙ same };
  tested = λ h. moved (λ x. TakesGoodKeys header_at x (remaining (inner_of c))) (remaining (inner_of a)) (remaining (inner_of b)) (λ _. tt) kept (reads.tested h);
  memory = λ h. moved BeginsWithHeader (remaining (inner_of a)) (remaining (inner_of b)) (λ _. tt) kept (reads.memory h);
  not_too_many = reads.not_too_many;
}

-- and so does a fault of a file, which is none of the source
pub reads_on : {R Y : Type 0} (remaining : R → Option (List ℕ)) (source : Source) (old new : Counted R) (r : Result Y FilesFault) → IfErr r IsOfFiles → ReadsSource {X = Unit {0}} remaining source old new (Ok tt)
    → ReadsSource remaining source old new (told_of_list r)
reads_on remaining source old new (Ok y) of reads = reads
reads_on remaining source old new (Err (files.Split fault)) of reads = absurd of
reads_on remaining source old new _ of reads = reads

pub of_writing : {Y : Type 0} (r : Result Y FilesFault) → IfErr r IsOfWriting → IfErr r IsOfFiles
of_writing (Ok y) of = tt
of_writing (Err (files.Write part)) of = tt
of_writing _ of = absurd of

-- ---- why it is not split

full_part : {W : Type 0} (contents : W → Option (List ℕ)) (old new : List (Part W)) (front : List ℕ) (part : ℕ) → All IsBegun old → EachGot contents old new front → IsFull new part → length (in_part (length old) part front) ≡ MAX_KEYS
full_part contents old new front part begun each (full, there, many) =
    let first = at_place old part (omega (arith, slice_get_within new part full there, each.many)) in
    let got = each.each part first.0 full first.1 there in
    let is = get_or_from_slice_get old part first.0 first.0 first.1 in
    let fresh : IsBegun first.0 = subst IsBegun is (begun part first.0 (slice_get_within old part first.0 first.1)) in
    omega (arith, got.counted, got.same_limit, many, fresh.0, fresh.1)

first_of_file : (bytes left : Option (List ℕ)) (keys front : List ℕ) (key : ℕ) (more : List ℕ) → keys ≡ front ++ (key ∷ more) → IsReadFrom bytes left keys → HasFirst sources.Keys bytes left (front ++ (key ∷ []))
first_of_file bytes left keys front key more is read = (more, subst (IsReadFrom bytes left) (is ∙ sym (append_assoc front (key ∷ []) more)) read)

refused : {W : Type 0} (contents : W → Option (List ℕ)) (source : Source) (a b : Option (List ℕ)) (old new : List (Part W)) (fault : SplitFault) → All IsBegun old → SplitsSource {X = Unit {0}} source a b contents old new (Err fault)
    → IsNotSplit source a b (length old) fault
refused contents sources.Text a b old new (Text fault) begun h = (refl, h.0, h.1)
refused contents sources.Text a b old new (Keys fault) begun h = absurd h
refused contents sources.Text a b old new (TooMany part) begun (front, key, say, place, each, full) = (front, key, say, place, full_part contents old new front part begun each full)
refused contents sources.Text a b old new (Write part) begun (front, key, say, place, each) = (front, key, say, place)
refused contents sources.Keys a b old new (Text fault) begun h = absurd h.2
refused contents sources.Keys a b old new (Keys fault) begun h = (refl, h.0)
refused contents sources.Keys a b old new (TooMany part) begun (keys, read, (front, key, stands, place, each, full)) =
    (front, key, first_of_file a b keys front key stands.0 stands.1 read, place, full_part contents old new front part begun each full)
refused contents sources.Keys a b old new (Write part) begun (keys, read, (front, key, stands, place, each)) = (front, key, first_of_file a b keys front key stands.0 stands.1 read, place)

-- of unknown bytes nothing more is said
any_first : (source : Source) (left : Option (List ℕ)) (keys : List ℕ) → HasFirst source None left keys
any_first sources.Text left keys = tt
any_first sources.Keys left keys = ([], tt)

of_unknown : (source : Source) (b left : Option (List ℕ)) (count : ℕ) (fault : SplitFault) → IsNotSplit source b left count fault → IsNotSplit source None left count fault
of_unknown source b left count (Text fault) (is, keys, say) = (is, keys, tt)
of_unknown source b left count (Keys fault) (is, first) = (is, tt)
of_unknown source b left count (TooMany part) (front, key, say, place, full) = (front, key, any_first source left (front ++ (key ∷ [])), place, full)
of_unknown source b left count (Write part) (front, key, say, place) = (front, key, any_first source left (front ++ (key ∷ [])), place)

pub split_stops : {W : Type 0} (contents : W → Option (List ℕ)) (source : Source) (a b c : Option (List ℕ)) (count : ℕ) (old new : List (Part W)) (fault : SplitFault) → length old ≡ count → All IsBegun old → Keeps a b
    → SplitsSource {X = Unit {0}} source b c contents old new (Err fault) → IsNotSplit source a c count fault
split_stops contents source a b c count old new fault many begun kept h =
    subst (λ n. IsNotSplit source a c n fault) many (moved (λ x. IsNotSplit source x c (length old) fault) a b (of_unknown source b c (length old) fault) kept (refused contents source b c old new fault begun h))

-- ---- it was read to its end

any_list : (source : Source) (left : Option (List ℕ)) → IsListFrom source None left
any_list sources.Text left = ([], tt)
any_list sources.Keys left = ([], tt)

whole_list : {W X : Type 0} (contents : W → Option (List ℕ)) (source : Source) (a b : Option (List ℕ)) (old new : List (Part W)) (x : X) → SplitsSource source a b contents old new (Ok x) → IsListFrom source a b
whole_list contents sources.Text a b old new x h = (h.0, h.1)
whole_list contents sources.Keys a b old new x h = (h.0, h.1)

-- and what comes then is one of writing
pub whole_read : {W X Y : Type 0} (contents : W → Option (List ℕ)) (source : Source) (a b c : Option (List ℕ)) (count : ℕ) (old new : List (Part W)) (x : X) (r : Result Y FilesFault) → IfErr r IsOfWriting → Keeps a b
    → SplitsSource source b c contents old new (Ok x) → SplitsList source a c count r
whole_read {Y = Y} contents source a b c count old new x r of kept h = by_answer r of
  where
    list : IsListFrom source a c
    list = moved (λ y. IsListFrom source y c) a b (λ _. any_list source c) kept (whole_list contents source b c old new x h)

    by_answer : (r : Result Y FilesFault) → IfErr r IsOfWriting → SplitsList source a c count r
    by_answer (Ok y) of = list
    by_answer (Err (files.Write part)) of = inr list
    by_answer _ of = absurd of
