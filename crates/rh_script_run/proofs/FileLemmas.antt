-- The files of a script's world, and what stands at the paths of a shelf.
use Rattle.std.proofs.Common.{◌≡◌, ◌∙◌, arith, length, ap, sym, subst, refl, ℕ, ◌<◌, ◌^◌, Bool, true, false, cond, List, [], ◌∷◌, Option, Some, None, option_map, Ok, Err}
use Rattle.std.specs.FinSet as finset
use Rattle.std.specs.Prelude.{nat_le}
use Rattle.std.specs.List.{list_all}
use Rattle.std.specs.Str.{bytes_eq}
use Rattle.std.proofs.lemmas.Bool.{false_from_ne_true, le-leb, or_parts, true≢false}
use Rattle.std.proofs.lemmas.List.Folds.{list_any-append}
use Rattle.std.proofs.lemmas.Slice.Eq.{bytes_eq-Decides}
use Rattle.rh_layout.specs.Layout.{Keys, keys_of}
use Rattle.rh_layout.proofs.LayoutLemmas.{layout_keys, layout_own}
use Rattle.rh_edit.specs.Held.{Held}
use Rattle.rh_key_files.specs.declared.fault.KeyFault.TheVariants.{NotKeys, Short}
use Rattle.rh_bytes.specs.Input.{◌>>=◌, bytes_at, is_byte}
use Rattle.rh_key_files.specs.Reading.{after_header, after_version, file_keys, header_at, named, version_at}
use Rattle.rh_key_files.specs.Source as source
use Rattle.rh_key_files.specs.Source.{keys_of_file}
use Rattle.rh_snapshot.specs.declared.version.Version.TheVariants.{Second}
use Rattle.rh_snapshot.specs.Snapshot.{snap_spelling}
use Rattle.rh_snapshot.proofs.Grammar.{file_given, second_file}
use Rattle.rh_script.specs.Names.{is_given}
use Rattle.rh_shelf.specs.Shelf.{Files, Puts, with_file}
use Rattle.rh_operations.specs.declared.key_lists.KeyList.{KeyList}
use Rattle.rh_operations.specs.declared.key_lists.Source.{Source}
use Rattle.rh_operations.specs.declared.key_lists.Source.TheVariants.{Path, Memory}
use Rattle.rh_operations.specs.Snapshots.{IsSnapshotOf}
use Rattle.rh_operations.specs.Found.{keys_found, table_found}
use Rattle.rh_script_run.specs.Files.{Bytes, File, FileMap, HasFiles, IsFile, Sealed, with_snapshot}
use Rattle.rh_operations.specs.KeyLists.{Stands, source_bytes as bytes_in, path_of, paths_of}
use Rattle.rh_operations.specs.Found.{keys_or_cause, table_or_cause}
use Rattle.rh_script_run.specs.Meaning.{keys_at_path, table_at}
use Rattle.rh_script_run.specs.Steps.{ListsStand, Named}

-- ---- before the first command

pub given_file : (found : Option (List ℕ)) → IsFile (option_map Bytes found) found
given_file None = refl
given_file (Some bytes) = refl

-- ---- a file that was found

four_read : (a b c d : ℕ) (rest : List ℕ) → list_all is_byte (a ∷ b ∷ c ∷ d ∷ []) ≡ true → bytes_at Short 4 (a ∷ b ∷ c ∷ d ∷ rest) ≡ Ok (a ∷ b ∷ c ∷ d ∷ [], rest)
unfolding bytes_at
four_read a b c d rest bytes =
    let long : nat_le 4 (length (a ∷ b ∷ c ∷ d ∷ rest)) ≡ true = le-leb _ _ (omega arith) in
    rw (long, bytes) refl

-- a snapshot is no key file
not_keys : (bits : ℕ) (cells : List ℕ) → keys_of_file (snap_spelling Second bits cells) ≡ Err NotKeys
unfolding file_keys header_at version_at
not_keys bits cells =
    ap (λ four. source.keys_alone (((four >>= named) >>= after_version) >>= after_header)) (four_read 82 72 83 50 _ refl)

found_keys : (file : Option File) (found : Option (List ℕ)) → IsFile file found → keys_found found ≡ keys_at_path file
found_keys None found is = ap keys_found is
found_keys (Some (Bytes bytes)) found is = ap keys_found is
found_keys (Some (Sealed table)) found is = ap keys_found is.3 ∙ ap keys_or_cause (not_keys table.bits is.0)

found_table : (file : Option File) (found : Option (List ℕ)) → IsFile file found → table_found found ≡ table_at file
found_table None found is = ap table_found is
found_table (Some (Bytes bytes)) found is = ap table_found is
found_table (Some (Sealed table)) found is =
    let same = layout_keys is.0 table.bits table.keys is.1 in
    let free : finset.len (keys_of is.0) < 2 ^ table.bits = subst (λ (S : Keys). finset.len S < 2 ^ table.bits) same is.2 in
    let file = second_file table.bits is.0 (layout_own is.0 table.bits table.keys is.1) free in
    ap table_found is.3 ∙ ap table_or_cause (file_given Second (snap_spelling Second table.bits is.0) table.bits is.0 file)
    ∙ (λ i. Ok (record { bits = table.bits; keys = sym same i }))

-- ---- files that are known

pub known_files : (files : FileMap) (now : Option Files) → HasFiles files now → (known : Files) × (now ≡ Some known)
known_files files None has = absurd has
known_files files (Some now) has = (now, refl)

module _ (files : FileMap) (before : Option Files) (now : Files) (known : before ≡ Some now) (has : HasFiles files before) (path : List ℕ) where
  its_file : IsFile (files path) (now path)
  its_file = (subst (HasFiles files) known has) path

  pub same_keys : keys_found (now path) ≡ keys_at_path (files path)
  same_keys = found_keys (files path) (now path) its_file

  pub same_table : table_found (now path) ≡ table_at (files path)
  same_table = found_table (files path) (now path) its_file

-- ---- a snapshot that was put

one_file : (b : Bool) (file other : Option File) (found there : Option (List ℕ)) → IsFile file found → IsFile other there → IsFile (cond b file other) (cond b found there)
one_file true file other found there is same = is
one_file false file other found there is same = same

put_files : (files : FileMap) (now : Files) (path bytes : List ℕ) (table : Held) → IsSnapshotOf table bytes → HasFiles files (Some now) → HasFiles (with_snapshot files path table) (Some (with_file now path bytes))
put_files files now path bytes table is has other =
    one_file (bytes_eq path other) (Some (Sealed table)) (files other) (Some bytes) (now other) (is.0, is.1, is.2, ap (λ (b : List ℕ). Some b) is.3) (has other)

-- ---- a path in doubt

-- ---- lists at other paths

elsewhere : (path other : List ℕ) → bytes_eq other path ≡ false → bytes_eq path other ≡ false
elsewhere path other away =
    false_from_ne_true (bytes_eq path other) (λ is.
    true≢false (sym ((bytes_eq-Decides other path).1 (sym ((bytes_eq-Decides path other).0 is))) ∙ away))

module _ (now : Files) (path bytes : List ℕ) where
  still_stands : (list : KeyList) (source : Source) (keys : List ℕ) → list.source ≡ source → is_given path (path_of source) ≡ false → Stands (Some now) list keys → Stands (Some (with_file now path bytes)) list keys
  unfolding is_given
  still_stands list (Path p) keys at apart stands =
      let away = elsewhere path p.now (or_parts (bytes_eq p.now path) false apart).0 in
      let same : with_file now path bytes p.now ≡ now p.now = ap (λ b. cond b (Some bytes) (now p.now)) away in
      (ap keys_found (ap (bytes_in (with_file now path bytes)) at ∙ same ∙ sym (ap (bytes_in now) at)) ∙ stands.0, stands.1)
  still_stands list (Memory held) keys at apart stands =
      (ap keys_found (ap (bytes_in (with_file now path bytes)) at ∙ sym (ap (bytes_in now) at)) ∙ stands.0, stands.1)

  stand_apart : (lists : List KeyList) (named : Named) → is_given path (paths_of lists) ≡ false → ListsStand (Some now) lists named → ListsStand (Some (with_file now path bytes)) lists named
  unfolding is_given
  stand_apart [] [] apart stand = stand
  stand_apart [] (n ∷ named) apart stand = absurd stand
  stand_apart (l ∷ lists) [] apart stand = absurd stand
  stand_apart (l ∷ lists) (n ∷ named) apart stand =
      let both = or_parts _ _ (sym (list_any-append (λ other. bytes_eq other path) (path_of l.source) (paths_of lists)) ∙ apart) in
      (still_stands l l.source n.1 refl both.0 stand.0, stand_apart lists named both.1 stand.1)

-- ---- a snapshot put on a shelf whose files are known

module _ (files : FileMap) (before after : Option Files) (path bytes : List ℕ) (table : Held) (is : IsSnapshotOf table bytes) (has : HasFiles files before) (put : Puts before after path bytes) where
  abbrev known : (now : Files) × (before ≡ Some now)
  known = known_files files before has

  put_there : after ≡ Some (with_file known.0 path bytes)
  put_there = put ∙ ap (option_map (λ (files : Files). with_file files path bytes)) known.1

  pub now_has : HasFiles (with_snapshot files path table) after
  now_has = subst (HasFiles (with_snapshot files path table)) (sym put_there) (put_files files known.0 path bytes table is (subst (HasFiles files) known.1 has))

  pub now_stand : (lists : List KeyList) (named : Named) → is_given path (paths_of lists) ≡ false → ListsStand before lists named → ListsStand after lists named
  now_stand lists named apart stand =
      subst (λ now. ListsStand now lists named) (sym put_there) (stand_apart known.0 path bytes lists named apart (subst (λ now. ListsStand now lists named) known.1 stand))
