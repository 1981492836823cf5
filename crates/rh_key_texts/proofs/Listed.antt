-- Files that are listed one after the other.
use Rattle.std.proofs.Common.{◌≡◌, ◌≢◌, ℕ, ◌+◌, ◌<◌, List, [], ◌∷◌, ◌++◌, length, take, get_or, map, option_map, slice_get, Option, Some, Err, Ok, refl, sym, ap, subst, ◌∙◌, append-nil}
use Rattle.std.proofs.lemmas.List.{take_more}
use Rattle.std.proofs.lemmas.Option.{get_or_from_slice_get, slice_get-map, slice_get_read, slice_get_within}
use Rattle.std.specs.List.{flat_map}
use Rattle.std.specs.Io.KnownBytes.{Appends}
use Rattle.std.proofs.KnownBytes.{Appends-trans}
use Rattle.std.proofs.lemmas.Grind.{flat_map-append}
use Rattle.rh_shelf.specs.Shelf.{Files, Finds}
use Rattle.rh_numbers.specs.Writing.{text_of}
use Rattle.rh_key_files.specs.Reading.{BeginsWithLongHeader}
use Rattle.rh_key_files.specs.declared.fault.KeyFault.{KeyFault}
use Rattle.rh_key_files.specs.declared.fault.KeyFault.TheVariants as key_faults
use Rattle.rh_snapshot.specs.Reading.{BeginsWithSnapHeader}
use Rattle.rh_snapshot.specs.declared.fault.SnapFault.{SnapFault}
use Rattle.rh_snapshot.specs.declared.fault.SnapFault.TheVariants as snap_faults
use Rattle.rh_key_texts.specs.declared.files.FileFault.TheVariants.{Keys, Snap}
use Rattle.rh_key_texts.specs.declared.files.Form.{Form}
use Rattle.rh_key_texts.specs.declared.files.Form.TheVariants as forms
use Rattle.rh_key_texts.specs.declared.listing.ListFault.{ListFault}
use Rattle.rh_key_texts.specs.declared.listing.ListFault.TheVariants as list
use Rattle.rh_key_texts.specs.declared.snapshot.HeldFault.{HeldFault}
use Rattle.rh_key_texts.specs.declared.snapshot.HeldFault.TheVariants as held
use Rattle.rh_key_texts.specs.Files.{BeginsIfMemory, Has, HaveEach, ListsEach, ListsFile, of_held, of_list}
use Rattle.rh_key_texts.specs.List.{Lists, ListsHeld}

keys_begin : (bytes : Option (List ℕ)) (fault : KeyFault) → (fault ≡ key_faults.Memory → BeginsWithLongHeader bytes) → BeginsIfMemory (Keys fault) bytes
keys_begin bytes key_faults.Memory begins = begins refl
keys_begin bytes fault begins = tt

snap_begins : (bytes : Option (List ℕ)) (fault : SnapFault) → (fault ≡ snap_faults.Memory → BeginsWithSnapHeader bytes) → BeginsIfMemory (Snap fault) bytes
snap_begins bytes snap_faults.Memory begins = begins refl
snap_begins bytes fault begins = tt

-- what the listing of the bytes says is so of the file
pub keys_stop : (files : Option Files) (path : List ℕ) (form : Form) (bytes left old new : Option (List ℕ)) (fault : ListFault) → form ≡ forms.Keys → Finds files path bytes → (fault ≢ list.Write → new ≡ old) → (fault ≡ list.Keys key_faults.Memory → BeginsWithLongHeader bytes)
    → Lists {X = Unit {0}} bytes left old new (Err fault) → ListsFile {X = Unit {0}} files path form old new (Err (of_list fault))
keys_stop files path form bytes left old new (list.Keys fault) is finds same begins told = (same (λ write. absurd cc), is, bytes, finds, told, keys_begin bytes fault (λ memory. begins (ap list.Keys memory)))
keys_stop files path form bytes left old new list.Write is finds same begins told = rw is (told.0, (bytes, left, finds, told.1), told.2)

pub held_stops : (files : Option Files) (path : List ℕ) (form : Form) (bytes left old new : Option (List ℕ)) (fault : HeldFault) → form ≡ forms.Snapshot → Finds files path bytes → (fault ≢ held.Write → new ≡ old) → (fault ≡ held.Snap snap_faults.Memory → BeginsWithSnapHeader bytes)
    → ListsHeld {X = Unit {0}} bytes left old new (Err fault) → ListsFile {X = Unit {0}} files path form old new (Err (of_held fault))
held_stops files path form bytes left old new (held.Snap fault) is finds same begins told = (same (λ write. absurd cc), is, bytes, finds, told, snap_begins bytes fault (λ memory. begins (ap held.Snap memory)))
held_stops files path form bytes left old new held.Write is finds same begins told = rw is (_, (bytes, left, finds, (told.0, told.1, refl)), told.2)

pub keys_end : (files : Option Files) (path : List ℕ) (form : Form) (bytes left old new : Option (List ℕ)) → form ≡ forms.Keys → Finds files path bytes
    → Lists {X = Unit {0}} bytes left old new (Ok tt) → ListsFile {X = Unit {0}} files path form old new (Ok tt)
keys_end files path form bytes left old new is finds told = rw is (told.0, (bytes, left, finds, told.1), told.2)

pub held_ends : (files : Option Files) (path : List ℕ) (form : Form) (bytes left old new : Option (List ℕ)) → form ≡ forms.Snapshot → Finds files path bytes
    → ListsHeld {X = Unit {0}} bytes left old new (Ok tt) → ListsFile {X = Unit {0}} files path form old new (Ok tt)
held_ends files path form bytes left old new is finds told = rw is (_, (bytes, left, finds, (told.0, told.1, refl)), told.2)

has_one_more : (files : Option Files) (form : Form) (paths : List (List ℕ)) (lists : List (List ℕ)) (path ks : List ℕ) → HaveEach files form paths lists → Has files form path ks
    → HaveEach files form (paths ++ (path ∷ [])) (lists ++ (ks ∷ []))
has_one_more files form [] [] path ks each has = (has, tt)
has_one_more files form (p ∷ ps) (l ∷ ls) path ks each has = (each.0, has_one_more files form ps ls path ks each.1 has)
has_one_more files form [] (l ∷ ls) path ks each has = absurd each
has_one_more files form (p ∷ ps) [] path ks each has = absurd each

-- one more file was listed after those
pub lists_one_more : (files : Option Files) (form : Form) (paths : List (List ℕ)) (path : List ℕ) (old mid new : Option (List ℕ)) → ListsEach files form paths old mid
    → ListsFile {X = Unit {0}} files path form mid new (Ok tt) → ListsEach files form (paths ++ (path ∷ [])) old new
lists_one_more files form paths path old mid new each one =
    let whole : flat_map text_of (each.0 ++ (one.0 ∷ [])) ≡ flat_map text_of each.0 ++ text_of one.0 =
    flat_map-append text_of each.0 (one.0 ∷ []) ∙ ap (λ l. flat_map text_of each.0 ++ l) (append-nil (text_of one.0)) in (
      each.0 ++ (one.0 ∷ []),
      has_one_more files form paths each.0 path one.0 each.1 one.1,
      subst (Appends old new) (sym whole) (Appends-trans old mid new _ _ each.2 one.2),
    )

-- what stands at a place, and what stands up to there
pub text_at : {X : Type 0} (f : X → List ℕ) (xs : List X) (i : ℕ) (x : X) → i < length xs → x ≡ get_or xs i x → slice_get (map f xs) i ≡ Some (f x)
text_at f xs i x inside is = slice_get-map f xs i ∙ ap (option_map f) (slice_get_read xs (length xs) i x refl inside is)

pub up_to : (paths : List (List ℕ)) (i : ℕ) (path : List ℕ) → slice_get paths i ≡ Some path → take (i + 1) paths ≡ take i paths ++ (path ∷ [])
up_to paths i path at =
    take_more paths i path (slice_get_within paths i path at) ∙ ap (λ p. take i paths ++ (p ∷ [])) (get_or_from_slice_get paths i path path at)
