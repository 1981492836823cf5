-- A file more in a map of files.
use Rattle.std.proofs.Common.{◌≡◌, ◌∙◌, ap, ℕ, Bool, true, false, cond, List, Option, Some, String, string_bytes, string_cmp, Vec, refl}
use Rattle.std.specs.Prelude.{option_map, Result, Ok, Err, OnErr}
use Rattle.std.specs.Global.{Global}
use Rattle.std.specs.Str.{bytes_eq}
use Rattle.std.specs.BTreeMap.{BTreeMap, get_by_text, Updates}
use Rattle.std.proofs.lemmas.Map.Text.{btree_map_updates_text}
use Rattle.rh_shelf.specs.Shelf.{Files, InDoubt, with_file}

abbrev files_in : BTreeMap (String Global) (Vec ℕ Global) → Files
files_in m path = option_map (λ bytes. bytes.items) (get_by_text m path)

items_of_either : (b : Bool) (x y : Option (Vec ℕ Global)) → option_map (λ v. v.items) (cond b x y) ≡ cond b (option_map (λ v. v.items) x) (option_map (λ v. v.items) y)
items_of_either true x y = refl
items_of_either false x y = refl

pub put_file : (m n : BTreeMap (String Global) (Vec ℕ Global)) (key : String Global) (value : Vec ℕ Global) (path bytes : List ℕ) → string_bytes key ≡ path → value.items ≡ bytes → Updates string_cmp m n key (Some value)
    → files_in n ≡ with_file (files_in m) path bytes
put_file m n key value path bytes is has updates = λ i other.
    (ap (option_map (λ v. v.items)) (btree_map_updates_text (string_bytes key) m n (Some value) updates other)
    ∙ items_of_either (bytes_eq (string_bytes key) other) (Some value) (get_by_text m other)
    ∙ (λ j. with_file (files_in m) (is j) (has j) other)) i

-- where the files are as they were, no path is in doubt
pub none_in_doubt : {X E : Type 0} (r : Result X E) (old new : Files) (path : List ℕ) → OnErr r (new ≡ old) → OnErr r (InDoubt (Some old) (Some new) path)
none_in_doubt (Ok x) old new path same = tt
none_in_doubt (Err e) old new path same = (new, refl, λ other apart. ap (λ files. files other) same)
