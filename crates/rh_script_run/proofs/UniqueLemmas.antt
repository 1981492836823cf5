-- Some accounts have one text, and the files of a script's world one map of bytes.
use Rattle.std.proofs.Common.{◌≡◌, ◌∙◌, ap, sym, ℕ, ◌<◌, ◌^◌, List, [], ◌∷◌, ◌++◌, Option, Some, None}
use Rattle.std.specs.FinSet as set
use Rattle.rh_layout.specs.Layout.{Keys, Layout}
use Rattle.rh_layout.proofs.CountLemmas.{free_from_len}
use Rattle.rh_layout.proofs.OneLayout.{one_layout_of}
use Rattle.rh_dump.specs.Dump.{dump_text}
use Rattle.rh_snapshot.specs.declared.version.Version.TheVariants.{Second}
use Rattle.rh_snapshot.specs.Snapshot.{snap_spelling}
use Rattle.rh_shelf.specs.Shelf.{Files}
use Rattle.rh_report.specs.Account.{Account, Says}
use Rattle.rh_report.specs.Account as accounts
use Rattle.rh_script_run.specs.Ends.{SaysAll}
use Rattle.rh_script_run.specs.Files.{Bytes, File, FileMap, HasFiles, IsFile, Sealed}

one_cells : (xs ys : List ℕ) (b : ℕ) (S : Keys) → Layout xs b S → Layout ys b S → set.len S < 2 ^ b → xs ≡ ys
one_cells xs ys b S p q less = one_layout_of xs ys b S p q (free_from_len xs b S p less)

one_text : (account : Account) (text text' : List ℕ) → Says account text → Says account text' → text ≡ text'
one_text (accounts.Used name count) text text' p q = p ∙ sym q
one_text (accounts.Added name read added held bits) text text' p q = p ∙ sym q
one_text (accounts.Dropped name read removed held bits) text text' p q = p ∙ sym q
one_text (accounts.Asked name answers) text text' p q = p ∙ sym q
one_text (accounts.Kept name read found held bits) text text' p q = p ∙ sym q
one_text (accounts.Flipped name read removed added held bits) text text' p q = p ∙ sym q
one_text (accounts.Saved name count) text text' p q = p ∙ sym q
one_text accounts.Cleared text text' p q = p ∙ sym q
one_text (accounts.Dumped keys bits) text text' p q =
    p.3 ∙ ap (dump_text bits) (one_cells p.0 q.0 bits keys p.1 q.1 p.2) ∙ sym q.3
one_text (accounts.Sealed path held bits) text text' p q = p ∙ sym q
one_text (accounts.Restored path held bits) text text' p q = p ∙ sym q

pub one_text_of_all : (said : List Account) (text text' : List ℕ) → SaysAll said text → SaysAll said text' → text ≡ text'
one_text_of_all [] text text' p q = p ∙ sym q
one_text_of_all (account ∷ said) text text' p q =
    let first = one_text account p.0 q.0 p.2 q.2 in
    let rest = one_text_of_all said p.1 q.1 p.3 q.3 in
    p.4 ∙ (λ i. first i ++ rest i) ∙ sym q.4

pub one_found : (file : Option File) (found found' : Option (List ℕ)) → IsFile file found → IsFile file found' → found ≡ found'
one_found None found found' p q = p ∙ sym q
one_found (Some (Bytes bytes)) found found' p q = p ∙ sym q
one_found (Some (Sealed table)) found found' p q =
    p.3 ∙ ap (λ (cells : List ℕ). Some (snap_spelling Second table.bits cells)) (one_cells p.0 q.0 table.bits table.keys p.1 q.1 p.2) ∙ sym q.3

pub same_files : (files : FileMap) (now now' : Option Files) → HasFiles files now → HasFiles files now' → now ≡ now'
same_files files None now' has has' = absurd has
same_files files (Some now) None has has' = absurd has'
same_files files (Some now) (Some now') has has' =
    λ i. Some (λ path. one_found (files path) (now path) (now' path) (has path) (has' path) i)
