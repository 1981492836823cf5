-- What each command of a script has to report, and the texts that say it.
use Rattle.std.specs.Prelude.{◌≡◌, ℕ, ◌<◌, ◌^◌, Bool, List, [], ◌∷◌, codes}
use Rattle.std.specs.FinSet as set
use Rattle.rh_layout.specs.Layout.{Keys, Layout}
use Rattle.rh_dump.specs.Dump.{dump_text}
use Rattle.rh_report.specs.declared.lines.Account as lines
use Rattle.rh_report.specs.declared.lines.Account.TheVariants as told
use Rattle.rh_report.specs.declared.lines.Change.{Change}
use Rattle.rh_report.specs.declared.lines.Change.TheVariants as changes
use Rattle.rh_report.specs.declared.lines.Table.{Table}
use Rattle.rh_report.specs.Texts.{asked_text, line_text, table_numbers}

-- `read` is the length of the list, `held` and `bits` are those of the table after the command
pub data Account : Type 0 where
  Used : (name : List ℕ) (count : ℕ) → Account
  Added : (name : List ℕ) (read added held bits : ℕ) → Account
  Dropped : (name : List ℕ) (read removed held bits : ℕ) → Account
  Asked : (name : List ℕ) (answers : List Bool) → Account
  Kept : (name : List ℕ) (read found held bits : ℕ) → Account
  Flipped : (name : List ℕ) (read removed added held bits : ℕ) → Account
  Saved : (name : List ℕ) (count : ℕ) → Account
  Cleared : Account
  Dumped : (keys : Keys) (bits : ℕ) → Account
  Sealed : (path : List ℕ) (held bits : ℕ) → Account
  Restored : (path : List ℕ) (held bits : ℕ) → Account

-- what the code's accounts of one line stand for
abbrev pub change_as : (name : List ℕ) (read : ℕ) → Change → Table → Account
change_as name read (changes.Added added) table = Added name read added table.held table.bits
change_as name read (changes.Dropped removed) table = Dropped name read removed table.held table.bits
change_as name read (changes.Kept found) table = Kept name read found table.held table.bits
change_as name read (changes.Flipped removed added) table = Flipped name read removed added table.held table.bits

abbrev pub account_as : lines.Account → Account
account_as (told.Used name count) = Used name.now count
account_as (told.Saved name count) = Saved name.now count
account_as (told.Changed name read change table) = change_as name.now read change table
account_as told.Cleared = Cleared
account_as (told.Sealed path table) = Sealed path.now table.held table.bits
account_as (told.Restored path table) = Restored path.now table.held table.bits

-- The text says this. Of a table it is the dump of cells that are a layout of its keys with a free cell, of which there
-- is one.
abbrev pub Says : Account → List ℕ → Type 0
Says (Used name count) text = text ≡ line_text (codes "use ") name ((codes " ", count) ∷ [])
Says (Added name read added held bits) text = text ≡ line_text (codes "add ") name ((codes " read ", read) ∷ (codes " added ", added) ∷ table_numbers held bits)
Says (Dropped name read removed held bits) text = text ≡ line_text (codes "drop ") name ((codes " read ", read) ∷ (codes " removed ", removed) ∷ table_numbers held bits)
Says (Asked name answers) text = text ≡ asked_text name answers
Says (Kept name read found held bits) text = text ≡ line_text (codes "keep ") name ((codes " read ", read) ∷ (codes " found ", found) ∷ table_numbers held bits)
Says (Flipped name read removed added held bits) text =
    text ≡ line_text (codes "flip ") name ((codes " read ", read) ∷ (codes " removed ", removed) ∷ (codes " added ", added) ∷ table_numbers held bits)
Says (Saved name count) text = text ≡ line_text (codes "save ") name ((codes " ", count) ∷ [])
Says Cleared text = text ≡ line_text (codes "clear") [] []
Says (Dumped keys bits) text = (cells : List ℕ) × Layout cells bits keys × (set.len keys < 2 ^ bits) × (text ≡ dump_text bits cells)
Says (Sealed path held bits) text = text ≡ line_text (codes "snapshot ") path (table_numbers held bits)
Says (Restored path held bits) text = text ≡ line_text (codes "restore ") path (table_numbers held bits)
