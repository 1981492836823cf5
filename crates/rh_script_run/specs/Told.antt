-- What the code's reports stand for.
use Rattle.std.specs.Prelude.{ℕ, List}
use Rattle.std.specs.FinSet as set
use Rattle.rh_edit.specs.Held.{Held}
use Rattle.rh_report.specs.declared.lines.Table.{Table}
use Rattle.rh_report.specs.Account.{Account, Asked, Dumped, account_as, change_as}
use Rattle.rh_operations.specs.Actions.{Telling, Changed}
use Rattle.rh_operations.specs.Actions as telling
use Rattle.rh_script_run.specs.declared.told.Told.{Told}
use Rattle.rh_script_run.specs.declared.told.Told.TheVariants.{Line, Answers, Dump}

abbrev pub report_table : Held → Table
report_table table = record { held = set.len table.keys; bits = table.bits }

-- that of an action on a list of this name and length, which left this table
abbrev pub account_of : (name : List ℕ) (read : ℕ) → Held → Telling → Account
account_of name read table (Changed change) = change_as name read change (report_table table)
account_of name read table (telling.Asked answers) = Asked name answers

-- the account of a command that left this set
abbrev pub told_as : Held → Told → Account
told_as set (Line account) = account_as account
told_as set (Answers name answers) = Asked name.now answers.items
told_as set Dump = Dumped set.keys set.bits
