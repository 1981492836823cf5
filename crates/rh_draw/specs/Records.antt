-- Which steps are drawn.
use Rattle.std.specs.Prelude.{ℕ, ◌-◌, Bool, false, nat_le, nat_lt, if◌then◌else◌, List, sum_by}
use Rattle.rh_draw.specs.declared.records.Record.{Record}
use Rattle.rh_draw.specs.declared.records.Record.TheVariants.{Step, Round}
use Rattle.rh_draw.specs.declared.records.Window.{Window}

abbrev pub is_drawn : Window → (number : ℕ) → Bool
is_drawn window number = if nat_le window.from number then nat_lt (number - window.from) window.steps else false

-- whether the moment before a step is one before a step of the window or after one
abbrev pub is_before : Window → (next : ℕ) → Bool
is_before window next = if nat_le window.from next then nat_le (next - window.from) window.steps else false

abbrev pub record_count : (from : ℕ) → Record → ℕ
record_count from (Step step) = if nat_le from step.number then 1 else 0
record_count from (Round next) = 0

-- how many steps there are from a number on
abbrev pub count_from : (from : ℕ) → List Record → ℕ
count_from from records = sum_by (record_count from) records
