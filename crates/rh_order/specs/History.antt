-- The acts of a world, and what is kept of its workers, as acts on what cells hold. A plain word stands for what its cell
-- holds; here only the latter is spoken of.
use Rattle.std.specs.Prelude.{ℕ, ◌/◌, ◌^◌, ◌==◌, ◌&&◌, Option, Some, None, Bool, false, not, nat_lt, List, map, filter, reverse}
use Rattle.std.specs.List.{range_with_len}
use Rattle.rh_tagword.specs.declared.limits.TheConstants.{TAG_BITS}
use Rattle.rh_world.specs.World.{Ref, World}
use Rattle.rh_world.specs.Acts.{cells_after, is_success}
use Rattle.rh_layout.specs.declared.entry.Entry.{Entry}
use Rattle.rh_words.specs.declared.shape.Shape.{Shape}
use Rattle.rh_words.specs.Parts.{cell_count}
use Rattle.rh_words.specs.View.{OwnDesc, View, own_ref}
use Rattle.rh_rule.specs.Rest.{is_noted_success}
use Rattle.rh_acts.specs.Act.{Act, entry}
use Rattle.rh_acts.specs.Done.{Kept, kept}
use Rattle.rh_acts.specs.Workers.{Made}

-- what a cell with this plain word holds
abbrev pub value_of : (word : ℕ) → ℕ
value_of word = word / 2 ^ TAG_BITS

-- the act of a descriptor with these entries
abbrev pub act_of : List Entry → Act
act_of entries = map (λ e. entry e.cell (value_of e.old) (value_of e.new)) entries

-- ---- of a world

abbrev pub entry_in : World → Ref → (e : ℕ) → Entry
entry_in w d e = entry (w.target d e) (value_of (w.old d e)) (value_of (w.new d e))

-- the act of a descriptor of the world
abbrev pub world_act : World → Ref → Act
world_act w d = map (entry_in w d) (range_with_len 0 (w.size d))

abbrev pub made_by : World → Ref → Made
made_by w d = record { worker = d.worker; act = world_act w d }

-- the first n acts, each with its worker, and all of them
abbrev pub history_up_to : World → (n : ℕ) → List Made
history_up_to w n = map (λ i. made_by w (w.act i)) (range_with_len 0 n)

abbrev pub history : World → List Made
history w = history_up_to w w.act_count

-- what the cells of a table hold that stand for these words
abbrev pub cells_of : Shape → (ℕ → ℕ) → List ℕ
cells_of z words = map (λ c. value_of (words c)) (range_with_len 0 (cell_count z))

abbrev pub opening_cells : World → Shape → List ℕ
opening_cells w z = cells_of z (w.logical 0)

-- what the cells stand for now
abbrev pub logical_cells : World → Shape → List ℕ
logical_cells w z = cells_of z (cells_after w w.act_count)

-- ---- of what is kept of a worker

-- what the cells of the table held that it read
-- (The rule does not say that each read that is kept is of a cell that has a word: others are left out.)
abbrev pub kept_of : Shape → View → List Kept
kept_of z v = map (λ r. kept r.cell (value_of r.word)) (filter (λ r. nat_lt r.cell (cell_count z)) v.side.reads)

abbrev pub is_current : Option ℕ → (number : ℕ) → Bool
is_current None number = false
is_current (Some p) number = p == number

-- its opened descriptor is closed again, and it noted that it succeeded
abbrev pub is_finished : View → OwnDesc → Bool
is_finished v o = not (is_current v.side.current o.number) && is_noted_success v.side.facts (own_ref v o.number)

-- the acts that it has finished, the oldest first
abbrev pub own_acts_of : View → List Act
own_acts_of v = reverse (map (λ o. act_of o.entries) (filter (is_finished v) v.opened))

-- of the descriptors that it opened those that succeeded in the world, as acts, the oldest first
abbrev pub succeeded_acts : World → View → List Act
succeeded_acts w v = reverse (map (λ o. act_of o.entries) (filter (λ o. is_success (w.control (own_ref v o.number))) v.opened))
