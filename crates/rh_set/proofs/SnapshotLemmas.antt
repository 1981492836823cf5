-- The snapshot of a table is one of its set.
use Rattle.std.proofs.Common.{◌≡◌, ℕ, ◌^◌, ◌<◌, ◌++◌, List, [], sym, ◌∙◌, ap, subst}
use Rattle.std.specs.FinSet as set
use Rattle.rh_layout.specs.Layout.{Keys, Layout}
use Rattle.rh_layout.proofs.LayoutLemmas.{layout_keys, layout_own}
use Rattle.rh_edit.specs.Held.{Held}
use Rattle.rh_snapshot.specs.declared.version.Version.TheVariants.{Second}
use Rattle.rh_snapshot.specs.Snapshot.{SnapshotFile, snap_spelling}
use Rattle.rh_set.specs.Snapshot.{IsSnapshotOf}
use Rattle.rh_snapshot.proofs.Grammar.{second_file}

-- what was written into an empty vector
pub is_snapshot : (held : Held) (bits : ℕ) (cells old new : List ℕ) → bits ≡ held.bits → Layout cells held.bits held.keys → set.len held.keys < 2 ^ held.bits
    → old ≡ [] → new ≡ old ++ snap_spelling Second bits cells → IsSnapshotOf Second new held
is_snapshot held bits cells old new size layout free none written =
    let keys = layout_keys cells held.bits held.keys layout in
    let spelled : new ≡ snap_spelling Second held.bits cells = written ∙ ap (λ (l : List ℕ). l ++ snap_spelling Second bits cells) none ∙ ap (λ (b : ℕ). snap_spelling Second b cells) size in
    let file = second_file held.bits cells (layout_own cells held.bits held.keys layout) (subst (λ (S : Keys). set.len S < 2 ^ held.bits) keys free) in
    record { numbers = cells; file = subst (λ (l : List ℕ). SnapshotFile Second l held.bits cells) (sym spelled) file; keys = keys }
