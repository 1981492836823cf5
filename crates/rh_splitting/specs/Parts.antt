-- A part of a list that is split, and what it was given.
use Rattle.std.specs.Prelude.{◌≡◌, ◌≢◌, ℕ, ◌+◌, List, [], ◌∷◌, ◌++◌, length, take, Option, Some, slice_get}
use Rattle.std.specs.Io.KnownBytes.{Appends}
use Rattle.rh_bytes.specs.Counting.{Rose, failures_of, inner_of}
use Rattle.rh_key_files.specs.KeyFile.{spelled_keys}
use Rattle.rh_bytes.specs.declared.counted.Counted.{Counted}
use Rattle.rh_layout.specs.declared.limits.TheConstants.{MAX_KEYS}
use Rattle.rh_parts.specs.Parts.{in_part}
use Rattle.rh_splitting.specs.declared.part.Part.{Part}

abbrev pub writer_of : {W : Type 0} → Part W → Counted W
writer_of part = part.writer

-- how many keys it was given
abbrev pub part_count : {W : Type 0} → Part W → ℕ
part_count part = part.count

-- how many keys it takes
abbrev pub limit_of : {W : Type 0} → Part W → ℕ
limit_of part = part.limit

-- the part was given no key, and takes as many as a key file may have
abbrev pub IsBegun : {W : Type 0} → Part W → Type 0
IsBegun part = (part_count part ≡ 0) × (limit_of part ≡ MAX_KEYS)

-- The part was given these keys: they were written one after the other, and counted, and no write failed.
pub record Got {W : Type 0} (contents : W → Option (List ℕ)) (old new : Part W) (keys : List ℕ) : Type 0 where
  pub written : Appends (contents (inner_of (writer_of old))) (contents (inner_of (writer_of new))) (spelled_keys keys)
  pub counted : part_count new ≡ part_count old + length keys
  pub fine : failures_of (writer_of new) ≡ failures_of (writer_of old)
  pub same_limit : limit_of new ≡ limit_of old

-- Each part was given its keys of the list, in the order of the list.
-- Of 3 parts and 0, 5, 7 and 2, part 0 is given 0 and 7, part 1 is given 2, and part 2 is given 5.
pub record EachGot {W : Type 0} (contents : W → Option (List ℕ)) (old new : List (Part W)) (keys : List ℕ) : Type 0 where
  pub many : length new ≡ length old
  pub each : (part : ℕ) (before after : Part W) → slice_get old part ≡ Some before → slice_get new part ≡ Some after
      → Got contents before after (in_part (length old) part keys)

-- The part was given these keys; then the write of one more failed, of which no more than a front was written. It was not counted.
pub record GotButOne {W : Type 0} (contents : W → Option (List ℕ)) (old new : Part W) (keys : List ℕ) (key : ℕ) : Type 0 where
  pub bytes : ℕ
  pub written : Appends (contents (inner_of (writer_of old))) (contents (inner_of (writer_of new))) (spelled_keys keys ++ take bytes (spelled_keys (key ∷ [])))
  pub counted : part_count new ≡ part_count old + length keys
  pub failed : Rose (failures_of (writer_of old)) (failures_of (writer_of new))
  pub same_limit : limit_of new ≡ limit_of old

-- Each part was given its keys of the list; then the write of this key failed, which stands in the part of this number.
pub record EachGotButOne {W : Type 0} (contents : W → Option (List ℕ)) (old new : List (Part W)) (keys : List ℕ) (key part : ℕ) : Type 0 where
  pub many : length new ≡ length old
  pub others : (other : ℕ) (before after : Part W) → other ≢ part → slice_get old other ≡ Some before → slice_get new other ≡ Some after
      → Got contents before after (in_part (length old) other keys)
  pub failed : (before : Part W) × (after : Part W) × (slice_get old part ≡ Some before) × (slice_get new part ≡ Some after)
      × GotButOne contents before after (in_part (length old) part keys) key

-- the part of this number has as many keys as it takes
abbrev pub IsFull : {W : Type 0} → List (Part W) → ℕ → Type 0
IsFull {W} parts part = (full : Part W) × (slice_get parts part ≡ Some full) × (part_count full ≡ limit_of full)
