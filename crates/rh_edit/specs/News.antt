-- The new values of a segment.
use Rattle.std.specs.Prelude.{ℕ, ◌-◌, List, length, take, insert, remove}

-- the segment with the value at offset i, and what stood from there up to the last one moved on by one
-- inserted_at 10 [2, 18, 0] 1 = [2, 10, 18]
abbrev pub inserted_at : (value : ℕ) (seen : List ℕ) (i : ℕ) → List ℕ
inserted_at value seen i = insert (take (length seen - 1) seen) i value

-- the segment without what stands at offset i: what stands after it, up to before the last offset, has moved back by one, and
-- the offset before the last is empty
-- shifted_back [2, 10, 18, 0] 1 = [2, 18, 0, 0]
abbrev pub shifted_back : (seen : List ℕ) (i : ℕ) → List ℕ
shifted_back seen i = insert (remove seen i) (length seen - 2) 0
