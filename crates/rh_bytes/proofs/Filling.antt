-- A buffer of which a part was filled from a place on.
use Rattle.std.proofs.Common.{◌≡◌, ◌∙◌, ap, sym, ℕ, ◌+◌, ◌≤◌, List, ◌++◌, length, take, length-take-le}
use Rattle.std.proofs.Math.Seq.{take-append-add}
use borrow.Rule.Slice.PartMut.{put_mid, post_of}
use lib.Seq.{take-append-le}

-- What was at the front before, and then what was filled in.
pub filled_more : (a k n : ℕ) (xs ys : List ℕ) → a ≤ length xs → n ≤ length ys → take a xs ++ take n ys ≡ take (a + n) (put_mid a k xs ys)
filled_more a k n xs ys within fits =
    let after = post_of a k xs in
    ap (λ l. take a xs ++ l) (sym (take-append-le n ys after fits))
    ∙ sym (take-append-add (take a xs) (ys ++ after) n)
    ∙ ap (λ m. take (m + n) (put_mid a k xs ys)) (length-take-le a xs within)
