-- How the keys of a new player are dealt, and its workers made.
use Rattle.std.specs.Prelude.{◌≡◌, ℕ, ◌<◌, ◌⊎◌, false, List, length, slice_index_or, All, Vec}
use Rattle.std.specs.Global.{Global}
use Rattle.rh_ledger.specs.declared.tally.Kind.{Kind}
use Rattle.rh_words.specs.declared.shape.Shape.{Shape}
use Rattle.rh_turns.specs.declared.hand.Hand.{Hand}
use Rattle.rh_turns.specs.declared.hand.Share.{Share}
use Rattle.rh_turns.specs.declared.hand.Share.TheVariants.{Claims}
use Rattle.rh_turns.specs.Hands.{IsNew, share_keys}
use Rattle.rh_turns.specs.Game.{ArePieces}

-- each piece is what its share says of the keys
pub record AreDealt (keys : List ℕ) (shares : List Share) (pieces : List (Vec ℕ Global)) : Type 0 where
  pub size : length shares ≡ length pieces
  pub each : (v : ℕ) (share : Share) (piece : Vec ℕ Global) → v < length pieces → share_keys keys (slice_index_or shares v share) ≡ (slice_index_or pieces v piece).items

abbrev pub ClaimsAll : Share → Type 0
ClaimsAll s = s ≡ Claims 0 false

-- The shares are pieces of a list of this length; or all will claim its positions.
abbrev pub AreShares : Shape → List Share → (count : ℕ) → Type 0
AreShares z shares count = ArePieces 0 shares count ⊎ ((z.keys ≡ count) × All ClaimsAll shares)

abbrev pub AreNew : Kind → Shape → (words : List ℕ) → List Hand → Type 0
AreNew kind z words hands = (v : ℕ) (other : Hand) → v < length hands → IsNew kind z words v (slice_index_or hands v other)
