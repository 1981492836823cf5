-- The shelf of whose files it is told how much was read.
use Rattle.rh_set_program.specs.declared.followed.FollowedShelf.{FollowedShelf}

abbrev pub followed : {S R E : Type 0} → FollowedShelf S R E → S
followed s = s.shelf
