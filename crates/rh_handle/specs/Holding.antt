-- What a handle holds.
use Rattle.std.specs.Prelude.{Option, Some, None}
use Rattle.std.specs.Coded.{Coded, coded_option}
use Rattle.std.specs.FinSet as set
use base.Fml.{Fml, feq, fex}
use denote.RawPtr.{Ptr, null_ptr}
use Rattle.std.specs.Box.Ownership.{box_owns}
use Rattle.std.specs.Global.{Global}
use Rattle.std.specs.contracts.impls.GlobalAllocator.TheImpl.{ghosts}
use Rattle.rh_layout.specs.declared.limits.TheConstants.{MIN_BITS}
use Rattle.rh_edit.specs.Held.{Held, held_code}
use Rattle.rh_set.specs.contracts.set.Set.{the_row}

-- a set in a block of its own, which is one of the C library's, or for none the null pointer
abbrev pub holds : Ptr → Option the_row.Denot → Fml
holds p None = feq Ptr p null_ptr
holds p (Some s) = fex Global (λ alloc. box_owns (ghosts.dealloc_token alloc) the_row p s)

abbrev pub held_coded : Coded (Option Held)
held_coded = coded_option held_code

-- the set that a handle stands for: with none in it, the empty one, in a table of the least size
abbrev pub set_in : Option Held → Held
set_in None = record { bits = MIN_BITS; keys = set.empty }
set_in (Some s) = s
