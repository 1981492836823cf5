-- The control of a descriptor that is helped is read again.
use Rattle.std.proofs.Common.{◌≡◌, Option, Some, None, true, inl, inr}
use Rattle.rh_tagword.specs.declared.control.State.{State}
use Rattle.rh_tagword.specs.declared.control.State.TheVariants.{Unused, Undecided, Succeeded, Withdrawn, Failed}
use Rattle.rh_world.specs.World.{Ref}
use Rattle.rh_words.specs.View.{View}
use Rattle.rh_words.specs.Words.{control_of}
use Rattle.rh_carrier.specs.Own.{IsClear}
use Rattle.rh_helping.proofs.Controls.{Saw}
use Rattle.rh_helping.proofs.Owing.{nothing_saw}
use Rattle.rh_helping.proofs.Starting.{own_saw}
use Rattle.rh_swaps.specs.Swaps.{HasNoted}
use Rattle.rh_kcas.specs.Helps.{IsNotedOver, StandsOrIsOver, is_over}

pub clear_saw : (v next : View) (d : Ref) (r : Option State) → Saw v d r next → IsClear v → IsClear next
clear_saw v next d r saw h = record { own = own_saw v next d r None saw h.own; owes = nothing_saw v next d r saw h.owes }

pub stands_saw : (v next : View) (d : Ref) (r : Option State) → Saw v d r next → StandsOrIsOver next d r
stands_saw v next d None saw = saw.said.0
stands_saw v next d (Some k) saw = saw.said.stands

pub notes_saw : (v next : View) (d : Ref) (r : Option State) → Saw v d r next → next.opening ≡ v.opening → HasNoted v next
notes_saw v next d r saw opening = record { worker = saw.keeps.worker; opening = opening; facts = saw.keeps.facts; opened = saw.opened; next_number = saw.keeps.next_number; reads = saw.reads; claims = saw.claims }

-- a state that was read, by which the descriptor is over
pub over_as_read : (v : View) (d : Ref) (r : Option State) → StandsOrIsOver v d r → is_over r ≡ true → IsNotedOver v d
over_as_read v d None h e = inr h
over_as_read v d (Some Unused) h e = absurd h
over_as_read v d (Some Undecided) h e = cc
over_as_read v d (Some Succeeded) h e = inl (control_of Succeeded, h)
over_as_read v d (Some Withdrawn) h e = inl (control_of Withdrawn, h)
over_as_read v d (Some (Failed by)) h e = inl (control_of (Failed by), h)
