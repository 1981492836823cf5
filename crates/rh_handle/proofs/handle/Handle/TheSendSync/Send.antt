-- A handle may go to another thread: what it owns says the same to every one.
use mir.Raw.{raw}
use base.Shift.{Keyless}
use denote.Memory.{lone}
use denote.RawPtr.{Ptr}
use denote.Struct.Struct.{exits_of}
use denote.Struct.Owning.{shape, fields, to}
use denote.Param.Send.{IsSend, AllSend, owning_send, struct_send, sendable}
use Rattle.std.specs.Prelude.{Option, Some, None}
use Rattle.std_alloc.proofs.SendSync.{quiet, lies}
use Rattle.std.proofs.Crossing as heap
use Rattle.rh_set.specs.contracts.set.Set as Set
use Rattle.rh_set.proofs.set.Set.TheSendSync.{the_send as set_send}
use Rattle.rh_handle.specs.Holding.{holds}
use Rattle.rh_handle.specs.contracts.handle.Handle.{the_row, the_type}

holds_keyless : (p : Ptr) (x : Option Set.the_row.Denot) → Keyless (holds p x)
holds_keyless p None = tt
holds_keyless p (Some s) = λ alloc. (lies Set.the_row set_send p s, heap.frees.frees alloc (raw (lone Set.the_row.mir)) p)

pub send : IsSend the_row
send =
    let all : AllSend (fields the_type) = (search sendable, tt) in
    owning_send the_type all (λ d. holds_keyless d.at d.held)
    (λ k. quiet (to the_type) (exits_of k (fields the_type)) ((struct_send (shape the_type) all).leaving k))
