use Rattle.std.proofs.Common.{IfSome, ◌≡◌, [], ◌++◌, sym, subst, length, take, length-append, arith, rules, length-take}
use Rattle.std.specs.Io.KnownBytes.{Consumes}
use Rattle.std.proofs.KnownBytes.{Consumes-nil, Consumes-trans}
use Rattle.rh_set_program.specs.declared.script.TheConstants.{MAX_BYTES}
use Rattle.rh_set_program.proofs.Front.{all_taken, most_taken}
use Rattle.rh_set_program.proofs.script.front_of.Goals as goal

pub loop-room-init : goal.loop-room-init
loop-room-init g c =
    let none : c.new-text.result.items ≡ [] = search rules in
    record { read = subst (Consumes _ _) (sym none) (Consumes-nil _); within = rw none (omega arith) }

pub loop-room-preserved : goal.loop-room-preserved
loop-room-preserved g c =
    let longer : c.extend_from_slice.new.self.items ≡ c.loop-room.text.items ++ take c.in-Some.n c.fill.new.buf = search rules in
    let room : length c.fill.new.buf ≡ c.min.result = search rules in
    record {
      read = subst (Consumes _ _) (sym longer) (Consumes-trans _ _ _ _ _ c.loop-room.invariant.read c.in-Some.ensures.bytes);
      within = rw longer (simp (length-append, length-take) (omega (arith, room, c.in-Some.ensures.bound, c.min.ensures, c.len-in-loop-room.ensures, c.loop-room.invariant.within)));
    }

pub loop-room-smaller : goal.loop-room-smaller
loop-room-smaller g c =
    let longer : c.extend_from_slice.new.self.items ≡ c.loop-room.text.items ++ take c.in-Some.n c.fill.new.buf = search rules in
    let room : length c.fill.new.buf ≡ c.min.result = search rules in
    rw longer (simp (length-append, length-take) (omega (arith, room, c.in-Some.ensures.bound, c.min.ensures, c.len.ensures, c.len-in-loop-room.ensures, c.loop-room-test.true, c.if-n-part.false, c.loop-room.invariant.within)))

pub returns-then-n-part-clause-front : goal.returns-then-n-part-clause-front
returns-then-n-part-clause-front g c =
    let longer : c.extend_from_slice.new.self.items ≡ c.loop-room.text.items ++ take c.in-Some.n c.fill.new.buf = search rules in
    let room : length c.fill.new.buf ≡ c.min.result = search rules in
    subst (λ inner. IfSome (g.R.Read.remaining inner) (λ bytes. c.extend_from_slice.new.self.items ≡ take MAX_BYTES bytes)) c.new-reader.ensures.inner
    (all_taken _ _ c.extend_from_slice.new.self.items MAX_BYTES (subst (Consumes _ _) (sym longer) (Consumes-trans _ _ _ _ _ c.loop-room.invariant.read c.in-Some.ensures.bytes))
    (rw longer (simp (length-append, length-take) (omega (arith, room, c.in-Some.ensures.bound, c.min.ensures, c.len-in-loop-room.ensures, c.loop-room.invariant.within))))
    (c.in-Some.ensures.end (search rules)))

pub returns-clause-front : goal.returns-clause-front
returns-clause-front g c =
    subst (λ inner. IfSome (g.R.Read.remaining inner) (λ bytes. c.loop-room.text.items ≡ take MAX_BYTES bytes)) c.new-reader.ensures.inner
    (most_taken _ _ c.loop-room.text.items MAX_BYTES c.loop-room.invariant.read (omega (arith, c.loop-room.invariant.within, c.len.ensures, c.loop-room-test.false)))
