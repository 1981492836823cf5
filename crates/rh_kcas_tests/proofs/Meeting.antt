-- What a worker that met a descriptor knows of it, it knows when it has noted more.
use Rattle.std.proofs.Common.{ℕ}
use Rattle.rh_world.specs.Facts.Fact.{size_is}
use Rattle.rh_words.specs.declared.reference.Ref.{Ref as Reference}
use Rattle.rh_words.specs.declared.shape.Shape.{Shape}
use Rattle.rh_words.specs.View.{View}
use Rattle.rh_words.specs.Words.{ref_of}
use Rattle.rh_carrier.specs.Own.{IsClear}
use Rattle.rh_helping.proofs.Growing.{seen_sub}
use Rattle.rh_swaps.specs.Swaps.{HasNoted}
use Rattle.rh_rdcss.specs.Placing.{HasEntry}

pub entry_on : (z : Shape) (v next : View) (d : Reference) (e : ℕ) → HasNoted v next → IsClear next → HasEntry z v d e → HasEntry z next d e
entry_on z v next d e n clear h = record {
  may = record {
    desc = h.desc;
    seen = seen_sub v.side.facts next.side.facts n.facts (ref_of d) h.seen;
    settled = clear.owes.settled;
  };
  work = record { size = h.work.size; known = n.facts (size_is (ref_of d) h.work.size) h.work.known; within = h.work.within };
}
