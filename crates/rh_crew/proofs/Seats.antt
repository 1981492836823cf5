-- Seats whose workers rest, one by one and joined.
use Rattle.std.proofs.Common.{◌≡◌, List, [], ◌∷◌, ◌++◌, refl, sym, ap, subst, ⊎_elim}
use Rattle.rh_rule.specs.declared.rule.Sitter.{Sitter}
use Rattle.rh_words.specs.View.{View}
use Rattle.rh_rule.specs.Seats.{InView, sitter}
use Rattle.rh_rule.proofs.SeatsKept.{at_append}
use Rattle.rh_shared.specs.declared.seat.Seat.{Seat}
use Rattle.rh_shared.specs.declared.table.Table.{Table}
use Rattle.rh_shared.specs.Seats.{trace_of, view_of}
use Rattle.rh_shared.specs.Crews.{SitsAt, IsFresh, IsQuiet, head_of, views_of}
use Rattle.rh_shared.specs.Rests.{SeatRests}
use Rattle.rh_shared.proofs.Crews.{fresh_rests}

-- what the seat of one worker keeps of it
alone_views : (s : Seat) → s.count ≡ 1 → views_of s ≡ sitter (view_of s) (trace_of s) ∷ []
alone_views s one = ap (λ x. x.0) (s.alone one)

-- a fresh worker alone rests
pub alone_rests : (t : Table) (s : Seat) → SitsAt t s → InView IsFresh (views_of s) → s.count ≡ 1 → SeatRests t s
alone_rests t s at fresh one =
    let views = alone_views s one in
    fresh_rests t s at one (sym (ap head_of views))
    (subst (λ (vs : List Sitter). IsFresh (head_of vs)) (sym views)
    (subst (InView IsFresh) views fresh 0 (sitter (view_of s) (trace_of s)) refl))

pub both_quiet : (vs us : List Sitter) → InView IsQuiet vs → InView IsQuiet us → InView IsQuiet (vs ++ us)
both_quiet vs us h g r k at = ⊎_elim (λ left. h r k left) (λ right. g right.0 k right.2) (at_append vs us r k at)

pub fresh_quiet : (v : View) → IsFresh v → IsQuiet v
fresh_quiet v fresh = subst IsQuiet (sym fresh) (record { still = refl; rest = record { closed = refl; settled = refl; paid = refl } })
