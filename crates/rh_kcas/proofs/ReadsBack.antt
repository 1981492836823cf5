-- What a read says of the acts of all workers.
use Rattle.std.proofs.Common.{◌≡◌, ℕ, ◌≤◌, List, [], ◌∷◌, ◌++◌, map, sym, ap, ◌∙◌, subst, inl, inr, refl}
use Rattle.rh_world.specs.World.{In}
use Rattle.rh_world.specs.Sides.{KeptRead, Side}
use Rattle.rh_world.specs.Prefixes.{InOrder}
use Rattle.rh_rule.specs.Erased.{erased_read}
use Rattle.rh_kcas.specs.Reads.{ReadsTell}

-- a read that is kept of a worker is one of the world, and what it read before stands behind it
record Parts (rs : List KeptRead) (r : KeptRead) (older : List KeptRead) : Type 0 where
  later : List KeptRead
  acts : ℕ
  earlier : List KeptRead
  are : rs ≡ later ++ (record r { acts = acts } ∷ earlier)
  earlier_are : map erased_read earlier ≡ older

parts : (rs newer : List KeptRead) (r : KeptRead) (older : List KeptRead) → map erased_read rs ≡ newer ++ (r ∷ older) → Parts rs r older
parts [] [] r older e = cc
parts [] (m ∷ newer) r older e = cc
parts (k ∷ rs) [] r older e =
    let head : erased_read k ≡ r = cc in
    let tail : map erased_read rs ≡ older = cc in
    record { later = []; acts = k.acts; earlier = rs; are = λ i. record (head i) { acts = k.acts } ∷ rs; earlier_are = tail }
parts (k ∷ rs) (m ∷ newer) r older e =
    let p = parts rs newer r older (let tail : map erased_read rs ≡ newer ++ (r ∷ older) = cc in tail) in
    record { later = k ∷ p.later; acts = p.acts; earlier = p.earlier; are = ap (λ (l : List KeptRead). k ∷ l) p.are; earlier_are = p.earlier_are }

in_parts : (later : List KeptRead) (k : KeptRead) (earlier : List KeptRead) → In k (later ++ (k ∷ earlier))
in_parts [] k earlier = inl refl
in_parts (m ∷ later) k earlier = inr (in_parts later k earlier)

order_from : (later : List KeptRead) (k : KeptRead) (earlier : List KeptRead) → InOrder (later ++ (k ∷ earlier)) → (j : KeptRead) → In j earlier → j.acts ≤ k.acts
order_from [] k earlier h j i = (h.0 j i).0
order_from (m ∷ later) k earlier h j i = order_from later k earlier h.1 j i

pub reads_tell : ReadsTell
reads_tell w z keep side world_tells c word v next newer mine read kept =
    let r : KeptRead = record { cell = c; word = word; acts = 0; next_number = v.next_number } in
    let p = parts (side v.worker).reads newer r v.side.reads
    (sym (ap (λ (s : Side). s.reads) (world_tells.kept v.worker mine)) ∙ kept ∙ ap (λ (l : List KeptRead). newer ++ l) read.seen_is.1) in
    let k : KeptRead = record r { acts = p.acts } in
    let says = world_tells.foretold.reads v.worker k (subst (In k) (sym p.are) (in_parts p.later k p.earlier)) in
    record {
      acts = p.acts;
      holds = says.1;
      prefix = says.0;
      earlier = p.earlier;
      later = p.later;
      reads = p.are;
      earlier_are = p.earlier_are;
      in_order = order_from p.later k p.earlier (subst InOrder p.are (world_tells.foretold.two_reads v.worker));
    }
