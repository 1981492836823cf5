-- Three texts written one after the other.
use Rattle.std.proofs.Common.{ℕ, List, [], ◌++◌, Option, Result, subst, append-nil}
use Rattle.rh_bytes.specs.Counting.{Emitted, EmittedFront, Emits}
use Rattle.rh_bytes.specs.declared.counted.Counted.{Counted}
use Rattle.rh_bytes.proofs.Writing.{emitted_after, emitted_longer, emitted_then}

pub first_stops : {V : Type 0} {contents : V → Option (List ℕ)} (a b : Counted V) (first second third : List ℕ) → EmittedFront contents a b (first ++ []) → EmittedFront contents a b (first ++ (second ++ third))
first_stops {contents = contents} a b first second third front =
    emitted_longer a b first (second ++ third) (subst (λ (t : List ℕ). EmittedFront contents a b t) (append-nil first) front)

pub second_stops : {V : Type 0} {contents : V → Option (List ℕ)} (a b c : Counted V) (first second third : List ℕ) → Emitted contents a b (first ++ []) → EmittedFront contents b c second → EmittedFront contents a c (first ++ (second ++ third))
second_stops {contents = contents} a b c first second third done front =
    emitted_after a b c first (second ++ third) (subst (λ (t : List ℕ). Emitted contents a b t) (append-nil first) done) (emitted_longer b c second third front)

pub third_ends : {X E V : Type 0} {contents : V → Option (List ℕ)} (a b c d : Counted V) (first second third : List ℕ) (r : Result X E) → Emitted contents a b (first ++ []) → Emitted contents b c second → Emits contents c d (third ++ []) r
    → Emits contents a d (first ++ (second ++ third)) r
third_ends {contents = contents} a b c d first second third r one two last =
    emitted_then a b d first (second ++ third) r (subst (λ (t : List ℕ). Emitted contents a b t) (append-nil first) one)
    (emitted_then b c d second third r two (subst (λ (t : List ℕ). Emits contents c d t r) (append-nil third) last))
