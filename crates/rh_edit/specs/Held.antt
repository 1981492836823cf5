-- What a `SeqSet` is seen as.
use Rattle.std.specs.Prelude.{ℕ, refl}
use Rattle.std.specs.Coded.{Coded, code_by, coded×, coded_ℕ}
use Rattle.std.specs.FinSet as set
use Rattle.rh_layout.specs.Layout.{Keys}

-- a set of keys, in a table of 2 ^ bits cells
pub record Held : Type 0 where
  pub bits : ℕ
  pub keys : Keys

abbrev pub held_code : Coded Held
held_code = code_by (ℕ × Keys) (coded× coded_ℕ (set.code coded_ℕ)) (λ h. (h.bits, h.keys)) (λ p. record { bits = p.0; keys = p.1 }) (λ _. refl)
