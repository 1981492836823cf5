-- What is known is, in memory, a struct with nothing in it.
use Rattle.atomic_table.proofs.Names.{[], ◌∷◌, refl, Val, vstruct, vnil, emp, ent, RattleType, makes_shadow, sem, Logic, Ura}
use denote.Struct.Struct.{Struct}
use denote.Struct.Owning.{shape}
use Rattle.rh_words.specs.contracts.known.Known as known

abbrev pub token : Val
token = vstruct vnil

abbrev pub Data : RattleType
Data = Struct (shape known.the_type)

pub made : {M : Type 1} {𝓤 : Ura M} (𝓛 : Logic 𝓤) → ent 𝓤 (emp 𝓤) (sem 𝓛 (Data.own_val tt (token ∷ [])))
made 𝓛 = makes_shadow 𝓛 (Data.own_val tt (token ∷ [])) (λ vss. (tt, tt)) (tt, (refl, tt))
