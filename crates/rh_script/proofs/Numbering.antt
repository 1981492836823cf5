-- A step more of a plan.
use Rattle.std.proofs.Common.{◌≡◌, ◌∙◌, ap, sym, ℕ, List, [], ◌∷◌, ◌++◌, map, append_assoc, refl}
use Rattle.std.proofs.lemmas.List.{append-nil, map-append}
use Rattle.rh_script.specs.declared.script.Step.{Step}
use Rattle.rh_script.specs.Instruction.{Numbered}
use Rattle.rh_script.specs.Names.{given_by, names_in}
use Rattle.rh_script.specs.Plan.{Planned, number_after, plan_of, planned_after}
use Rattle.rh_script.specs.Steps.{planned_as, step_as}

-- a step with the number of its list, after these names
abbrev numbered_after : List (List ℕ) → Numbered → Planned
numbered_after given step = record { line = step.line; instruction = step.instruction; list = number_after given step.instruction }

planned_more : (given : List (List ℕ)) (steps : List Numbered) (last : Numbered)
    → planned_after given (steps ++ last ∷ []) ≡ planned_after given steps ++ numbered_after (given ++ names_in steps) last ∷ []
unfolding planned_after names_in
planned_more given [] last = ap (λ names. numbered_after names last ∷ []) (sym (append-nil given))
planned_more given (step ∷ steps) last =
    ap (λ rest. numbered_after given step ∷ rest)
    (planned_more (given ++ given_by step.instruction) steps last
    ∙ ap (λ names. planned_after (given ++ given_by step.instruction) steps ++ numbered_after names last ∷ []) (append_assoc given (given_by step.instruction) (names_in steps)))

-- the steps are numbered as before, and the last one by the names before it
pub numbered_more : (before after : List Step) (step : Step) → map planned_as before ≡ plan_of (map step_as before) → step.list ≡ number_after (names_in (map step_as before)) (step_as step).instruction → after ≡ before ++ step ∷ []
    → map planned_as after ≡ plan_of (map step_as after)
numbered_more before after step numbered list grown =
    let steps = map step_as before in
    let last : planned_as step ≡ numbered_after (names_in steps) (step_as step) =
    λ i. record { line = step.line; instruction = (step_as step).instruction; list = list i } in
    ap (map planned_as) grown
    ∙ map-append planned_as before (step ∷ [])
    ∙ ap (λ all. all ++ planned_as step ∷ []) numbered
    ∙ ap (λ s. plan_of steps ++ s ∷ []) last
    ∙ sym (planned_more [] steps (step_as step))
    ∙ ap plan_of (sym (map-append step_as before (step ∷ [])))
    ∙ ap (λ all. plan_of (map step_as all)) (sym grown)

pub no_step_numbered : map planned_as [] ≡ plan_of (map step_as [])
unfolding planned_after
no_step_numbered = refl
