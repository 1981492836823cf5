-- What commands make of the part of a state is the part of what they make of it.
use Rattle.std.proofs.Common.{◌≡◌, ◌∙◌, ap, sym, refl, ℕ, Bool, true, false, cond, List, [], ◌∷◌, ◌++◌, Some}
use Rattle.std.specs.Prelude.{filter, map, unwrap_or}
use Rattle.std.specs.FinSet as set
use Rattle.std.specs.Str.{bytes_eq}
use Rattle.std.specs.Map.{lookup}
use Rattle.rh_layout.specs.Layout.{Keys}
use Rattle.rh_edit.specs.Rising.{rising_keys}
use Rattle.rh_combine.proofs.Rising.{rising_of_part}
use Rattle.rh_script.specs.Instruction.{Instruction, Use, Act, Save, Clear, Dump, Snapshot, Restore}
use Rattle.rh_script.specs.declared.action.Action.{Action}
use Rattle.rh_script.specs.declared.action.Action.TheVariants.{Add, Drop, Keep, Flip, Ask}
use Rattle.rh_operations.specs.Sets.{held_after}
use Rattle.rh_script_run.specs.Meaning.{list_of}
use Rattle.rh_part_laws.specs.Commands.{PartState, after, after_all, cut, cut_list, with_held, with_name}
use Rattle.rh_part_laws.proofs.Cutting.{flipped_only, inserted, kept_only, none_held, removed}

module _ (passes : ℕ → Bool) where
  -- ---- lists that have a name

  named_more : (lists : List (List ℕ × List ℕ)) (name keys : List ℕ) → map (cut_list passes) (lists ++ (name, keys) ∷ []) ≡ map (cut_list passes) lists ++ (name, filter passes keys) ∷ []
  named_more [] name keys = refl
  named_more (named ∷ lists) name keys = ap (λ l. cut_list passes named ∷ l) (named_more lists name keys)

  of_name : (name : List ℕ) (lists : List (List ℕ × List ℕ)) → filter passes (list_of name lists) ≡ list_of name (map (cut_list passes) lists)
  of_name name [] = refl
  of_name name (named ∷ lists) =
      elim (bytes_eq named.0 name) as (λ b. filter passes (unwrap_or (cond b (Some named.1) (lookup (λ other. bytes_eq other name) lists)) []) ≡ unwrap_or (cond b (Some (filter passes named.1)) (lookup (λ other. bytes_eq other name) (map (cut_list passes) lists))) []) [
        | true ↦ refl
        | false ↦ of_name name lists
      ]

  -- ---- a command

  acted : (action : Action) (S : Keys) (keys : List ℕ) → set.retain (held_after action S keys) passes ≡ held_after action (set.retain S passes) (filter passes keys)
  acted Add S keys = inserted passes S keys
  acted Drop S keys = removed passes S keys
  acted Keep S keys = kept_only passes S keys
  acted Flip S keys = flipped_only passes S keys
  acted Ask S keys = refl

  of_either : (b : Bool) (S T : Keys) → set.retain (cond b S T) passes ≡ cond b (set.retain S passes) (set.retain T passes)
  of_either true S T = refl
  of_either false S T = refl

  module _ (s : PartState) where
    now_named : (name keys : List ℕ) → cut passes (with_name s name keys) ≡ with_name (cut passes s) name (filter passes keys)
    now_named name keys = λ i. record (cut passes s) { lists = named_more s.lists name keys i }

    now_held : (S T : Keys) → set.retain S passes ≡ T → cut passes (with_held s S) ≡ with_held (cut passes s) T
    now_held S T is = ap (λ (U : Keys). with_held (cut passes s) U) is

    cut_after : (command : Instruction) → cut passes (after s command) ≡ after (cut passes s) command
    cut_after (Use name path) = now_named name (s.files path)
    cut_after (Act action name) =
        now_held _ _ (acted action s.held (list_of name s.lists) ∙ ap (λ l. held_after action (set.retain s.held passes) l) (of_name name s.lists))
    cut_after (Save name) = now_named name (rising_keys s.held) ∙ ap (λ l. with_name (cut passes s) name l) (sym (rising_of_part passes s.held))
    cut_after Clear = now_held _ _ (none_held passes)
    cut_after Dump = refl
    cut_after (Snapshot path) = λ i. record (cut passes s) { snapshots = λ other. of_either (bytes_eq path other) s.held (s.snapshots other) i }
    cut_after (Restore path) = refl

  -- ---- all of them

  pub cut_all : (s : PartState) (commands : List Instruction) → cut passes (after_all s commands) ≡ after_all (cut passes s) commands
  cut_all s [] = refl
  cut_all s (command ∷ commands) = cut_all (after s command) commands ∙ ap (λ (t : PartState). after_all t commands) (cut_after s command)
