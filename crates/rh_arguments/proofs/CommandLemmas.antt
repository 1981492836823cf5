-- Words that clap takes name a command of a program that needs one.
use Rattle.std.proofs.Common.{◌≡◌, ◌&&◌, ◌||◌, Bool, true, false, not, cond, List, [], ◌∷◌, Option, Some, None, is_some, option_map, codes, refl, sym, ◌∙◌}
use Rattle.std.specs.Option.{option_map_or}
use Rattle.std.specs.List.{find, list_any}
use Rattle.std.specs.Str.{bytes_eq}
use Rattle.std.proofs.Math.Bool.{or-false}
use Rattle.std.proofs.lemmas.Slice.Eq.{bytes_eq-Decides}
use Rattle.clap.specs.Facts.{explicit_source}
use Rattle.clap.specs.Kinds.{Kinds, check_kinds, or_else}
use Rattle.clap.specs.Faults.{built_fault, check_fault, defaults_fault, entered_fault, fault_of, level_fault, settle_fault, walk_fault}
use Rattle.clap.specs.Takes.{is_given}
use Rattle.clap.specs.Walk.{Row, Text, answers_to, finished, nothing_held, rows_after, settled, stop_after, walk, walk_from}
use Rattle.clap.specs.Simple.{App, Shape, argument_words, built, entered, label_of, names_of, rows_at, subcommand_of}
use Rattle.clap.specs.Words.{subcommand_name_of, subcommand_rows_of}
use Rattle.clap.specs.declared.parser.matches.ArgMatches.{ArgMatches}
use Rattle.rh_arguments.specs.Words.{Finds}
use Rattle.rh_arguments.proofs.ValueLemmas.{Passes}
use Rattle.rh_arguments.proofs.HelpLemmas.{AvoidsHelp, both_pass, walk_avoids}

-- where a subcommand is required, a parse without one fails
required_fails : (wants_help wants_argument : Bool) → check_kinds wants_help true wants_argument ≡ [] → ⊥
required_fails true wants_argument passes = absurd cc
required_fails false wants_argument passes = absurd cc

required_met : (s : Shape) (rows : List Row) (has : Bool) → s.subcommand_required ≡ true → check_fault s rows has ≡ [] → has ≡ true
required_met s rows true required passes = refl
required_met s rows false required passes =
    absurd (required_fails (s.arg_required_else_help && not (list_any (λ r. explicit_source r.source) rows))
    (not (s.subcommand_negates_reqs && false) && list_any (λ a. a.required && not (is_given a.id rows)) s.rules) (rw required at passes))

-- where no step of a level fails, its walk, what is below it and its last checks do not
level_passes : (walk below settle defaults check : Kinds) → or_else walk (or_else below (or_else settle (or_else defaults check))) ≡ [] → (walk ≡ []) × (below ≡ []) × (check ≡ [])
level_passes walk below settle defaults check passes =
    let past_walk = both_pass walk (or_else below (or_else settle (or_else defaults check))) passes in
    let past_below = both_pass below (or_else settle (or_else defaults check)) past_walk.1 in
    let past_settle = both_pass settle (or_else defaults check) past_below.1 in
    (past_walk.0, past_below.0, (both_pass defaults check past_settle.1).1)

-- what holds of the place where the walk stops
taken_stop : (a : App) (words : List Text) → a.top.disable_help_subcommand ≡ false → a.top.subcommand_required ≡ true → built_fault a nothing_held words ≡ []
    → AvoidsHelp (stop_after a.top.rules (names_of a) words) × (entered_fault a (stop_after a.top.rules (names_of a) words) ≡ [])
    × (is_some (entered a (stop_after a.top.rules (names_of a) words)) ≡ true)
taken_stop a words enabled required passes =
    let end = (walk a.top.rules (names_of a) nothing_held words).held in
    let stop = stop_after a.top.rules (names_of a) words in
    let steps = level_passes (walk_fault a.top (names_of a) (walk_from nothing_held) words) (entered_fault a stop)
    (settle_fault a.top.rules a.top.args_override_self end) (defaults_fault (settled a.top.rules end).rows a.top.rules)
    (check_fault a.top (finished a.top.rules end) (is_some (entered a stop))) passes in (
      walk_avoids a.top (names_of a) (walk_from nothing_held) words enabled steps.0 tt,
      steps.1,
      required_met a.top (finished a.top.rules end) (is_some (entered a stop)) required steps.2,
    )

-- clap's own subcommand `help` answers to no other word
pub help_alone : (word : Text) → (word ≡ codes "help" → ⊥) → (bytes_eq (codes "help") word || false) ≡ true → ⊥
help_alone word other is = other (sym ((bytes_eq-Decides (codes "help") word).0 (sym (or-false _) ∙ is)))

-- ---- the command that the words name, which is to meet P

abbrev Below : List Text → Option Shape → Kinds
Below rest met = option_map_or (λ s. level_fault s [] nothing_held rest false []) met []

module _ (P : Text → List Row → Type 0) where
  -- each subcommand that answers to the word meets P, where it takes the rest
  abbrev pub EachMeets : Text → List Text → List Shape → Type 0
  EachMeets word rest [] = Unit {0}
  EachMeets word rest (s ∷ subs) =
      (answers_to word (label_of s) ≡ true → Passes s rest → P s.name (rows_after s.rules [] rest)) × EachMeets word rest subs

  found_named : (word : Text) (rest : List Text) (subs : List Shape) → EachMeets word rest subs → Below rest (find (λ s. answers_to word (label_of s)) subs) ≡ []
      → is_some (option_map (λ s. rows_at s rest) (find (λ s. answers_to word (label_of s)) subs)) ≡ true
      → Finds P (option_map (λ s. rows_at s rest) (find (λ s. answers_to word (label_of s)) subs))
  found_named word rest [] each passes some = absurd cc
  found_named word rest (s ∷ subs) each passes some = go (answers_to word (label_of s)) each.0 (λ fault later. found_named word rest subs each.1 fault later) passes some
    where
      go : (b : Bool) → (b ≡ true → Passes s rest → P s.name (rows_after s.rules [] rest))
          → (Below rest (find (λ s. answers_to word (label_of s)) subs) ≡ []
          → is_some (option_map (λ s. rows_at s rest) (find (λ s. answers_to word (label_of s)) subs)) ≡ true
          → Finds P (option_map (λ s. rows_at s rest) (find (λ s. answers_to word (label_of s)) subs)))
          → Below rest (cond b (Some s) (find (λ s. answers_to word (label_of s)) subs)) ≡ []
          → is_some (option_map (λ s. rows_at s rest) (cond b (Some s) (find (λ s. answers_to word (label_of s)) subs))) ≡ true
          → Finds P (option_map (λ s. rows_at s rest) (cond b (Some s) (find (λ s. answers_to word (label_of s)) subs)))
      go true named later passes some = named refl passes
      go false named later passes some = later passes some

  -- a walk that stops, and not at `help`, stops at a command of the program
  stop_named : (a : App) → ((word : Text) (rest : List Text) → (word ≡ codes "help" → ⊥) → EachMeets word rest a.subs) → (stop : Option (Text × List Text)) → AvoidsHelp stop
      → entered_fault a stop ≡ [] → is_some (entered a stop) ≡ true → Finds P (entered a stop)
  stop_named a each None avoids passes some = absurd cc
  stop_named a each (Some stop) avoids passes some = found_named stop.0 stop.1 a.subs (each stop.0 stop.1 avoids) passes some

  pub words_find : (a : App) (words : List Text) → (built a).top.disable_help_subcommand ≡ false → (built a).top.subcommand_required ≡ true
      → ((word : Text) (rest : List Text) → (word ≡ codes "help" → ⊥) → EachMeets word rest (built a).subs) → fault_of a words ≡ [] → Finds P (subcommand_of a words)
  words_find a words enabled required each passes =
      let stop = taken_stop (built a) (argument_words a words) enabled required passes in
      stop_named (built a) each _ stop.0 stop.1 stop.2

-- ---- what clap tells of the subcommand that was found

maps_join : {A B C : Type 0} (g : A → B) (f : B → C) (o : Option A) → option_map (λ x. f (g x)) o ≡ option_map f (option_map g o)
maps_join g f None = refl
maps_join g f (Some x) = refl

rows_named : (P : Text → List Row → Type 0) (rows : Option (Text × List Row)) (told : Option Text) → told ≡ option_map (λ found. found.0) rows → Finds P rows
    → (row : Text × List Row) × (told ≡ Some row.0) × P row.0 row.1
rows_named P None told is found = absurd found
rows_named P (Some row) told is found = (row, is, found)

-- the name in clap's matches is that of a command
pub name_found : (P : Text → List Row → Type 0) (m : ArgMatches) (told : Option Text) → told ≡ subcommand_name_of m → Finds P (subcommand_rows_of m)
    → (row : Text × List Row) × (told ≡ Some row.0) × P row.0 row.1
name_found P m told is found = rows_named P (subcommand_rows_of m) told (is ∙ maps_join _ _ _) found
