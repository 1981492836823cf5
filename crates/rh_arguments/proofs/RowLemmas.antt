-- Which arguments have a row where clap takes the words: those with a default, and those that have to be given.
use Rattle.std.proofs.Common.{◌≡◌, ◌⊎◌, inl, inr, ◌&&◌, ◌||◌, ◌++◌, Bool, true, false, not, cond, List, [], ◌∷◌, Some, refl, ap, sym, subst, ◌∙◌, fold, true≢false}
use Rattle.std.specs.List.{find, list_any}
use Rattle.std.specs.Option.{option_map_or}
use Rattle.std.specs.Str.{bytes_eq}
use Rattle.std.proofs.lemmas.Slice.Eq.{bytes_eq-Decides}
use Rattle.clap.specs.Facts.{explicit_source}
use Rattle.clap.specs.Kinds.{check_kinds}
use Rattle.clap.specs.Faults.{check_fault, defaults_fault, settle_fault, walk_fault}
use Rattle.clap.specs.Takes.{is_given}
use Rattle.clap.specs.Walk.{Row, Rule, Text, at_row, default_rows, finished, has_row, more_values, nothing_held, reading_by, rows_after, settled, walk, walk_from, with_default}
use Rattle.clap.specs.Simple.{Shape}
use Rattle.clap.specs.declared.parser.matches.ValueSource.{ValueSource}
use Rattle.clap.specs.declared.parser.matches.ValueSource.TheVariants.{DefaultValue}
use Rattle.rh_arguments.proofs.HelpLemmas.{both_pass}
use Rattle.rh_arguments.proofs.ValueLemmas.{Passes}

-- the argument is one of these
abbrev pub IsIn : Rule → List Rule → Type 0
IsIn a [] = ⊥
IsIn a (x ∷ xs) = (x ≡ a) ⊎ IsIn a xs

-- ---- defaults

stays_at : (id other : Text) (source : ValueSource) (values : List Text) (missing rows : List Row) → has_row id rows ≡ true
    → has_row id (at_row other (more_values source values) missing rows) ≡ true
stays_at id other source values missing [] has = absurd (true≢false (sym has))
stays_at id other source values missing (r ∷ rs) has = go (bytes_eq r.id other)
    (either (bytes_eq r.id id) has (λ later. stays_at id other source values missing rs later))
  where
    either : (here : Bool) → (here || has_row id rs) ≡ true → (has_row id rs ≡ true → has_row id (at_row other (more_values source values) missing rs) ≡ true)
        → (here || has_row id (at_row other (more_values source values) missing rs)) ≡ true
    either true has later = refl
    either false has later = later has

    go : (b : Bool) → (bytes_eq r.id id || has_row id (at_row other (more_values source values) missing rs)) ≡ true
        → has_row id (cond b (more_values source values r ++ rs) (r ∷ at_row other (more_values source values) missing rs)) ≡ true
    go true later = has
    go false later = later

comes_at : (id : Text) (source : ValueSource) (values : List Text) (new : Row) (rows : List Row) → bytes_eq new.id id ≡ true
    → has_row id (at_row id (more_values source values) (new ∷ []) rows) ≡ true
comes_at id source values new [] is = rw is refl
comes_at id source values new (r ∷ rs) is = go (bytes_eq r.id id) refl (comes_at id source values new rs is)
  where
    go : (b : Bool) → bytes_eq r.id id ≡ b → has_row id (at_row id (more_values source values) (new ∷ []) rs) ≡ true
        → has_row id (cond b (more_values source values r ++ rs) (r ∷ at_row id (more_values source values) (new ∷ []) rs)) ≡ true
    go true here later = rw here refl
    go false here later = rw here later

row_stays : (id : Text) (rows : List Row) (x : Rule) → has_row id rows ≡ true → has_row id (with_default rows x) ≡ true
row_stays id rows x has = go (has_row x.id rows)
  where
    added : (values : List Text) → has_row id (default_rows x.id (reading_by x) values rows) ≡ true
    added [] = has
    added (v ∷ vs) = stays_at id x.id DefaultValue (v ∷ vs) _ rows has

    go : (b : Bool) → has_row id (cond b rows (default_rows x.id (reading_by x) x.defaults rows)) ≡ true
    go true = has
    go false = added x.defaults

rows_stay : (id : Text) (rows : List Row) (c : List Rule) → has_row id rows ≡ true → has_row id (fold with_default rows c) ≡ true
rows_stay id rows [] has = has
rows_stay id rows (x ∷ xs) has = rows_stay id (with_default rows x) xs (row_stays id rows x has)

row_comes : (a : Rule) (v : Text) (vs : List Text) (rows : List Row) → a.defaults ≡ v ∷ vs → has_row a.id (with_default rows a) ≡ true
row_comes a v vs rows is = go (has_row a.id rows) refl
  where
    go : (b : Bool) → has_row a.id rows ≡ b → has_row a.id (cond b rows (default_rows a.id (reading_by a) a.defaults rows)) ≡ true
    go true has = has
    go false has = rw is (comes_at a.id DefaultValue (v ∷ vs) _ rows ((bytes_eq-Decides a.id a.id).1 refl))

rows_come : (a : Rule) (v : Text) (vs : List Text) (rows : List Row) (c : List Rule) → IsIn a c → a.defaults ≡ v ∷ vs → has_row a.id (fold with_default rows c) ≡ true
rows_come a v vs rows [] within is = absurd within
rows_come a v vs rows (x ∷ xs) (inl same) is =
    rows_stay a.id (with_default rows x) xs (subst (λ y. has_row a.id (with_default rows y) ≡ true) (sym same) (row_comes a v vs rows is))
rows_come a v vs rows (x ∷ xs) (inr later) is = rows_come a v vs (with_default rows x) xs later is

pub default_row : (a : Rule) (s : Shape) (words : List Text) (v : Text) (vs : List Text) → IsIn a s.rules → a.defaults ≡ v ∷ vs → has_row a.id (rows_after s.rules [] words) ≡ true
default_row a s words v vs within is = rows_come a v vs (settled s.rules (walk s.rules [] nothing_held words).held).rows s.rules within is

-- ---- arguments that have to be given

given_row : (id : Text) (rows : List Row) → is_given id rows ≡ true → has_row id rows ≡ true
given_row id [] given = absurd (true≢false (sym given))
given_row id (r ∷ rs) given = go (bytes_eq r.id id) given (λ later. given_row id rs later)
  where
    go : (b : Bool) → option_map_or (λ (x : Row). explicit_source x.source) (cond b (Some r) (find (λ x. bytes_eq x.id id) rs)) false ≡ true
        → (is_given id rs ≡ true → has_row id rs ≡ true) → (b || has_row id rs) ≡ true
    go true given later = refl
    go false given later = later given

last_passes : (wants_help wants_subcommand wants_argument : Bool) → check_kinds wants_help wants_subcommand wants_argument ≡ [] → wants_argument ≡ false
last_passes true wants_subcommand wants_argument none = absurd cc
last_passes false true wants_argument none = absurd cc
last_passes false false true none = absurd cc
last_passes false false false none = refl

no_subcommand : (negates wants : Bool) → (not (negates && false) && wants) ≡ false → wants ≡ false
no_subcommand true wants none = none
no_subcommand false wants none = none

is_met : (a : Rule) (rows : List Row) (c : List Rule) → IsIn a c → a.required ≡ true → list_any (λ x. x.required && not (is_given x.id rows)) c ≡ false → is_given a.id rows ≡ true
is_met a rows [] within required none = absurd within
is_met a rows (x ∷ xs) (inl same) required none =
    subst (λ (y : Rule). is_given y.id rows ≡ true) same (go x.required (is_given x.id rows) (ap (λ (y : Rule). y.required) same ∙ required) none)
  where
    go : (wanted given : Bool) → wanted ≡ true → ((wanted && not given) || list_any (λ y. y.required && not (is_given y.id rows)) xs) ≡ false → given ≡ true
    go true true is none = refl
    go true false is none = absurd (true≢false none)
    go false given is none = absurd (true≢false (sym is))
is_met a rows (x ∷ xs) (inr later) required none = is_met a rows xs later required (go (x.required && not (is_given x.id rows)) none)
  where
    go : (b : Bool) → (b || list_any (λ y. y.required && not (is_given y.id rows)) xs) ≡ false → list_any (λ y. y.required && not (is_given y.id rows)) xs ≡ false
    go true none = absurd (true≢false none)
    go false none = none

pub required_row : (a : Rule) (s : Shape) (words : List Text) → IsIn a s.rules → a.required ≡ true → Passes s words → has_row a.id (rows_after s.rules [] words) ≡ true
required_row a s words within required none =
    let end = (walk s.rules [] nothing_held words).held in
    let past_walk = both_pass (walk_fault s [] (walk_from nothing_held) words) _ none in
    let past_settle = both_pass (settle_fault s.rules s.args_override_self end) _ past_walk.1 in
    let past_defaults = both_pass (defaults_fault (settled s.rules end).rows s.rules) (check_fault s (finished s.rules end) false) past_settle.1 in
    let met = no_subcommand s.subcommand_negates_reqs _ (last_passes _ _ _ past_defaults.1) in
    given_row a.id (finished s.rules end) (is_met a (finished s.rules end) s.rules within required met)
