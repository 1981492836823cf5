-- What clap took for an argument whose action is `Set`: a text that its parser accepts, read as the parser says.
use Rattle.std.proofs.Common.{◌≡◌, ◌&&◌, ◌||◌, ◌++◌, ◌+◌, min, ℕ, Bool, true, false, zero, suc, cond, is_some, nat_lt, drop, length, List, [], ◌∷◌, Option, Some, None, refl, sym, ap, subst, ◌∙◌, fold, true≢false}
use Rattle.std.specs.Prelude.{encode_utf8, option_and_then, option_map, slice_get}
use Rattle.std.specs.List.{find}
use Rattle.std.specs.Option.{option_map_or}
use Rattle.std.specs.Str.{bytes_eq, chars}
use Rattle.clap.specs.Lexer.{long_of, short_of}
use Rattle.clap.specs.Facts.{parser_of_value, unwrap_or_range}
use Rattle.clap.specs.Values.{read_as}
use Rattle.clap.specs.Matches.{count_text}
use Rattle.clap.specs.Kinds.{or_else, range_kinds, values_kinds}
use Rattle.clap.specs.ValueTests.{accepts}
use Rattle.clap.specs.Takes.{value_passes}
use Rattle.clap.specs.Faults.{action_fault, bundle_fault, bundle_step_fault, flag_word_fault, flags_fault, level_fault, long_fault, option_fault, other_fault, positional_fault, react_fault, repeat_fault, set_fault, settle_fault, short_fault, step_fault, stray_fault, turn_fault, use_fault, values_fault, walk_fault, word_fault}
use Rattle.clap.specs.Walk.{Held, Names, Outcome, Row, Rule, Step, Text, Waiting, Walk, action_of, after_flag, after_step, arg_by_id, arg_by_index, arg_by_long, arg_by_short, at_row, attached_value, bundle, bundle_met, bundle_step, count_of, counted, default_rows, done, first_of, flag_met, has_row, idle, is_pending, long_met, long_or_other, more_values, most_values, new_count, next, nothing_held, one_of, option, option_met, option_word, plain, plain_word, positional, positional_held, reacted, reading_by, refused, row_text, rows_after, settled, settled_rows, short_met, short_or_plain, subcommand, subcommand_met, subcommand_or_other, takes_several, takes_values, to_positional, trailing, used, used_as, used_by_id, value, values_or_missing, waits, walk, walk_from, walked, walked_from, with_default, without, with_values, word_met}
use Rattle.clap.specs.Simple.{Shape}
use Rattle.clap.specs.declared.builder.action.ArgAction.{ArgAction}
use Rattle.clap.specs.declared.builder.action.ArgAction.TheVariants as actions
use Rattle.clap.specs.declared.parser.matches.ValueSource.TheVariants.{CommandLine}
use Rattle.clap.specs.declared.error.kind.ErrorKind.TheVariants as kind
use Rattle.rh_arguments.proofs.HelpLemmas.{both_pass}

-- ---- rows

-- there is a first value, and it passes
abbrev pub HasFirst : Rule → List Text → Type 0
HasFirst a [] = ⊥
HasFirst a (v ∷ vs) = value_passes a v ≡ true

abbrev pub Fits : Rule → Row → Type 0
Fits a r = (r.reading ≡ reading_by a) × HasFirst a r.values

-- each row of the argument fits it
abbrev pub EachFits : Rule → List Row → Type 0
EachFits a [] = Unit {0}
EachFits a (r ∷ rs) = (bytes_eq r.id a.id ≡ true → Fits a r) × EachFits a rs

more_fits : (a : Rule) (before more : List Text) → HasFirst a before → HasFirst a (before ++ more)
more_fits a [] more first = absurd first
more_fits a (v ∷ vs) more first = first

join_fits : (a : Rule) (xs ys : List Row) → EachFits a xs → EachFits a ys → EachFits a (xs ++ ys)
join_fits a [] ys left right = right
join_fits a (x ∷ xs) ys left right = (left.0, join_fits a xs ys left.1 right)

at_row_fits : (a : Rule) (id : Text) (change : Row → List Row) (missing rows : List Row) → ((r : Row) → (bytes_eq r.id a.id ≡ true → Fits a r) → EachFits a (change r))
    → EachFits a missing → EachFits a rows → EachFits a (at_row id change missing rows)
at_row_fits a id change missing [] changed added each = added
at_row_fits a id change missing (r ∷ rs) changed added each = go (bytes_eq r.id id) (at_row_fits a id change missing rs changed added each.1)
  where
    go : (b : Bool) → EachFits a (at_row id change missing rs) → EachFits a (cond b (change r ++ rs) (r ∷ at_row id change missing rs))
    go true later = join_fits a (change r) rs (changed r each.0) each.1
    go false later = (each.0, later)

without_fits : (a : Rule) (id : Text) (rows : List Row) → EachFits a rows → EachFits a (at_row id (λ _. []) [] rows)
without_fits a id rows each = at_row_fits a id (λ _. []) [] rows (λ r fits. tt) tt each

-- each argument of this name is this one
abbrev pub EachIs : Rule → List Rule → Type 0
EachIs a [] = Unit {0}
EachIs a (x ∷ xs) = (bytes_eq x.id a.id ≡ true → x ≡ a) × EachIs a xs

abbrev FoundIs : Rule → Option Rule → Type 0
FoundIs a None = Unit {0}
FoundIs a (Some x) = bytes_eq x.id a.id ≡ true → x ≡ a

found_is : (a : Rule) (p : Rule → Bool) (c : List Rule) → EachIs a c → FoundIs a (find p c)
found_is a p [] each = tt
found_is a p (x ∷ xs) each = go (p x) (found_is a p xs each.1)
  where
    go : (b : Bool) → FoundIs a (find p xs) → FoundIs a (cond b (Some x) (find p xs))
    go true later = each.0
    go false later = later

-- values join the row of an argument, or begin one
values_fit : (a : Rule) (id : Text) (how : _) (source : _) (values : List Text) (rows : List Row) → (bytes_eq id a.id ≡ true → (how ≡ reading_by a) × HasFirst a values)
    → EachFits a rows → EachFits a (with_values id how source values rows)
values_fit a id how source values rows first each =
    at_row_fits a id (more_values source values) (record { id = id; values = values; count = None; source = Some source; reading = how } ∷ []) rows
    (λ r fits. (λ same. let is = fits same in (is.0, more_fits a r.values values is.1), tt)) (first, tt) each

-- a count joins the row of another argument, or begins one
counted_fits : (a : Rule) (id : Text) (how : _) (values : List Text) (rows : List Row) → (bytes_eq id a.id ≡ true → ⊥) → EachFits a rows → EachFits a (counted id how values rows)
counted_fits a id how [] rows other each =
    let n = min (count_of id rows + 1) 255 in
    at_row_fits a id (new_count CommandLine n) (record { id = id; values = count_text n ∷ []; count = Some n; source = Some CommandLine; reading = how } ∷ []) (without id rows)
    (λ r fits. (λ same. let is = fits same in (is.0, more_fits a r.values (count_text n ∷ []) is.1), tt)) (λ same. absurd (other same), tt) (without_fits a id rows each)
counted_fits a id how (v ∷ vs) rows other each = values_fit a id how _ _ _ (λ same. absurd (other same)) (without_fits a id rows each)

-- ---- one use of an argument

-- each use sets the argument to at least one value
abbrev pub IsSet : Rule → Type 0
IsSet a = (action_of a ≡ actions.Set) × (nat_lt 0 (unwrap_or_range a.range).start_inclusive ≡ true)

value_passes_from : (a : Rule) (v : Text) (vs : List Text) → values_kinds a.ignore_case (parser_of_value a.parser) (v ∷ vs) ≡ [] → value_passes a v ≡ true
value_passes_from a v vs none = go (accepts a.ignore_case (parser_of_value a.parser) v) refl
  where
    go : (b : Bool) → accepts a.ignore_case (parser_of_value a.parser) v ≡ b → b ≡ true
    go true is = refl
    go false is = let bad = rw is at none in absurd cc

use_first : (a : Rule) (again : Bool) (values : List Text) (rows : List Row) → IsSet a → use_fault again a values rows ≡ [] → HasFirst a (values_or_missing a values)
use_first a again [] rows set none =
    let bad = rw set.1 at none in
    absurd cc
use_first a again (v ∷ vs) rows set none =
    let acted : action_fault (action_of a) again a (v ∷ vs) rows ≡ [] =
    (both_pass (range_kinds (unwrap_or_range a.range).start_inclusive (most_values a) (length (v ∷ vs))) (action_fault (action_of a) again a (v ∷ vs) rows) none).1 in
    let as_set : set_fault again a (v ∷ vs) rows ≡ [] = subst (λ x. action_fault x again a (v ∷ vs) rows ≡ []) set.0 acted in
    value_passes_from a v vs (both_pass (repeat_fault again a.id rows) (values_fault a (v ∷ vs)) as_set).1

used_fits : (a x : Rule) (again : Bool) (values : List Text) (rows : List Row) → IsSet a → (bytes_eq x.id a.id ≡ true → x ≡ a) → use_fault again x values rows ≡ [] → EachFits a rows
    → EachFits a (used x values rows)
used_fits a x again values rows set is none each = go (action_of x) refl
  where
    first : bytes_eq x.id a.id ≡ true → (reading_by x ≡ reading_by a) × HasFirst a (values_or_missing x values)
    first same =
        let here = is same in
        (ap reading_by here, subst (λ y. HasFirst a (values_or_missing y values)) (sym here) (use_first a again values rows set (subst (λ y. use_fault again y values rows ≡ []) here none)))

    alone : (action : ArgAction) → action_of x ≡ action → (action ≡ actions.Set → ⊥) → bytes_eq x.id a.id ≡ true → ⊥
    alone action acts other same = other (sym acts ∙ ap action_of (is same) ∙ set.0)

    go : (action : ArgAction) → action_of x ≡ action → EachFits a (used_as action x.id (reading_by x) (values_or_missing x values) rows)
    go actions.Set acts = values_fit a x.id _ _ _ _ first (without_fits a x.id rows each)
    go actions.SetTrue acts = values_fit a x.id _ _ _ _ (λ same. absurd (alone actions.SetTrue acts (λ e. cc) same)) (without_fits a x.id rows each)
    go actions.SetFalse acts = values_fit a x.id _ _ _ _ (λ same. absurd (alone actions.SetFalse acts (λ e. cc) same)) (without_fits a x.id rows each)
    go actions.Append acts = values_fit a x.id _ _ _ rows (λ same. absurd (alone actions.Append acts (λ e. cc) same)) each
    go actions.Count acts = counted_fits a x.id _ _ rows (λ same. absurd (alone actions.Count acts (λ e. cc) same)) each
    go actions.Help acts = each
    go actions.HelpShort acts = each
    go actions.HelpLong acts = each
    go actions.Version acts = each

-- ---- the walk

-- the argument is set, and no other argument of the command has its name
module _ (a : Rule) (s : Shape) (set : IsSet a) (alone : EachIs a s.rules) where
  settled_fits : (h : Held) → settle_fault s.rules s.args_override_self h ≡ [] → EachFits a h.rows → EachFits a (settled s.rules h).rows
  settled_fits h none each = go h.pending none
    where
      by_rule : (values : List Text) (rule : Option Rule) → FoundIs a rule → option_map_or (λ x. use_fault s.args_override_self x values h.rows) rule [] ≡ []
          → EachFits a (used_by_id rule values h.rows)
      by_rule values None is none = each
      by_rule values (Some x) is none = used_fits a x s.args_override_self values h.rows set is none each

      go : (pending : Option (Text × List Text)) → settle_fault s.rules s.args_override_self (record h { pending = pending }) ≡ [] → EachFits a (settled_rows s.rules pending h.rows)
      go None none = each
      go (Some p) none = by_rule p.1 (arg_by_id s.rules p.0) (found_is a _ s.rules alone) none

  reacted_fits : (x : Rule) (values : List Text) (h : Held) → (bytes_eq x.id a.id ≡ true → x ≡ a) → react_fault s.rules s.args_override_self x values h ≡ [] → EachFits a h.rows
      → EachFits a (reacted s.rules x values h).rows
  reacted_fits x values h is none each =
      let steps = both_pass _ _ none in
      used_fits a x s.args_override_self values (settled s.rules h).rows set is steps.1 (settled_fits h steps.0 each)

  option_fits : (x : Rule) (v : Option Text) (h : Held) → (bytes_eq x.id a.id ≡ true → x ≡ a) → option_fault s.rules s.args_override_self x v h ≡ [] → EachFits a h.rows
      → EachFits a (option_met s.rules x v h).0.rows
  option_fits x (Some v) h is none each = reacted_fits x (v ∷ []) h is none each
  option_fits x None h is none each = settled_fits h none each

  long_fits : (rule : Option Rule) (v : Option Text) (h : Held) → FoundIs a rule → long_fault s.rules s.args_override_self rule v h ≡ [] → EachFits a h.rows
      → EachFits a (long_met s.rules rule v h).0.rows
  long_fits None v h is none each = each
  long_fits (Some x) v h is none each = go (takes_values x) none
    where
      flag : (v : Option Text) → cond (is_some v) (kind.TooManyValues ∷ []) (react_fault s.rules s.args_override_self x [] h) ≡ [] → EachFits a (flag_met s.rules x v h).0.rows
      flag (Some v) none = each
      flag None none = reacted_fits x [] h is none each

      go : (b : Bool) → cond b (option_fault s.rules s.args_override_self x v h) (cond (is_some v) (kind.TooManyValues ∷ []) (react_fault s.rules s.args_override_self x [] h)) ≡ []
          → EachFits a (cond b (option_met s.rules x v h) (flag_met s.rules x v h)).0.rows
      go true none = option_fits x v h is none each
      go false none = flag v none

  flags_fit : (k : ℕ) (flags : Text) (skip : ℕ) (so_far : Outcome) (h : Held) → flags_fault s.rules s.args_override_self k flags skip h ≡ [] → EachFits a h.rows
      → EachFits a (bundle_met s.rules k flags skip so_far h).0.rows
  unfolding flags_fault bundle_met
  flags_fit zero flags skip so_far h none each = each
  flags_fit (suc k) flags skip so_far h none each = go (slice_get (chars flags) 0) skip none (λ rest less outcome now passed fits. flags_fit k rest less outcome now passed fits)
    where
      Later : Type 0
      Later = (rest : Text) (less : ℕ) (outcome : Outcome) (now : Held) → flags_fault s.rules s.args_override_self k rest less now ≡ [] → EachFits a now.rows
          → EachFits a (bundle_met s.rules k rest less outcome now).0.rows

      either : (x : Rule) (rest : Text) (b : Bool) → (bytes_eq x.id a.id ≡ true → x ≡ a) → cond b (option_fault s.rules s.args_override_self x (attached_value rest) h)
          (or_else (react_fault s.rules s.args_override_self x [] h) (flags_fault s.rules s.args_override_self k rest 0 (reacted s.rules x [] h))) ≡ [] → Later
          → EachFits a (cond b (option_met s.rules x (attached_value rest) h) (bundle_met s.rules k rest 0 done (reacted s.rules x [] h))).0.rows
      either x rest true is none later = option_fits x (attached_value rest) h is none each
      either x rest false is none later =
          let steps = both_pass (react_fault s.rules s.args_override_self x [] h) _ none in
          later rest 0 done (reacted s.rules x [] h) steps.1 (reacted_fits x [] h is steps.0 each)

      flag : (rule : Option Rule) (rest : Text) → FoundIs a rule → short_fault s.rules s.args_override_self rule rest h (flags_fault s.rules s.args_override_self k rest 0) ≡ [] → Later
          → EachFits a (short_met s.rules rule rest h (bundle_met s.rules k rest 0 done)).0.rows
      flag None rest is none later = each
      flag (Some x) rest is none later = either x rest (takes_values x) is none later

      go : (first : Option ℕ) (skip : ℕ) → bundle_step_fault s.rules s.args_override_self first flags skip h (flags_fault s.rules s.args_override_self k) ≡ [] → Later
          → EachFits a (bundle_step s.rules first flags skip so_far h (bundle_met s.rules k)).0.rows
      go None skip none later = each
      go (Some x) zero none later = flag (arg_by_short s.rules x) (drop (length (encode_utf8 x)) flags) (found_is a _ s.rules alone) none later
      go (Some x) (suc skip) none later = later (drop (length (encode_utf8 x)) flags) skip so_far h none each

  plain_fits : (waiting : Waiting) (word : Text) (h : Held) → EachFits a h.rows → EachFits a (plain_word s.rules waiting word h).0.rows
  plain_fits idle word h each = each
  plain_fits positional word h each = each
  plain_fits (option id) word h each = go (arg_by_id s.rules id)
    where
      go : (rule : Option Rule) → EachFits a (option_word rule id word h).0.rows
      go None = each
      go (Some x) = each

  after_flag_fits : (waiting : Waiting) (word : Text) (h : Held) (outcome : Outcome) → EachFits a h.rows → EachFits a (after_flag s.rules waiting word h outcome).0.rows
  after_flag_fits waiting word h done each = each
  after_flag_fits waiting word h (waits id) each = each
  after_flag_fits waiting word h plain each = plain_fits waiting word h each
  after_flag_fits waiting word h refused each = plain_fits waiting word h each

  short_fits : (waiting : Waiting) (word : Text) (flags : Option Text) (h : Held) → option_map_or (λ f. bundle_fault s.rules s.args_override_self f h) flags [] ≡ [] → EachFits a h.rows
      → EachFits a (short_or_plain s.rules waiting word flags h).0.rows
  short_fits waiting word None h none each = plain_fits waiting word h each
  short_fits waiting word (Some flags) h none each =
      after_flag_fits waiting word (bundle s.rules flags h).0 (bundle s.rules flags h).1 (flags_fit (length flags) flags h.skip plain (record h { skip = 0 }) none each)

  word_fits : (name : Option (Text × Option Text)) (waiting : Waiting) (word : Text) (h : Held) → flag_word_fault s.rules s.args_override_self name word h ≡ [] → EachFits a h.rows
      → EachFits a (long_or_other s.rules waiting word name h).0.rows
  word_fits (Some p) waiting word h none each =
      after_flag_fits waiting word _ _ (long_fits (arg_by_long s.rules p.0) p.1 h (found_is a _ s.rules alone) none each)
  word_fits None waiting word h none each = short_fits waiting word (short_of word) h none each

  met_fits : (names : Names) (is_trailing : Bool) (waiting : Waiting) (position : ℕ) (word : Text) (h : Held) → word_fault s names is_trailing waiting word h ≡ [] → EachFits a h.rows
      → EachFits a (word_met s.rules names is_trailing waiting position word h).0.rows
  met_fits names true waiting position word h none each = each
  met_fits names false waiting position word h none each = go (subcommand_met names waiting word) none
    where
      other : (b : Bool) → cond b [] (flag_word_fault s.rules s.args_override_self (long_of word) word h) ≡ []
          → EachFits a (cond b (h, trailing position) (long_or_other s.rules waiting word (long_of word) h)).0.rows
      other true none = each
      other false none = word_fits (long_of word) waiting word h none each

      go : (name : Option Text) → other_fault s name word h ≡ [] → EachFits a (subcommand_or_other s.rules name waiting position word h).0.rows
      go (Some name) none = each
      go None none = other (bytes_eq word (45 ∷ 45 ∷ [])) none

  positional_fits : (x : Rule) (word : Text) (h : Held) → positional_fault s.rules s.args_override_self x h ≡ [] → EachFits a h.rows
      → EachFits a (positional_held s.rules x word h).rows
  positional_fits x word h none each = go (is_pending x h.pending && takes_several x) none
    where
      go : (b : Bool) → cond b [] (settle_fault s.rules s.args_override_self h) ≡ [] → EachFits a (cond b h (settled s.rules h)).rows
      go true none = each
      go false none = settled_fits h none each

  turn_fits : (names : Names) (w : Walk) (word : Text) (stopped : Option (Text × List Text)) → turn_fault s names (record w { stopped = stopped }) word ≡ [] → EachFits a w.held.rows
      → EachFits a (walked_from s.rules names stopped w word).held.rows
  turn_fits names w word (Some stop) none each = each
  turn_fits names w word None none each =
      let steps = both_pass _ _ none in
      let met = word_met s.rules names w.is_trailing w.waiting w.position word w.held in
      go met.0 met.1 steps.1 (met_fits names w.is_trailing w.waiting w.position word w.held steps.0 each)
    where
      go : (h : Held) (step : Step) → step_fault s w.position h step ≡ [] → EachFits a h.rows → EachFits a (after_step s.rules word w h step).held.rows
      go h (next waiting) none each = each
      go h (trailing position) none each = each
      go h (subcommand name) none each = each
      go h value none each = placed (arg_by_index s.rules w.position) none
        where
          placed : (rule : Option Rule) → option_map_or (λ x. positional_fault s.rules s.args_override_self x h) rule (stray_fault s) ≡ []
              → EachFits a (to_positional s.rules rule word w h).held.rows
          placed None none = each
          placed (Some x) none = positional_fits x word h none each

  walk_fits : (names : Names) (w : Walk) (words : List Text) → walk_fault s names w words ≡ [] → EachFits a w.held.rows → EachFits a (fold (walked s.rules names) w words).held.rows
  unfolding walk_fault walked
  walk_fits names w [] none each = each
  walk_fits names w (word ∷ rest) none each =
      let steps = both_pass _ _ none in
      walk_fits names (walked s.rules names w word) rest steps.1 (turn_fits names w word w.stopped steps.0 each)

-- ---- defaults

-- the first default, where there is one, passes
abbrev DefaultFits : Rule → List Text → Type 0
DefaultFits a [] = Unit {0}
DefaultFits a (v ∷ vs) = value_passes a v ≡ true

default_fits : (a x : Rule) (rows : List Row) → DefaultFits a a.defaults → (bytes_eq x.id a.id ≡ true → x ≡ a) → EachFits a rows → EachFits a (with_default rows x)
default_fits a x rows passes is each = go (has_row x.id rows)
  where
    added : (values : List Text) → values ≡ x.defaults → EachFits a (default_rows x.id (reading_by x) values rows)
    added [] same = each
    added (v ∷ vs) same =
        values_fit a x.id _ _ _ rows
        (λ here. (ap reading_by (is here), subst (DefaultFits a) (ap (λ (y : Rule). y.defaults) (sym (is here)) ∙ sym same) passes)) each

    go : (b : Bool) → EachFits a (cond b rows (default_rows x.id (reading_by x) x.defaults rows))
    go true = each
    go false = added x.defaults refl

defaults_fit : (a : Rule) (c : List Rule) (rows : List Row) → DefaultFits a a.defaults → EachIs a c → EachFits a rows → EachFits a (fold with_default rows c)
defaults_fit a [] rows passes alone each = each
defaults_fit a (x ∷ xs) rows passes alone each = defaults_fit a xs (with_default rows x) passes alone.1 (default_fits a x rows passes alone.0 each)

-- ---- what a subcommand is left with

-- no step of the level fails
abbrev pub Passes : Shape → List Text → Type 0
Passes s words = level_fault s [] nothing_held words false [] ≡ []

pub rows_fit : (a : Rule) (s : Shape) (words : List Text) → IsSet a → EachIs a s.rules → DefaultFits a a.defaults → Passes s words → EachFits a (rows_after s.rules [] words)
rows_fit a s words set alone passes none =
    let end = (walk s.rules [] nothing_held words).held in
    let walk_steps = both_pass (walk_fault s [] (walk_from nothing_held) words) _ none in
    let settle_steps = both_pass (settle_fault s.rules s.args_override_self end) _ walk_steps.1 in
    defaults_fit a s.rules (settled s.rules end).rows passes alone
    (settled_fits a s set alone end settle_steps.0 (walk_fits a s set alone [] (walk_from nothing_held) words walk_steps.0 tt))

-- the text of an argument that has a row
abbrev pub HasValue : Rule → List Row → Type 0
HasValue a rows = (text : Text) × (first_of a.id rows ≡ Some text) × (one_of a.id rows ≡ Some (read_as (reading_by a) text)) × (value_passes a text ≡ true)

pub value_of : (a : Rule) (rows : List Row) → EachFits a rows → has_row a.id rows ≡ true → HasValue a rows
value_of a [] each has = absurd (true≢false (sym has))
value_of a (r ∷ rs) each has = go (bytes_eq r.id a.id) each.0 has (λ later. value_of a rs each.1 later)
  where
    of_row : (values : List Text) → r.values ≡ values → r.reading ≡ reading_by a → HasFirst a values → (text : Text) × (slice_get r.values 0 ≡ Some text)
        × (row_text r ≡ Some (read_as (reading_by a) text)) × (value_passes a text ≡ true)
    of_row [] same reading first = absurd first
    of_row (v ∷ vs) same reading first =
        (v, ap (λ xs. slice_get xs 0) same, (λ i. option_map (read_as (reading i)) (slice_get (same i) 0)), first)

    go : (b : Bool) → (b ≡ true → Fits a r) → (b || has_row a.id rs) ≡ true → (has_row a.id rs ≡ true → HasValue a rs)
        → (text : Text) × (option_and_then (λ (x : Row). slice_get x.values 0) (cond b (Some r) (find (λ x. bytes_eq x.id a.id) rs)) ≡ Some text)
        × (option_and_then row_text (cond b (Some r) (find (λ x. bytes_eq x.id a.id) rs)) ≡ Some (read_as (reading_by a) text)) × (value_passes a text ≡ true)
    go true fits has later = let is = fits refl in of_row r.values refl is.0 is.1
    go false fits has later = later has
