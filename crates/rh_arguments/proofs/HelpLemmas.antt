-- Words that clap takes do not name the subcommand `help`, which it answers with a text instead.
use Rattle.std.proofs.Common.{◌≡◌, Bool, true, false, cond, List, [], ◌∷◌, Option, Some, None, codes, refl, subst, sym, fold}
use Rattle.std.specs.Str.{bytes_eq}
use Rattle.clap.specs.Lexer.{long_of, short_of}
use Rattle.clap.specs.Kinds.{Kinds, or_else}
use Rattle.clap.specs.Faults.{other_fault, turn_fault, walk_fault, word_fault}
use Rattle.clap.specs.Walk.{Held, Names, Outcome, Rule, Step, Text, Waiting, Walk, after_flag, after_step, arg_by_index, done, idle, long_or_other, next, option, plain, plain_word, positional, refused, short_or_plain, subcommand, subcommand_met, subcommand_or_other, to_positional, trailing, value, waits, walked, walked_from, word_met}
use Rattle.clap.specs.Simple.{Shape}

-- the walk does not stop at `help`
abbrev pub AvoidsHelp : Option (Text × List Text) → Type 0
AvoidsHelp None = Unit {0}
AvoidsHelp (Some stop) = stop.0 ≡ codes "help" → ⊥

-- the word does not name `help`
abbrev NamesNoHelp : Step → Type 0
NamesNoHelp (subcommand name) = name ≡ codes "help" → ⊥
NamesNoHelp (next waiting) = Unit {0}
NamesNoHelp (trailing position) = Unit {0}
NamesNoHelp value = Unit {0}

-- where neither of two steps fails
pub both_pass : (a b : Kinds) → or_else a b ≡ [] → (a ≡ []) × (b ≡ [])
both_pass [] b e = (refl, e)
both_pass (k ∷ ks) b e = absurd cc

-- ---- what one word comes to

plain_word_no_help : (c : List Rule) (waiting : Waiting) (word : Text) (h : Held) → NamesNoHelp (plain_word c waiting word h).1
plain_word_no_help c idle word h = tt
plain_word_no_help c (option id) word h = tt
plain_word_no_help c positional word h = tt

after_flag_no_help : (c : List Rule) (waiting : Waiting) (word : Text) (h : Held) (outcome : Outcome) → NamesNoHelp (after_flag c waiting word h outcome).1
after_flag_no_help c waiting word h done = tt
after_flag_no_help c waiting word h (waits id) = tt
after_flag_no_help c waiting word h plain = plain_word_no_help c waiting word h
after_flag_no_help c waiting word h refused = plain_word_no_help c waiting word h

short_no_help : (c : List Rule) (waiting : Waiting) (word : Text) (flags : Option Text) (h : Held) → NamesNoHelp (short_or_plain c waiting word flags h).1
short_no_help c waiting word (Some flags) h = after_flag_no_help c waiting word _ _
short_no_help c waiting word None h = plain_word_no_help c waiting word h

long_no_help : (c : List Rule) (waiting : Waiting) (word : Text) (name : Option (Text × Option Text)) (h : Held) → NamesNoHelp (long_or_other c waiting word name h).1
long_no_help c waiting word (Some name) h = after_flag_no_help c waiting word _ _
long_no_help c waiting word None h = short_no_help c waiting word (short_of word) h

-- a subcommand that the word names is `help` only where that is the fault
other_no_help : (s : Shape) (name : Option Text) (waiting : Waiting) (position : _) (word : Text) (h : Held) → s.disable_help_subcommand ≡ false → other_fault s name word h ≡ []
    → NamesNoHelp (subcommand_or_other s.rules name waiting position word h).1
other_no_help s (Some name) waiting position word h enabled passes = λ is. let fault = rw (is, enabled) at passes in absurd cc
other_no_help s None waiting position word h enabled passes = go (bytes_eq word (45 ∷ 45 ∷ []))
  where
    go : (b : Bool) → NamesNoHelp (cond b (h, trailing position) (long_or_other s.rules waiting word (long_of word) h)).1
    go true = tt
    go false = long_no_help s.rules waiting word (long_of word) h

word_no_help : (s : Shape) (names : Names) (is_trailing : Bool) (waiting : Waiting) (position : _) (word : Text) (h : Held) → s.disable_help_subcommand ≡ false
    → word_fault s names is_trailing waiting word h ≡ [] → NamesNoHelp (word_met s.rules names is_trailing waiting position word h).1
word_no_help s names true waiting position word h enabled passes = tt
word_no_help s names false waiting position word h enabled passes = other_no_help s (subcommand_met names waiting word) waiting position word h enabled passes

-- ---- the walk over the words

after_step_avoids : (c : List Rule) (word : Text) (w : Walk) (h : Held) (step : Step) → AvoidsHelp w.stopped → NamesNoHelp step → AvoidsHelp (after_step c word w h step).stopped
after_step_avoids c word w h (next waiting) before here = before
after_step_avoids c word w h (trailing position) before here = before
after_step_avoids c word w h (subcommand name) before here = here
after_step_avoids c word w h value before here = go (arg_by_index c w.position)
  where
    go : (rule : Option Rule) → AvoidsHelp (to_positional c rule word w h).stopped
    go None = before
    go (Some rule) = tt

turn_avoids : (s : Shape) (names : Names) (w : Walk) (word : Text) (stopped : Option (Text × List Text)) → w.stopped ≡ stopped → s.disable_help_subcommand ≡ false
    → turn_fault s names w word ≡ [] → AvoidsHelp stopped → AvoidsHelp (walked_from s.rules names stopped w word).stopped
turn_avoids s names w word (Some stop) is enabled passes before = before
turn_avoids s names w word None is enabled passes before =
    let word_passes = both_pass _ _ (rw is at passes) in
    after_step_avoids s.rules word w _ _ (subst AvoidsHelp (sym is) tt)
    (word_no_help s names w.is_trailing w.waiting w.position word w.held enabled word_passes.0)

pub walk_avoids : (s : Shape) (names : Names) (w : Walk) (words : List Text) → s.disable_help_subcommand ≡ false → walk_fault s names w words ≡ [] → AvoidsHelp w.stopped
    → AvoidsHelp (fold (walked s.rules names) w words).stopped
unfolding walk_fault walked
walk_avoids s names w [] enabled passes before = before
walk_avoids s names w (word ∷ rest) enabled passes before =
    let each = both_pass _ _ passes in
    walk_avoids s names (walked s.rules names w word) rest enabled each.1 (turn_avoids s names w word w.stopped refl enabled each.0 before)
