use Rattle.std.proofs.Common.{◌∙◌, ℕ, None, ap, refl, replicate}
use Rattle.rh_turns.specs.Laws.{GameStarts}
use Rattle.rh_turns.proofs.Started.{plays_start}
use Rattle.rh_order.proofs.Values.{is_value}
use Rattle.rh_interleaving.proofs.Setting.{none_alone, starts}
use Rattle.rh_interleaving.proofs.set_up.set_up.Goals as goal

made : (c : goal.In_ok-answers) → GameStarts (record {
  kind = c.args.kind;
  shape = c.args.shape;
  opening = c.in_ok-opening.opening.items;
  words = c.resize.new.self.items;
  keys = c.args.keys.items;
  answers = c.in_ok-answers.answers.items;
  hands = c.in_ok-hands.hands.items;
})
made c =
    starts c.args.kind c.args.shape c.args.cells.now c.args.keys.items c.args.shares.now c.in_ok-opening.opening.items c.in_ok-words.words.items c.deref.result.now
    c.resize.new.self.items c.in_ok-answers.answers.items c.in_ok-hands.hands.items c.requires.workers c.requires.opening c.requires.room c.requires.keys
    c.requires.dealt (c.in_ok-opening.ensures.items_if_clones_equal (λ x y e. e)) c.in_ok-words.ensures c.deref.ensures.value c.words-room.result c.words-room.ensures c.in_ok-words.words.len
    c.in_ok-words.words.ok.0 c.in_ok-resize.ensures.items (c.in_ok-answers.ensures.items_if_clones_equal (none_alone _ (λ answer e. e)) ∙ ap (λ (n : ℕ). replicate n None) (c.len.ensures ∙ c.args.keys.ok.0))
    c.in_ok-hands.ensures.shares c.in_ok-hands.ensures.new

pub plain_words-requires : goal.plain_words-requires
plain_words-requires c = λ cell lt. is_value c.args.shape.bits c.args.cells.now cell c.requires.opening lt

pub invariant_of-result : goal.invariant_of-result
invariant_of-result c = plays_start _ (made c)

pub returns-clause-start : goal.returns-clause-start
returns-clause-start c = record { kind_is = refl; opening_is = c.in_ok-opening.ensures.items_if_clones_equal (λ x y e. e); keys_are = refl; starts = made c }
