use Rattle.std.proofs.Common.{◌≡◌, ◌∙◌, ◌<◌, length, sym, ap, subst, arith}
use Rattle.std.specs.Prelude.{slice_index}
use Rattle.std.proofs.lemmas.List.{get_or_default}
use Rattle.rh_tagword.specs.Word.{word_in}
use Rattle.rh_turns.specs.Game.{Game, Plays}
use Rattle.rh_turns.proofs.Playing.{plays_sized}
use Rattle.rh_interleaving.proofs.Showing.{is_there, is_word}
use Rattle.rh_interleaving.proofs.player.Player.raw.Goals as goal

pub unwrap-requires : goal.unwrap-requires
unwrap-requires c =
    let plays : Plays c.args.self.now = subst Plays c.self.view_is c.self.invariant in
    let items = c.self.inside.table.words.items in
    let inside : c.args.cell < length items = omega (arith, c.requires, plays_sized c.args.self.now plays, ap (λ (g : Game). length g.words) c.self.view_is) in
    let same : slice_index c.args.self.now.words c.args.cell ≡ c.index.result.now =
    ap (λ (g : Game). slice_index g.words c.args.cell) (sym c.self.view_is) ∙ get_or_default items c.args.cell 0 c.index.result.now inside ∙ sym c.index.ensures in
    is_there c.unpack.result (λ none. is_word c.args.self.now plays c.args.cell c.requires (ap word_in same ∙ sym c.unpack.ensures.word ∙ none))
