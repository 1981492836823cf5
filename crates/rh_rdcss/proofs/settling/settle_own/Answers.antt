use Rattle.std.proofs.Common.{◌∙◌, ap, subst, sym}
use Rattle.rh_words.specs.Steps.{Allowed, Step}
use Rattle.rh_helping.specs.Requested.{asked_of_mark}
use Rattle.rh_helping.specs.Settling.{IsFound}
use Rattle.rh_helping.proofs.Marks.{may_read_control}
use Rattle.rh_shared.specs.Seats.{sitter_of, view_of}
use Rattle.rh_rdcss.specs.Settling.{own_piece}
use Rattle.rh_rdcss.proofs.MarksMet.{learned_as, own_settled, own_settles}
use Rattle.rh_rdcss.proofs.settling.settle_own.Goals as goal

pub make-word-requires-clause-allowed : goal.make-word-requires-clause-allowed
make-word-requires-clause-allowed c =
    let own = c.args.own in
    subst (λ (s : Step). Allowed c.args.table.now.shape (view_of c.args.seat.now) s) (sym c.request-control.ensures)
    (may_read_control _ _ c.requires.knows.knows own.mark (own_piece own c.args.cell) (record { met = c.requires.found; of_desc = c.requires.facts.of_desc; of_entry = c.requires.facts.of_entry }))

pub go_on_own-requires : goal.go_on_own-requires
go_on_own-requires c = (learned_as _ _ _ _ _ _ c.request-control.ensures c.make-word.ensures.learned).finds.word_is

pub make-requires-clause-allowed : goal.make-requires-clause-allowed
make-requires-clause-allowed c =
    let z = c.args.table.now.shape in
    let own = c.args.own in
    let found : IsFound (view_of c.args.seat.now) own.mark (own_piece own c.args.cell) = record { met = c.requires.found; of_desc = c.requires.facts.of_desc; of_entry = c.requires.facts.of_entry } in
    subst (λ (s : Step). Allowed z (view_of c.make-word.new.seat) s) (sym (c.request-swap.ensures ∙ ap asked_of_mark c.go_on_own.ensures))
    (own_settles z _ own.mark (own_piece own c.args.cell) found own.old c.requires.facts.knows_old _ _ (learned_as _ _ _ _ _ _ c.request-control.ensures c.make-word.ensures.learned))

pub returns-clause-settles : goal.returns-clause-settles
returns-clause-settles c = record {
  said = c.make-word.result;
  between = sitter_of c.make-word.new.seat;
  control = learned_as _ _ _ _ _ _ c.request-control.ensures c.make-word.ensures.learned;
  swap = learned_as _ _ _ _ _ _ (c.request-swap.ensures ∙ ap asked_of_mark c.go_on_own.ensures) c.make.ensures.learned;
}

pub returns-clause-settled : goal.returns-clause-settled
returns-clause-settled c mine = own_settled _ c.args.cell c.args.own _ _ _ (returns-clause-settles c) mine
