use Rattle.std.proofs.Common.{inl, sym, arith}
use Rattle.rh_handle.proofs.EmptyLemmas.{has_none, is_new}
use Rattle.rh_handle.proofs.handle.Handle.insert.Goals as goal

pub returns-in_default-clause-why : goal.returns-in_default-clause-why
returns-in_default-clause-why c = (
  is_new c.args.self.now.held c.args.number (omega (arith, c.if-number-gt-MAX_KEY.false)) (sym c.in_default.ensures.refused),
  inl (sym (has_none c.args.self.now.held (sym c.in_default.ensures.refused))),
)
