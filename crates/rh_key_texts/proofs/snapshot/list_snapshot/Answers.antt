use Rattle.rh_snapshot.specs.Reading.{table_as}
use Rattle.rh_key_texts.proofs.Header.{begins}
use Rattle.rh_key_texts.proofs.snapshot.list_snapshot.Goals as goal

pub returns-in_err-keys-clause-memory : goal.returns-in_err-keys-clause-memory
returns-in_err-keys-clause-memory g c = λ memory. begins _ _ table_as c.in_ok-snapshot.snapshot c.in_ok-snapshot.ensures.reads.known
