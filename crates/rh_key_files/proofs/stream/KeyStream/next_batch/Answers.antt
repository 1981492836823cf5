use Rattle.rh_key_files.proofs.Blame.{rose_to_some, failed_by}
use Rattle.rh_key_files.proofs.stream.KeyStream.next_batch.Goals as goal

pub invariant_of-self-in-Err-clause-blamed : goal.invariant_of-self-in-Err-clause-blamed
invariant_of-self-in-Err-clause-blamed g c = λ is. rose_to_some _ _ (c.in-Err.ensures.reads.counts.rose (failed_by _ _ is))
