-- Helped: the control of a descriptor that is helped is read again.
-- Fitting: entries of which each fits behind the one before are those of a descriptor.
-- Failing: what a K-CAS that failed says of the acts of all workers.
-- ReadsBack: what a read says of them.
-- OwnChanges: a worker reads its own changes back.

pub mod Helped
mod Fitting
mod Failing
mod ReadsBack
mod OwnChanges
