-- Nothing here speaks of descriptors, words or threads: the laws take one list of acts, of which each meets its old
-- values, and what each worker read and did. The proofs go from one act (OneAct) to a list of acts (Chain), then to the
-- acts by their keys, with no worker (JoinedLemmas), and at last to the workers' own acts (PhaseLaws) and to lists in
-- another order (SharedLaws).
-- ActLemmas: what an act leaves in each cell.
-- OneAct: what one act makes of a layout.
-- Changing: which acts change a cell, and that the answers count them.
-- Chain: what a list of acts makes of a layout.
-- ListLemmas: lists of acts with more at their end.
-- DoneLemmas: what a worker's done keys say of its acts, and how they grow.
-- FoldLemmas: phases over lists: their sets by members, and their tallies by sizes.
-- JoinedLemmas: a list of acts by its keys, with no worker: it makes what a phase over the keys makes.
-- OwnLemmas: the lists of the workers, joined, and the acts of each in the list of all.
-- SumLemmas: what the workers count, joined.
-- PhaseLemmas: a finished phase of several workers is the phase over their joined lists.
-- PhaseLaws: a finished phase: its cells, its tally and its answers.
-- InOrder: the acts of a phase so far, as a phase over their keys.
-- ShuffleLemmas: the same keys in another order: the phase over them is the same.
-- SharedLaws: lists that are done in rounds, and a list that is shared out.
-- FrontLemmas: acts from what a scan has seen: the part of a front up to its end, and its entries in the order of their cells.

pub mod ActLemmas
pub mod OneAct
pub mod Changing
pub mod DoneLemmas
pub mod FoldLemmas
pub mod Chain
pub mod OwnLemmas
pub mod SumLemmas
pub mod JoinedLemmas
pub mod PhaseLemmas
pub mod PhaseLaws
pub mod ShuffleLemmas
pub mod SharedLaws
pub mod FrontLemmas
pub mod ListLemmas
pub mod InOrder
