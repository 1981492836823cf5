-- CodeLemmas: rows as numbers in binary digits.
-- MergeLemmas: rows of some lists and of others, row by row.
-- RankingLemmas: two rankings of the same counts are one.
-- RowLemmas: rows of numbers: one more, those of one list, and what they are of all lists.
-- SelectedLemmas: which numbers are wanted, and what is made of lists, by rows.
-- SumLemmas: the tallies of all combinations add up.
-- TallyLemmas: how many numbers stand in just these lists.

mod CodeLemmas
mod MergeLemmas
mod RankingLemmas
mod RowLemmas
mod SelectedLemmas
mod SumLemmas
mod TallyLemmas
