-- GroupLemmas: what came of consecutive ranges, one after the other.
-- QuestionLemmas: what is answered of lists in ranges of numbers.
-- RoundLemmas: what was written round after round.
-- SpelledLemmas: numbers as they are written, of two lists.

pub mod GroupLemmas
pub mod QuestionLemmas
pub mod RoundLemmas
pub mod SpelledLemmas
