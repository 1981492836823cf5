-- Parts: which parts there are, and what stands in a part of a list.

pub mod Parts
