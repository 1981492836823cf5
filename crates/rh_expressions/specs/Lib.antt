pub mod Formulas
pub mod Grammar
pub mod Naming
pub mod Tokens
