pub mod MaybeTypes
pub mod MaybeStatements
pub mod StatementParts
pub mod Enclosed
pub mod Adding
pub mod Operands
