pub mod ClassWork
pub mod FunctionResults
pub mod HeaderViews
pub mod JoinedRuns
pub mod SymbolViews
