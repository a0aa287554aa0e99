pub mod Adds
pub mod ExprText
pub mod Lists
pub mod Pieces
pub mod ProgramText
pub mod PropText
pub mod StmtText
