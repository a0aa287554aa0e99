pub mod Arguments
pub mod BlockLaws
pub mod Drops
mod Examples
pub mod Leasts
pub mod LoadLaws
pub mod Scopes
pub mod ThreadLaws
pub mod SeenLaws
pub mod StmtLaws
pub mod ZipLaws
pub mod ExprRules
pub mod TableLaws
pub mod SourceLaws
pub mod KnownLaws
pub mod WholeLeast
pub mod WholeFound
