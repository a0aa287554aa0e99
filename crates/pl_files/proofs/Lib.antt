pub mod Proper
pub mod ExprNames
pub mod StatementNames
pub mod FileNames
pub mod Answering
pub mod OneFile
