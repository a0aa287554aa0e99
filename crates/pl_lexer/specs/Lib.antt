pub mod Answers
pub mod Lexemes
pub mod Printing
pub mod Proper
pub mod Scan
pub mod Tokens
