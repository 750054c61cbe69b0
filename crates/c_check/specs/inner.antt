pub mod ItemTyping
pub mod Steps
