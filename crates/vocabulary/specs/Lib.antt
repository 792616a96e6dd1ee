pub mod Names
pub mod Verbs
pub mod Numbers
pub mod Revs
