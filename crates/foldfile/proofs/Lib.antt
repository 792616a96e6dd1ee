pub mod OneFoldText
pub mod Joined
