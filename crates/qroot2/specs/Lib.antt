pub mod Wide
pub mod Num
pub mod Dir
pub mod Root
pub mod Lowest
pub mod Text
pub mod Digits
