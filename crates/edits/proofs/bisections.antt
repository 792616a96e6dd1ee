-- Where a bisector may begin, and that it is an extension.
pub mod AnyAlong
pub mod Bisected
