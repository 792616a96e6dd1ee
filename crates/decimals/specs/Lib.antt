pub mod Decimal
pub mod Cutting
pub mod DecimalText
pub mod DecimalPoint
