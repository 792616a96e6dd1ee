pub mod FoldText
