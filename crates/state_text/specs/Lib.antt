pub mod PieceTexts
pub mod Kinds
