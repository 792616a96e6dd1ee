-- What becomes of the creases that overlap a segment on which is drawn, erased or recoloured.
pub mod PartEnds
pub mod Overlapping
pub mod CutPieces
pub mod PaintPieces
pub mod CutAll
pub mod StillApart
pub mod StillKeys
pub mod StillPatterns
