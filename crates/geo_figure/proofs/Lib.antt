pub mod BoundLaws
pub mod ShareLaws
pub mod FrameTurns
pub mod PictureLaws
pub mod OneDrawing
pub mod SomeDrawing
