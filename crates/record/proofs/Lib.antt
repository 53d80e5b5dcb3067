pub mod RowLaws
pub mod BlockLaws
pub mod LayoutLaws
pub mod KindLaws
pub mod AccessLaws
