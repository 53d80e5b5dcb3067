pub mod HalfLaws
pub mod NeedLaws
pub mod FillLaws
pub mod ColumnLaws
pub mod LiveLaws
