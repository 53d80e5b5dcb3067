pub mod RoomLaws
pub mod JobLaws
pub mod OverwriteLaws
pub mod WordLaws
pub mod ByteLaws
pub mod WriteLaws
pub mod AnalyseLaws
