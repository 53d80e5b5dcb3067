pub mod AppendLaws
pub mod RoomLaws
