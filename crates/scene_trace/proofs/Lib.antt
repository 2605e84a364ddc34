pub mod RoomLaws
pub mod Spaced
pub mod NumbersRead
pub mod ArgumentsRead
pub mod CallsRead
pub mod LinesRead
pub mod SceneRead
