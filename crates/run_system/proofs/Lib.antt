pub mod Boards
pub mod Ordered
pub mod RanOver
