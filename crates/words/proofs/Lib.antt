pub mod Heads
pub mod Leaves
pub mod Rooms
pub mod Slots
