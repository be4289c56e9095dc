pub mod Cache
pub mod PageLends
pub mod SlotLends
pub mod Slots
