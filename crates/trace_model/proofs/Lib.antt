pub mod SlotOrder
