pub mod CodeLines
pub mod Faults
pub mod LabelOrder
pub mod LabelPlaces
pub mod LabelValues
pub mod TextStandsFor
