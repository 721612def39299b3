mod Modes
pub mod Numbers
mod PinsStatuses
mod RouteStatuses
mod SnapStatuses
mod Statuses
