mod Lists
mod Words
mod Threads
mod Core
mod Memory
mod OwnRows
mod Found
mod Rows
mod Issue
mod Switch
mod Node
pub mod Runs
mod Numbers
pub mod Saved
