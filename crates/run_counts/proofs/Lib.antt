mod Each
mod EndSlots
mod More
mod Start
mod Sums
mod Threads
