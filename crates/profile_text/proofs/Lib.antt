mod Walk
mod Same
