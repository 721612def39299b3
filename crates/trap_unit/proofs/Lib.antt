pub mod StaysKnown
