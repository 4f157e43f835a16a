mod Held
mod Last
