mod Clashing
mod Placing
mod Telling
mod Writing
