pub mod Gathering
pub mod Seeing
pub mod Singles
