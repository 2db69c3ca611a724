pub mod Places
pub mod Replying
pub mod Asking
