pub mod Carried
pub mod Everywhere
pub mod Laws
pub mod Places
pub mod Ranked
