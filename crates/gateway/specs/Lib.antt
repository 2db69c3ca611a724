pub mod Gateways
pub mod Limits
pub mod Relays
