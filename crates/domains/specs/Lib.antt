pub mod Asked
pub mod Duties
pub mod Faults
pub mod Pairs
pub mod Replies
pub mod Pairing
pub mod Texts
