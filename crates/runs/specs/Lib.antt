pub mod Books
pub mod Holds
pub mod Lives
pub mod Promise
pub mod Replies
