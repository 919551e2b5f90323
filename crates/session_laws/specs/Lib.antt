pub mod Named
pub mod Small
pub mod Numbers
pub mod SentOver
