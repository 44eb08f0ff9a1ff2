pub mod BlocksAsked
pub mod Payloads
pub mod OnlySealed
pub mod SealedFrom
pub mod ReadsBack
