-- What can be said of a call that reads or writes, and of what is told where it fails.
pub mod Counted
pub mod Told
