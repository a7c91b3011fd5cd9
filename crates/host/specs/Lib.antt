-- What a C host gets: words as bytes, the calls on bytes, and the version.
pub mod Bytes
pub mod ByteCalls
pub mod Version
