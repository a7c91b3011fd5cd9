-- Why the calls on bytes keep their contracts.
-- words stored as bytes and loaded from them, one after the other; the answers of the lower crates as numbers and bytes
mod Stored
mod Loaded
mod Crossing
mod CountsCross
mod DrawsCross
mod RacesCross
-- a script that is loaded and saved comes back
mod RoundTrip
