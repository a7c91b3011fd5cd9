-- Why the input that was read is what is printed.
mod Saves
