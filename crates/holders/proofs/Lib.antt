-- Why the count told is the stored one.
mod Asked
