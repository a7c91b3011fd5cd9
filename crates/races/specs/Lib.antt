-- What a turn does; what is noted of it; what the races' entry answers.
pub mod Events
pub mod Marks
pub mod Judged
