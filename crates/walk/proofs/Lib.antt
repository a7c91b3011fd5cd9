-- Why the walk meets each object once, in order.
-- the objects met, numbered; the walk, value by value; its list from no object met
pub mod Numbers
pub mod WalkSteps
pub mod FromNothing
