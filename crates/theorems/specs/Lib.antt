-- What the theorems say of the definitions, where no code's contract says it: to be read beside the request, as the definitions are.

-- the starred cases of document 01, and cases that another order or reading would change
pub mod Cases
pub mod Readings
-- what a copy comes to; messages that are sent and not yet received
pub mod Copies
pub mod InFlight
-- an iso object's one holder
pub mod OneHolder
-- no two roots reach one object that is not imm, where the word unsafe does not occur
pub mod Separation
pub mod NoUnsafe
-- the text of a stripped script
pub mod StrippedScripts
