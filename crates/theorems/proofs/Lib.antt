-- What is proved of the definitions and no code relies on. Theorems gathers what holds of every accepted script.

-- the starred cases, and the cases that another order or reading would change, computed
mod Computing
mod Cases
mod Readings
-- a form written as its line reads as that form
mod ShownForms
-- and a text of such lines as these lines
mod ShownTexts
-- a number tells its fault
mod FaultNumbers
-- each word fits in 16 bits; a state's words tell it
mod SmallWords
mod WordsTell
-- a copied graph is the source's, its numbers renamed
mod MetPlaces
mod Copies
-- a message is its sender's until it is received
mod LaterStates
mod InFlight
-- an iso object has at most one holder
mod OneHolders
-- an accepted text without the word unsafe is read to a program without it
mod NoUnsafes
-- two roots never both reach an object that is not imm
mod Roots
mod RootSteps
mod Separations
mod NoRaces
-- how long a drawing can be
mod DrawingLengths
-- capabilities play no part in a report
mod ReportLaws
-- the stripped script's text is accepted unless it is too long
mod StrippedReads
mod Theorems
