-- Why the report lists what is reached.
-- what it walks; the message that a waiting sender put
mod ReportSteps
mod Sent
-- the objects listed; the report, and what comes before it
mod Listed
mod Reporting
