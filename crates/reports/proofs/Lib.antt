-- Why a report stands in the output.
-- the line of the objects; from the report to what is printed
mod ReachedTexts
mod ReportOutcomes
-- from the drawing to what is printed
mod DrawnOutcomes
-- from the verdict to what is printed
mod RaceOutcomes
