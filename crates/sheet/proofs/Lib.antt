-- Why the sheet is what its definition says.
-- the text of a refusal; capabilities that lines name
mod RefusalLaws
mod CapLaws
-- the parts under the ticks
mod PartLaws
-- both runs
mod ExaminedLaws
-- the sheets
mod SheetLaws
