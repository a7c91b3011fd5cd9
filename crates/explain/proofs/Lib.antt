-- Why a page is what the code writes.
-- lines by their places; the pages
mod LinesBetween
mod PageLines
