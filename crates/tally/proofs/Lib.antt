-- Why the counts are those of the rules' own turns.
mod FateLaws
mod CountLaws
