-- Lemmas that only this crate cites.
mod Counting
mod EntriesOfSteps
mod Holding
mod Noting
mod Touching
mod Unfinished
