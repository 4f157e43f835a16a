-- Lemmas that only this crate cites.
mod Dumps
mod Placed
mod PrintingSteps
mod Written
