-- Lemmas that only this crate cites.
mod Closed
mod Closing
mod Extending
mod Finishing
mod Leading
mod Committing
mod NoRounds
mod OwnCalls
mod TurnMoments
