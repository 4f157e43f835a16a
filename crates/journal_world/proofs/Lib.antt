-- The lemmas of this crate that crates above it cite.
pub mod Accepted
pub mod Around
pub mod Batches
pub mod Changes
pub mod Copying
pub mod Credits
pub mod DirectCalls
pub mod DirectRights
pub mod Elements
pub mod Faults
pub mod Fresh
pub mod Fronts
pub mod Histories
pub mod Handles
pub mod HomeCopies
pub mod HomeRights
pub mod Homes
pub mod Images
pub mod Kept
pub mod Lasts
pub mod Left
pub mod LeftToHome
pub mod Legal
pub mod Onward
pub mod OpenHandles
pub mod Openings
pub mod Pending
pub mod Places
pub mod Plain
pub mod Positions
pub mod Promises
pub mod RoundFaults
pub mod RoundPlain
pub mod RoundSteps
pub mod Rounds
pub mod Steps
pub mod Suffixes
pub mod Superblocks
pub mod Tails
pub mod Texts
-- The others.
mod Blocks
mod Chains
mod Committing
mod Due
mod Laps
mod OwnBlocks
mod Releasing
mod Replayed
mod Rounded
mod Starting
