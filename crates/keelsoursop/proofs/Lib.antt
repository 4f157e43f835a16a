-- The lemmas by which a journal goes to threads that the caller starts.
pub use Rattle.shared_journal.proofs.Sent
