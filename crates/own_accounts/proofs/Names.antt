-- What the proofs of this crate cite from outside of them, passed on from one place. Declares nothing.
pub use Rattle.hidewillow.proofs.OwnLaw.{runs_whole}
pub use Rattle.own_accounts.specs.Accounts.{accounts}
