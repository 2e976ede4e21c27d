-- What a proof over the kernel over own keys cites, so that callers name one crate.
pub use Rattle.sk_speculator.proofs.Law as OwnLaw
