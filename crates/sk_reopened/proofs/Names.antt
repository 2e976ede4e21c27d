-- What the proofs of this crate cite from outside of them, passed on from one place. Declares nothing.
pub use Rattle.std.proofs.Common.{ap, ◌++◌, ◌≡◌, rules, take, ◌+◌, length, false, ◌<◌, arith, Bool, refl, ◌||◌, ℕ, List}
pub use Rattle.std.proofs.Common.{[], subst, true, ◌∙◌, drop, ◌∷◌, sym, map}
pub use Rattle.std.proofs.lemmas.List.{drop_more, drop_all, drop-take}
pub use Rattle.sk_batches.specs.declared.frames.Sealed.{Sealed}
pub use Rattle.sk_commands.specs.declared.work.Work.{Work}
pub use Rattle.sk_durable.specs.Store.{IsNew, StoreView}
pub use Rattle.sk_durable.specs.declared.limits.Limits.{Limits}
pub use Rattle.sk_durable.specs.declared.store.Next.{Next}
pub use Rattle.sk_log.specs.Frame.{frame}
pub use Rattle.sk_plain_store.specs.Plain.{Entries}
pub use Rattle.sk_reopened.specs.Reopened.{is_wrong, has_wrong, head_of, next_of}
pub use Rattle.sk_replay.proofs.Restored.{restored}
pub use Rattle.sk_replay.specs.Snapshot.{set_of, after_works, after_work}
