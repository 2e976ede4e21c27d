-- What the proofs of this crate cite from outside of them, passed on from one place. Declares nothing.
pub use Rattle.std.proofs.Common.{Some, subst, rules}
pub use Rattle.std.proofs.Common.{◌≡◌, Option, sym, None}
pub use Rattle.sk_handles.specs.Asked.{CountsKernel}
pub use Rattle.sk_handles.specs.DeskCalls.{desk_kernel}
pub use Rattle.sk_handles.specs.Handles.{Does, Tells as TellsHeld}
pub use Rattle.sk_handles.specs.Reopening.{OpensStore, StoreOpens}
pub use Rattle.sk_handles.specs.StoreCalls.{HangsUp}
pub use Rattle.sk_handles.specs.Told.{opened}
pub use Rattle.sk_handles.specs.declared.client.Client.{Client}
pub use Rattle.sk_handles.specs.declared.reading.Reading.{Reading}
pub use Rattle.sk_durable.specs.Store.{StoreView}
pub use Rattle.sk_talk.specs.Played.{kernel_of}
pub use Rattle.sk_talk.specs.declared.play.Play.{Play}
