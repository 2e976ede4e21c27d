-- The names of other crates, and of the types of this one, that definitions and clauses cite. Declares nothing.
pub use Rattle.sk_commands.specs.declared.work.Work.{Work}
pub use Rattle.sk_log.specs.Crash.{Crashed, ReadsPrefix}
pub use Rattle.sk_log.specs.Frame.{Ends}
pub use Rattle.sk_log.specs.Front.{BeginsAs, SaysNumber}
pub use Rattle.sk_log.specs.Log.{AreFrames, IsLog, log}
pub use Rattle.sk_log.specs.Reading.{HasRead}
pub use Rattle.sk_log.specs.Segments.{joined, synced_of}
pub use Rattle.sk_log.specs.declared.recovery.End.{End}
pub use Rattle.sk_log.specs.declared.recovery.Rest.{Rest}
pub use Rattle.sk_plain_store.specs.Plain.{Entries, bytes_cmp}
pub use Rattle.sk_recovered.specs.declared.frames.Damage.{Damage}
pub use Rattle.sk_recovered.specs.declared.frames.Frames.{Frames}
pub use Rattle.sk_recovered.specs.declared.frames.Place.{Place}
pub use Rattle.sk_recovered.specs.declared.heads.Head.{Head}
pub use Rattle.sk_recovered.specs.declared.recovered.Found.{Found}
pub use Rattle.sk_recovered.specs.declared.recovered.Recovered.{Recovered}
pub use Rattle.sk_recovered.specs.declared.segment.Segment.{Segment}
pub use Rattle.sk_replay.specs.Frames.{AreLogged, SayAll, payloads_of, works_in}
pub use Rattle.sk_replay.specs.Snapshot.{IsPiece, after_works}
pub use Rattle.sk_replay.specs.Works.{IsRefused, log_limits}
pub use Rattle.sk_replay.specs.declared.refusal.Refusal.TheVariants.{Memory}
pub use Rattle.std.specs.FinMap.{is_sorted}
pub use Rattle.std.specs.List.{slice_get}
pub use Rattle.std.specs.Option.{option_map, option_map_or}
pub use Rattle.std.specs.declared.alloc.AllocError.{AllocError}
