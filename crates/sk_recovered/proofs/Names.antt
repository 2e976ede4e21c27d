-- What the proofs of this crate cite from outside of them, passed on from one place. Declares nothing.
pub use Rattle.std.proofs.Common.{Some, Bool, add-zero, subst, ◌∷◌, ◌&&◌, Err, zero, ◌≡◌, ◌-◌, ◌+◌, Option, arith, List}
pub use Rattle.std.proofs.Common.{ap, ◌++◌, length, ℕ, true, drop, sym, length-append, None, is_some, suc}
pub use Rattle.std.proofs.Common.{if◌then◌else◌, ◌≤◌, take, false, ◌<◌, refl, flat_map, [], ◌∙◌, nat_lt, ◌==◌, map}
pub use Rattle.std.proofs.lemmas.Bool.{and_parts, ltb-false, eqb-true, lt-ltb, ltb-true, eq-eqb}
pub use Rattle.std.proofs.lemmas.List.{drop_all, drop_more, length-take-le, take_all, append_assoc, length-map, take-append-le}
pub use Rattle.std.proofs.lemmas.List.{map-append, take-append-drop, take-map, take_rest, append-nil}
pub use Rattle.std.proofs.lemmas.Option.{get_or_from_slice_get, slice_get_within, slice_get-get_or, slice_get_past}
pub use Rattle.std.proofs.lemmas.Option.{same_Some}
pub use Rattle.std.proofs.lemmas.Result.{on_ok_weaker}
pub use Rattle.std.specs.List.{slice_get}
pub use Rattle.std.specs.Prelude.{◌⊎◌, ◌^◌, ◌||◌, nat_le, min, IfSome}
pub use Rattle.std.proofs.Common.{inl, inr, rules}
pub use Rattle.std.specs.Option.{option_map}
pub use Rattle.std.specs.Vec.Iter.{into_iter_items}
pub use Rattle.sk_commands.proofs.Said.{says}
pub use Rattle.sk_commands.specs.Names.{text_of}
pub use Rattle.sk_commands.specs.Requests.{AreWithin, requests_of, AreAsked, log_text}
pub use Rattle.sk_commands.specs.declared.work.Work.{Work}
pub use Rattle.sk_log.proofs.Crash.{crash_keeps_prefix}
pub use Rattle.sk_log.proofs.Segments.{segments_join}
pub use Rattle.sk_log.specs.Crash.{Crashed, ReadsPrefix, UsesFront}
pub use Rattle.sk_log.specs.Log.{IsLog, AreFrames, log}
pub use Rattle.sk_log.specs.Reading.{EndsAt, Reading, HasRead, RestIs}
pub use Rattle.sk_log.specs.declared.recovery.End.{End}
pub use Rattle.sk_log.specs.declared.recovery.Rest.{Rest}
pub use Rattle.sk_log.specs.Segments.{joined, synced_of}
pub use Rattle.sk_plain_store.specs.Plain.{Entries}
pub use Rattle.sk_recovered.specs.Crash.{heads_of, AreWritten, synced_in, synced_at, whole_at, bytes_of, whole, Written}
pub use Rattle.sk_recovered.specs.Crash.{CrashesAreRecovered}
pub use Rattle.sk_recovered.specs.Frames.{capped, DamagedAt, HasTaken, with_one, IsMade}
pub use Rattle.sk_recovered.specs.Laws.{CountedIsJoined, CountedIsRestored, joined_all, least_first, AreBounded}
pub use Rattle.sk_recovered.specs.Laws.{joined_at}
pub use Rattle.sk_recovered.specs.Recovered.{drops, length_of, part_of, counted_with, place_of, is_damaged, is_missing}
pub use Rattle.sk_recovered.specs.Recovered.{EndsIn, HasReached, IsFound, IsWithin, HasRecovered}
pub use Rattle.sk_recovered.specs.Segments.{AreRead, counted, least, is_below, lower, counting, Part, below, IsPart}
pub use Rattle.sk_recovered.specs.Segments.{dropped_of, frames_length, reached, reached_by, reached_from, used}
pub use Rattle.sk_recovered.specs.Segments.{used_behind, IsAt, Reached, Stands}
pub use Rattle.sk_recovered.specs.Snapshots.{snapshot_heads, ArePieces, SnapshotsAreRead}
pub use Rattle.sk_recovered.specs.declared.frames.Damage.{Damage}
pub use Rattle.sk_recovered.specs.declared.frames.Frames.{Frames}
pub use Rattle.sk_recovered.specs.declared.frames.Place.{Place}
pub use Rattle.sk_recovered.specs.declared.heads.Head.{Head}
pub use Rattle.sk_recovered.specs.declared.recovered.Found.{Found}
pub use Rattle.sk_recovered.specs.declared.recovered.Recovered.{Recovered}
pub use Rattle.sk_recovered.specs.declared.segment.Segment.{Segment}
pub use Rattle.sk_replay.proofs.Again.{read_as}
pub use Rattle.sk_replay.proofs.Framed.{restore, logged_front}
pub use Rattle.sk_replay.proofs.Restored.{restored}
pub use Rattle.sk_replay.proofs.Short.{short_is_within}
pub use Rattle.sk_replay.specs.Frames.{SayAll, AreLogged, payloads_of, works_in}
pub use Rattle.sk_replay.specs.Snapshot.{set_of, after_works, entries_text, after_work}
pub use Rattle.sk_replay.specs.Works.{log_limits, IsRefused, Says}
