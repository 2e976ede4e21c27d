-- What the proofs of this crate cite from outside of them, passed on from one place. Declares nothing.
pub use Rattle.std.proofs.lemmas.Option.{same_Some, none-some}
pub use Rattle.std.proofs.Common.{Some, Bool, subst, inr, zero, ◌^◌, ◌-◌, arith, ap, ◌++◌, length, length-append, suc}
pub use Rattle.std.proofs.Common.{◌≤◌, take, false, refl, [], ◌==◌, map, ◌∷◌, inl, Err, ◌≡◌, ◌+◌, Option, List, ℕ, true}
pub use Rattle.std.proofs.Common.{sym, None, if◌then◌else◌, min, ◌<◌, flat_map, ◌∙◌, nat_lt, cond}
pub use Rattle.std.proofs.lemmas.Bool.{or_right, lt-ltb, eqb-true, ltb-true, ltb-false, and_from, true≢false, or_cases}
pub use Rattle.std.proofs.lemmas.Bool.{false_from_ne_true, false≢true, eq-eqb, and_parts, or_from, or_left}
pub use Rattle.std.proofs.lemmas.List.{length-take, length-take-le, take-take, take_all, append_assoc, length-map}
pub use Rattle.std.proofs.lemmas.List.{take-append-le, map-append, take-map, take_at, append-nil}
pub use Rattle.std.specs.Int.NonZero.{non_zero_u16_get}
pub use Rattle.std.specs.List.{filter, list_any, AllByRecursion}
pub use Rattle.std.specs.Prelude.{unwrap_or, ◌⊎◌, nat_le}
pub use Rattle.sk_batched.specs.Batched.{capped}
pub use Rattle.sk_batches.proofs.Dense.{all_pushed, frames_are_dense, all_both, all_mapped, all_of, cut_between}
pub use Rattle.sk_batches.proofs.Synced.{sent_unkept, due_cut, decided_synced}
pub use Rattle.sk_batches.specs.Calls.{new_queue}
pub use Rattle.sk_batches.specs.Dense.{AreDense, IsBehind}
pub use Rattle.sk_batches.specs.Frames.{next_payload}
pub use Rattle.sk_batches.specs.Places.{PlacesView, next_segment}
pub use Rattle.sk_batches.specs.Queue.{last_in, is_kept, is_sent, is_failed, past, is_decided, left, awaits, QueueView}
pub use Rattle.sk_batches.specs.Queue.{cut_due, tell, send, first_failed, cut_off}
pub use Rattle.sk_batches.specs.Records.{payload, kept, RecordView}
pub use Rattle.sk_batches.specs.Runs.{Story, story_after, Runs, Fails, Appends, has, Happens, Withdraws, Takes}
pub use Rattle.sk_batches.specs.Runs.{no_story, Syncs}
pub use Rattle.sk_batches.specs.declared.batch.Batch.{Batch}
pub use Rattle.sk_batches.specs.declared.batch.Stage.{Stage}
pub use Rattle.sk_batches.specs.declared.batch.Stage.TheVariants.{Failed, Synced, Kept, Refused, Sent}
pub use Rattle.sk_batches.specs.declared.queue.Cut.{Cut}
pub use Rattle.sk_commands.specs.Requests.{requests_of, AreWithin, AreAsked, log_text}
pub use Rattle.sk_commands.specs.declared.work.Work.{Work}
pub use Rattle.sk_crashed.specs.Disk.{AreTried, IsLeft, AreAdded, AreLeft, Stored}
pub use Rattle.sk_crashed.specs.Laws.{DisksAreRecovered, IsFront, PlacesAreBehind, AreKept, LivesAreRecovered}
pub use Rattle.sk_crashed.specs.Laws.{FramesAreBehind, IsLeftOf, SnapshotsAreRecovered, SnapshotsStandFor, StandsFor}
pub use Rattle.sk_crashed.specs.Written.{cut_at, live, written, now_in, run, end_of, synced_in, turned, least_of}
pub use Rattle.sk_crashed.specs.Written.{left_by, with_frame, begun, written_from, Written, written_by}
pub use Rattle.sk_durable.proofs.Crashes.{crashes_are_recovered, frames_are_logged}
pub use Rattle.sk_durable.proofs.Frames.{Marked}
pub use Rattle.sk_durable.proofs.Queued.{stands_densely, queue_led}
pub use Rattle.sk_durable.proofs.Records.{after_any, in_frames}
pub use Rattle.sk_durable.specs.Calls.{Frees, Hands, Draws, Connects, Declines, HangsUp, Hears, Rests, Learns, Drops}
pub use Rattle.sk_durable.specs.Calls.{Turns, Cuts, Refuses, Decides, Does, Carries, Stops, Tells, Call, Sends}
pub use Rattle.sk_durable.specs.History.{frames, frames_by, frames_from, synced}
pub use Rattle.sk_durable.specs.Laws.{IsRecovered, AreSynced, HasDone}
pub use Rattle.sk_durable.specs.Store.{StoreView}
pub use Rattle.sk_durable.specs.declared.limits.Limits.{Limits}
pub use Rattle.sk_durable.specs.declared.store.Next.{Next}
pub use Rattle.sk_log.proofs.Crash.{crash_keeps_prefix}
pub use Rattle.sk_log.proofs.Once.{same_log, length_log}
pub use Rattle.sk_log.proofs.Segments.{segments_join}
pub use Rattle.sk_log.specs.Crash.{Crashed, ReadsPrefix}
pub use Rattle.sk_log.specs.Front.{BeginsAs}
pub use Rattle.sk_log.specs.Log.{IsLog, log}
pub use Rattle.sk_log.specs.Segments.{SegmentsJoin, synced_of}
pub use Rattle.sk_log.specs.declared.frame.TheConstants.{NUMBER_LIMIT}
pub use Rattle.sk_plain_store.specs.Plain.{Entries}
pub use Rattle.sk_recovered.proofs.Joined.{counted_joined}
pub use Rattle.sk_recovered.proofs.Taken.{after_append}
pub use Rattle.sk_recovered.specs.Frames.{IsMade}
pub use Rattle.sk_recovered.specs.Laws.{CountedIsJoined, joined_all, least_first, AreBounded, joined_at}
pub use Rattle.sk_recovered.proofs.Crashed.{untold as told_none}
pub use Rattle.sk_recovered.specs.Frames.{capped as told_most}
pub use Rattle.sk_recovered.specs.Recovered.{place_of, EndsIn, IsFound}
pub use Rattle.sk_recovered.specs.Segments.{AreRead, IsPart, least, counting, Part, below, counted, lower, reached, Reached}
pub use Rattle.sk_recovered.specs.Segments.{Stands, TellsFirst}
pub use Rattle.sk_recovered.specs.declared.frames.Place.{Place}
pub use Rattle.sk_recovered.specs.declared.frames.Damage.{Damage}
pub use Rattle.sk_recovered.specs.declared.heads.Head.{Head}
pub use Rattle.sk_recovered.specs.declared.recovered.Found.{Found}
pub use Rattle.sk_replay.proofs.Again.{says_once, says_again, read_as, not_refused}
pub use Rattle.sk_replay.specs.Frames.{AreLogged, payloads_of, SayAll}
pub use Rattle.sk_replay.specs.Snapshot.{after_works}
pub use Rattle.sk_replay.specs.Works.{IsRefused, log_limits, Says}
