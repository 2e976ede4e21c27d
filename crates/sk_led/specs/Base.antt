-- The names of other crates, and of the types of this one, that definitions and clauses cite. Declares nothing.
pub use Rattle.sk_batched.specs.Batched.{next_refused}
pub use Rattle.sk_batched.specs.declared.batched.Outcome.TheVariants.{Logged}
pub use Rattle.sk_batches.specs.Calls.{word_refused}
pub use Rattle.sk_batches.specs.Frames.{frame_refused}
pub use Rattle.sk_batches.specs.Places.{next_segment}
pub use Rattle.sk_batches.specs.Queue.{cut_due, decided, in_flight, is_failed, next_records}
pub use Rattle.sk_batches.specs.Records.{RecordView, payload}
pub use Rattle.sk_batches.specs.declared.batch.Batch.{Batch}
pub use Rattle.sk_batches.specs.declared.batch.Stage.TheVariants.{Failed, Synced}
pub use Rattle.sk_batches.specs.declared.frames.Sealed.{Sealed}
pub use Rattle.sk_batches.specs.declared.refusal.Refusal.{Refusal}
pub use Rattle.sk_batches.specs.declared.refusal.Refusal.TheVariants.{Busy, Full, Memory, NoCut, NoNumber, Nothing, Short, Stopped}
pub use Rattle.sk_channels.specs.Table.{channel_at}
pub use Rattle.sk_channels.specs.declared.channel.Channel.{Channel}
pub use Rattle.sk_channels.specs.declared.inlet.Ask.{Ask}
pub use Rattle.sk_commands.specs.Requests.{log_text}
pub use Rattle.sk_commands.specs.declared.work.Answer.{Answer}
pub use Rattle.sk_commands.specs.declared.work.Work.{Work}
pub use Rattle.sk_durable.specs.Calls.{Call, Carries, Connects, Cuts, Decides, Does, Draws, Learns, Rests, Sends, Serves, Tells, Turns}
pub use Rattle.sk_durable.specs.History.{Command, entries, frames, logged, past, stands, stands_on, synced}
pub use Rattle.sk_durable.specs.Laws.{HasDone, IsGone, IsLogged, IsRecovered}
pub use Rattle.sk_durable.specs.Posts.{HasNoneReady}
pub use Rattle.sk_durable.specs.Store.{StoreView, first_answer, has_refusals}
pub use Rattle.sk_durable.specs.declared.limits.Limits.{Limits}
pub use Rattle.sk_durable.specs.declared.store.Next.{Next}
pub use Rattle.sk_engine.specs.Moves.{Happens, Has, HasDecided, Move, Reads, Runs as Moves, ServesFrom, WasLost, WasSynced, World, batch_of, new_world, owner_of, whole}
pub use Rattle.sk_engine.specs.Newest.{Calls, HostDoes, Hosted, Step, WasSent, new_hosted}
pub use Rattle.sk_engine.specs.Rounds.{CarriesOut, IsHeld, RoundCall, RoundDoes, may_tell}
pub use Rattle.sk_plain_store.specs.Plain.{Entries}
pub use Rattle.sk_record.specs.Notes.{has}
pub use Rattle.sk_replay.specs.Frames.{SayAll}
pub use Rattle.sk_replay.specs.Snapshot.{after_works}
pub use Rattle.sk_served.specs.Plain.{entries_after}
pub use Rattle.sk_served.specs.Served.{Asked, Entry, Runs}
pub use Rattle.std.specs.List.{Contains, list_any}
