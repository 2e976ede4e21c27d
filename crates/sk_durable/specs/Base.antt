-- The names of other crates, and of the types of this one, that definitions and clauses cite. Declares nothing.
pub use Rattle.sk_batched.specs.Batched.{BatchedView, Begins, DecidePost, IsEmpty, Logs, NextPost, Stays, capped, is_full, is_touched}
pub use Rattle.sk_batched.specs.Refused.{refusal_of}
pub use Rattle.sk_batched.specs.declared.batched.Outcome.{Outcome}
pub use Rattle.sk_batched.specs.declared.batched.Outcome.TheVariants.{Logged as LoggedBatch, Refused}
pub use Rattle.sk_batched.specs.declared.refusal.Refusal.{Refusal as Batches}
pub use Rattle.sk_batches.specs.Calls.{append_refused, new_queue, word_refused}
pub use Rattle.sk_batches.specs.Frames.{next_payload}
pub use Rattle.sk_batches.specs.Places.{PlacesView, next_segment, places_at}
pub use Rattle.sk_batches.specs.Queue.{after_cut, after_word, cut_due, in_flight, is_refused, next_records, undecided}
pub use Rattle.sk_batches.specs.Records.{RecordView, payload}
pub use Rattle.sk_batches.specs.Runs.{synced_after}
pub use Rattle.sk_batches.specs.declared.batch.Stage.{Stage}
pub use Rattle.sk_batches.specs.declared.batch.Stage.TheVariants.{Failed, Synced}
pub use Rattle.sk_batches.specs.declared.frames.Sealed.{Sealed}
pub use Rattle.sk_batches.specs.declared.queue.Cut.{Cut}
pub use Rattle.sk_batches.specs.declared.refusal.Refusal.{Refusal as Queued}
pub use Rattle.sk_bytes.specs.Steps.{byte_deed}
pub use Rattle.sk_bytes.specs.Told.{ByteView}
pub use Rattle.sk_bytes.specs.declared.bytes.TheConstants.{KEY_LIMIT}
pub use Rattle.sk_channels.specs.Hearing.{posed_ticket, word_at}
pub use Rattle.sk_channels.specs.Rejections.{rejection_words}
pub use Rattle.sk_channels.specs.Serving.{HasServed}
pub use Rattle.sk_channels.specs.Table.{KeepsAll, channel_at, place_at, with_channel}
pub use Rattle.sk_channels.specs.Telling.{Told, refused_up_to}
pub use Rattle.sk_channels.specs.declared.channel.Channel.{Channel}
pub use Rattle.sk_channels.specs.declared.inlet.Ask.{Ask}
pub use Rattle.sk_channels.specs.declared.inlet.Ask.TheVariants.{Do, Reject}
pub use Rattle.sk_channels.specs.declared.refusal.Refusal.{Refusal as Channels}
pub use Rattle.sk_commands.specs.Faults.{words_of}
pub use Rattle.sk_commands.specs.Requests.{log_text}
pub use Rattle.sk_commands.specs.Table.{Have, counts}
pub use Rattle.sk_commands.specs.Texts.{answer_text}
pub use Rattle.sk_commands.specs.Work.{comes_to, may_write_some, wants_all, with_known}
pub use Rattle.sk_commands.specs.declared.command.Command.TheVariants.{DbSize}
pub use Rattle.sk_commands.specs.declared.fault.Fault.TheVariants.{Unknown}
pub use Rattle.sk_commands.specs.declared.reply.Reply.TheVariants.{Rejected, Text}
pub use Rattle.sk_commands.specs.declared.work.Answer.{Answer}
pub use Rattle.sk_commands.specs.declared.work.Work.{Work}
pub use Rattle.sk_commands.specs.declared.work.Work.TheVariants.{One, Say}
pub use Rattle.sk_deeds.specs.Deed.{Deed}
pub use Rattle.sk_durable.specs.declared.limits.Limits.{Limits}
pub use Rattle.sk_durable.specs.declared.refusal.NotDone.{NotDone}
pub use Rattle.sk_durable.specs.declared.refusal.NotDone.TheVariants.{LongKey, TooMany}
pub use Rattle.sk_durable.specs.declared.refusal.Refusal.{Refusal}
pub use Rattle.sk_durable.specs.declared.refusal.Refusal.TheVariants.{DecisionDue, Full, Memory, NoChannel, NoTicket}
pub use Rattle.sk_durable.specs.declared.store.End.{End}
pub use Rattle.sk_durable.specs.declared.store.Fed.{Fed}
pub use Rattle.sk_durable.specs.declared.store.Next.{Next}
pub use Rattle.sk_durable.specs.declared.works.Asker.{Asker}
pub use Rattle.sk_guesses.specs.Kept.{none_drawn}
pub use Rattle.sk_index.specs.Index.{bytes_cmp}
pub use Rattle.sk_log.specs.Frame.{frame}
pub use Rattle.sk_outputs.specs.Said.{first_of, said_at}
pub use Rattle.sk_plain_store.specs.Plain.{Entries, held}
pub use Rattle.sk_record.specs.Effects.{is_marked}
pub use Rattle.sk_record.specs.Machine.{released}
pub use Rattle.sk_record.specs.Notes.{has}
pub use Rattle.sk_record.specs.Trace.{Commit, Event, Fail}
pub use Rattle.sk_record.specs.UndoState.{numbers, tags_at}
pub use Rattle.sk_replay.specs.Frames.{SayAll}
pub use Rattle.sk_replay.specs.Snapshot.{after_work, after_works}
pub use Rattle.sk_requests.specs.Replies.{error_text}
pub use Rattle.sk_requests.specs.declared.limits.Limits.{Limits as Requests}
pub use Rattle.sk_reserved.specs.Keys.{is_reserved}
pub use Rattle.sk_rests.specs.Logged.{Logged, failed_in, kept}
pub use Rattle.sk_served.specs.Known.{HasNoReserved, LeavesOut}
pub use Rattle.sk_served.specs.Names.{names_reserved}
pub use Rattle.sk_served.specs.Plain.{entries_after, replies_to}
pub use Rattle.sk_served.specs.Served.{Asked, Entry, Opens, Runs, deed}
pub use Rattle.sk_slots.specs.Slots.{log_at, look_at}
pub use Rattle.sk_speculator.specs.Calls.{Takes}
pub use Rattle.sk_speculator.specs.Law.{TakesOut}
pub use Rattle.sk_speculator.specs.Parts.{undo_state_of}
pub use Rattle.sk_speculator.specs.WholeStep.{WholeStep}
pub use Rattle.std.specs.FinMap.{is_sorted}
pub use Rattle.std.specs.Global.{Vec}
pub use Rattle.std.specs.Int.NonZero.{non_zero_u16_get}
pub use Rattle.std.specs.List.{AllByRecursion, Contains, filter, list_any, slice_get}
pub use Rattle.std.specs.Option.{option_copied, option_map, option_or}
pub use Rattle.std.specs.Vec.{vec_items}
