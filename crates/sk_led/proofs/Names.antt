-- What the proofs of this crate cite from outside of them, passed on from one place. Declares nothing.
pub use Rattle.std.proofs.lemmas.Option.{none-some}
pub use Rattle.std.proofs.Common.{ap, Some, ◌++◌, length, Bool, append_assoc, ℕ, subst, inr, true, ◌∷◌, sym, None, inl}
pub use Rattle.std.proofs.Common.{suc, zero, ◌≤◌, ◌≡◌, take, ◌-◌, ◌+◌, false, Option, ◌<◌, arith, refl, List, [], ◌∙◌}
pub use Rattle.std.proofs.Common.{◌==◌, map, ◌||◌, cond, not, drop, Ok, Err, rules, ◌^◌, Result}
pub use Rattle.std.proofs.lemmas.Bool.{or_right, or_left, or_cases, true≢false, false≢true, eq-eqb, eqb-true, ltb-true}
pub use Rattle.std.proofs.lemmas.Bool.{ltb-false, lt-ltb, not_from_false, false_from_ne_true, leb-false, and_parts}
pub use Rattle.std.proofs.lemmas.Bool.{not-true}
pub use Rattle.std.proofs.lemmas.List.{append-nil, length-append, length-map, length-take-le, take-append-drop}
pub use Rattle.std.proofs.lemmas.List.{take-map, take-append-le, take-take}
pub use Rattle.std.proofs.lemmas.List.Elements.{Contains-append_cases, Contains-append_left}
pub use Rattle.std.proofs.lemmas.List.Folds.{list_any-append}
pub use Rattle.std.specs.Prelude.{slice_get, ◌⊎◌, ◌≢◌, if◌then◌else◌, nat_lt, is_some, nat_le}
pub use Rattle.std.specs.List.{list_any, filter, AllByRecursion, Contains}
pub use Rattle.sk_batched.specs.declared.batched.Outcome.TheVariants.{Logged}
pub use Rattle.sk_batches.proofs.Dense.{all_mapped, all_pushed, dense_at}
pub use Rattle.sk_batches.proofs.Names.{NUMBER_LIMIT}
pub use Rattle.sk_batches.proofs.Synced.{decided_synced, failed_unkept}
pub use Rattle.sk_batches.specs.Dense.{AreDense, IsAtCut, IsRange}
pub use Rattle.sk_batches.specs.Queue.{after_cut, awaits, cut_due, cut_off, first_failed, is_decided, is_failed}
pub use Rattle.sk_batches.specs.Queue.{is_kept, is_sent, last_in, left, open_batch, past, send, tell, QueueView}
pub use Rattle.sk_batches.specs.Queue.{decided as queue_decided, after_take, after_word, decision_of, is_awaited}
pub use Rattle.sk_batches.specs.Queue.{next_records}
pub use Rattle.sk_batches.specs.Records.{payload, RecordView, kept as kept_records_of}
pub use Rattle.sk_batches.specs.Runs.{no_story, synced_after}
pub use Rattle.sk_batches.specs.declared.batch.Batch.{Batch}
pub use Rattle.sk_batches.specs.declared.batch.Stage.{Stage}
pub use Rattle.sk_batches.specs.declared.batch.Stage.TheVariants.{Kept, Sent, Synced, Failed, Refused}
pub use Rattle.sk_batches.specs.declared.queue.Cut.{Cut}
pub use Rattle.sk_commands.specs.Requests.{log_text}
pub use Rattle.sk_commands.specs.declared.work.Work.{Work}
pub use Rattle.sk_durable.proofs.ChannelLaws.{channels_let_go_just_what_may, tickets_are_told_right}
pub use Rattle.sk_durable.proofs.Channels.{connected, waits_at}
pub use Rattle.sk_durable.proofs.Contained.{at_first, first_or_later, from_filter, from_map, nothing_there, to_filter}
pub use Rattle.sk_durable.proofs.Contained.{to_map, at_later}
pub use Rattle.sk_durable.proofs.Crashes.{crashes_are_recovered}
pub use Rattle.sk_durable.proofs.Cuts.{any_has, has_any}
pub use Rattle.sk_durable.proofs.Names.{first_of, is_struck, kept, numbers, released, resting_among}
pub use Rattle.sk_durable.proofs.OnDisk.{logged_is_on_disk}
pub use Rattle.sk_durable.proofs.Queued.{cut_is_range, queued, stands_densely, synced_upto}
pub use Rattle.sk_durable.proofs.Records.{oldest_of, in_frames}
pub use Rattle.sk_durable.proofs.Served.{between}
pub use Rattle.sk_durable.proofs.Since.{said_since}
pub use Rattle.sk_durable.proofs.Tickets.{Output}
pub use Rattle.sk_durable.specs.Calls.{Call, Carries, Connects, Cuts, Decides, Learns, Sends, Tells, Serves}
pub use Rattle.sk_durable.specs.Calls.{Does as StoreDoes, Draws, Rests, Turns}
pub use Rattle.sk_durable.specs.History.{synced_from, frames_by, synced, synced_by, frames_from, frames, carried}
pub use Rattle.sk_durable.specs.History.{entries, failed, is_logged, logged, stands, Command, cut_off as cut_off_in}
pub use Rattle.sk_durable.specs.Laws.{HasAll, HasDone, IsLogged, IsRecovered}
pub use Rattle.sk_durable.specs.Store.{has_refusals, StoreView}
pub use Rattle.sk_durable.specs.declared.limits.Limits.{Limits}
pub use Rattle.sk_durable.specs.declared.store.Next.{Next}
pub use Rattle.sk_engine.proofs.Newest.{told_is_newest}
pub use Rattle.sk_engine.proofs.RoundRuns.{stilled, told_behind_a_round}
pub use Rattle.sk_engine.proofs.Runs.{sent_there, decided_stays, run, decided_is_read}
pub use Rattle.sk_engine.proofs.Sound.{IsSound, HasPut}
pub use Rattle.sk_engine.proofs.Steps.{order, new_sound, both_there}
pub use Rattle.sk_engine.specs.Moves.{new_world, whole, World, HasDecided, WasSynced, owner_of, batch_of, Happens, Move}
pub use Rattle.sk_engine.specs.Moves.{Runs as Moves}
pub use Rattle.sk_engine.specs.Newest.{new_hosted, Acts, Asks, Calls, Hosted, HostDoes, HostRuns, Rides, Step, WasSent}
pub use Rattle.sk_engine.specs.Rounds.{may_tell, CarriesOut, Holds, Loses, RoundCall, RoundDoes, RoundRuns, RoundsView}
pub use Rattle.sk_engine.specs.Rounds.{Takes}
pub use Rattle.sk_led.specs.Host.{called, connects, Act, AllActs, Does, Goes, Host, RepliesAreNewest}
pub use Rattle.sk_led.specs.Laws.{RepliesRestOnEngine, LeadersGoOn, LoggedIsInEngine, AreOf, IsInEngine, NobodyWaits}
pub use Rattle.sk_led.specs.Laws.{RefusedIsNowhere}
pub use Rattle.sk_led.specs.Led.{AreUncut, IsGivenUp, IsLeading, IsLed, IsWoundUp, NoneSynced}
pub use Rattle.sk_led.specs.Order.{OneOrder}
pub use Rattle.sk_plain_store.specs.Plain.{Entries}
pub use Rattle.sk_replay.specs.Frames.{SayAll}
pub use Rattle.sk_replay.specs.Snapshot.{after_works}
pub use Rattle.sk_replay.specs.Works.{log_limits, Says}
pub use Rattle.sk_served.specs.Plain.{entries_after, entry_after}
pub use Rattle.sk_served.specs.Served.{Asked, Entry, Runs}
pub use Rattle.sk_record.specs.Notes.{has}
pub use Rattle.sk_batches.specs.Calls.{word_refused, cause_of as queue_cause_of}
pub use Rattle.sk_batches.specs.Places.{next_segment, PlacesView}
pub use Rattle.sk_batches.specs.declared.queue.Decision.{Decision}
pub use Rattle.sk_batches.specs.declared.refusal.Refusal.{Refusal}
pub use Rattle.sk_batched.specs.Batched.{next_refused, AfterNoFrame, Stays, MayBegin}
pub use Rattle.sk_led.specs.Winding.{any_failed, AreLast, DoesLast, DecidesAll, FailPost, IsAgainst, TakePost}
pub use Rattle.sk_led.specs.Winding.{WindUpPost, WoundUpIsLed}
pub use Rattle.std.specs.Option.{option_or}
pub use Rattle.sk_batches.specs.Frames.{frame_refused}
pub use Rattle.sk_batches.specs.declared.frames.Sealed.{Sealed}
pub use Rattle.sk_channels.specs.Table.{place_at}
pub use Rattle.sk_durable.proofs.Calls.{all_stays, serves_on}
pub use Rattle.sk_durable.specs.Posts.{CutPost, FramePost, TurnPost}
pub use Rattle.std.proofs.lemmas.Result.{err_from_is_err_and}
