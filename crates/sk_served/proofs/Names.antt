-- What the proofs of this crate cite from outside of them, passed on from one place. Declares nothing.
pub use Rattle.std.proofs.Common.{Some, ℤ, filter, Bool, subst, inr, slice_get, ap, ◌++◌, length, suc, false, refl, []}
pub use Rattle.std.proofs.Common.{map, T, count_by, Ok, ◌∷◌, Err, inl, ◌&&◌, ◌≡◌, Option, List, bytes_eq, IsOk, ◌||◌, ℕ}
pub use Rattle.std.proofs.Common.{true, drop, sym, None, is_some, if◌then◌else◌, ◌<◌, nat_le, Result, ◌∙◌, not, cond}
pub use Rattle.std.proofs.lemmas.Bool.{or_right, or_from, or_parts, eqb-true, true≢false, or_cases, false_from_ne_true}
pub use Rattle.std.proofs.lemmas.Bool.{or_left, false≢true, not-true}
pub use Rattle.std.proofs.lemmas.List.{append_assoc, append-nil}
pub use Rattle.std.proofs.lemmas.List.Folds.{list_any-append}
pub use Rattle.std.proofs.lemmas.List.Sums.{length-filter}
pub use Rattle.std.proofs.lemmas.Slice.Eq.{bytes_eq-Decides}
pub use Rattle.std.specs.Cmp.{IsTotalOrder}
pub use Rattle.std.specs.FinMap.{get, put, IsAntisymmetric, is_sorted, FinMap}
pub use Rattle.std.specs.FinMap.Entries.{is_sorted-put, below_all, find-put, by_order, where_key, find-where_key}
pub use Rattle.std.specs.FinMap.Entries.{is_sorted-where_key, same_entries}
pub use Rattle.std.specs.List.{fold, list_any, AllByRecursion}
pub use Rattle.std.specs.List.Sorted.{IsStrictlySortedBy}
pub use Rattle.std.specs.Option.{option_map}
pub use Rattle.std.specs.Ordering.{eq_by_cmp, is_lt}
pub use Rattle.std.specs.Prelude.{zero, ◌==◌, ◌+ℤ◌}
pub use Rattle.std.specs.Vec.{vec_items}
pub use Rattle.std.specs.declared.cmp.Ordering.{Ordering}
pub use Rattle.std.specs.declared.cmp.Ordering.TheVariants.{Equal, Less, Greater}
pub use Rattle.sk_commands.proofs.Alone.{work_alone as alone_work}
pub use Rattle.sk_commands.proofs.Asked.{act_does}
pub use Rattle.sk_commands.proofs.Unwritten.{nothing_done}
pub use Rattle.sk_commands.specs.Law.{act as works}
pub use Rattle.sk_commands.specs.Numbers.{fitting}
pub use Rattle.sk_commands.specs.Table.{Have, counts, replies, set_reply, flushed, there, may_set, joined, puts}
pub use Rattle.sk_commands.specs.Table.{pairs_of, number_at, counted, begins_with, set, is_among, present, removals}
pub use Rattle.sk_commands.specs.Table.{bytes_of, listed, Written, Outcome, added}
pub use Rattle.sk_commands.specs.Work.{with_value, each, wants_all, followed, after as written_after, comes_to}
pub use Rattle.sk_commands.specs.Work.{with_known, may_write_some, known_after, looks_at, answered}
pub use Rattle.sk_commands.specs.declared.command.Command.{Command}
pub use Rattle.sk_commands.specs.declared.command.Command.TheVariants.{Set, MSet, FlushAll, Append, KeysWith, Add, Del}
pub use Rattle.sk_commands.specs.declared.command.Command.TheVariants.{DbSize}
pub use Rattle.sk_commands.specs.declared.fault.Fault.TheVariants.{TooLong}
pub use Rattle.sk_commands.specs.declared.reply.Reply.{Reply}
pub use Rattle.sk_commands.specs.declared.reply.Reply.TheVariants.{Error, Array}
pub use Rattle.sk_commands.specs.declared.run.TheConstants.{VALUE_LIMIT}
pub use Rattle.sk_commands.specs.declared.work.Answer.{Answer}
pub use Rattle.sk_commands.specs.declared.work.Work.{Work}
pub use Rattle.sk_deeds.proofs.Runs.{one, first}
pub use Rattle.sk_deeds.proofs.Told.{fails_told, commits_told, stands_told, takes_told}
pub use Rattle.sk_deeds.specs.Deed.{asking, effect_of}
pub use Rattle.sk_deeds.specs.Moves.{Moves, Starts}
pub use Rattle.sk_deeds.specs.Told.{told_more, with_told, moves_of, Told, Does, Tells, Call}
pub use Rattle.sk_plain_store.proofs.Kept.{bytes_total, stays_in_order, tied_is, bytes_same, knows, holds_written}
pub use Rattle.sk_plain_store.specs.Plain.{keys_of, bytes_cmp, Entries, written_to, held}
pub use Rattle.sk_replay.specs.Snapshot.{after_work, after_works}
pub use Rattle.sk_record.proofs.Chains.{dirt_is, in_from}
pub use Rattle.sk_record.proofs.Later.{SameOff, dirtied_other, any_same, dirtied_same}
pub use Rattle.sk_record.proofs.Machine.{own_dirt, has_filter, nil_right}
pub use Rattle.sk_record.proofs.Merged.{merged_run}
pub use Rattle.sk_record.proofs.Runs.{AgreeOn, same_accepted, Alike}
pub use Rattle.sk_record.proofs.Sets.{get-put_all_same, get-put, none_of_both, get-put_all_other}
pub use Rattle.sk_record.proofs.Sound.{fresh_from, sound_before, undecided_is, entries_are, record_more, each_event}
pub use Rattle.sk_record.proofs.Texts.{map_append}
pub use Rattle.sk_record.proofs.Tidy.{recorded_more}
pub use Rattle.sk_record.proofs.UndoStates.{and_both}
pub use Rattle.sk_record.specs.Effects.{writes, touches, hit, itself, MarkedEffect, is_marked, dirt, dirtied, Dep, keep}
pub use Rattle.sk_record.specs.Effects.{fed, hits, is_in}
pub use Rattle.sk_record.specs.Machine.{Machine, IsPlainRun}
pub use Rattle.sk_record.specs.Merged.{MergedStands}
pub use Rattle.sk_record.specs.Notes.{has, without}
pub use Rattle.sk_record.specs.Release.{said_by, said_from}
pub use Rattle.sk_record.specs.Run.{effects, marked_effect, System, after, run, outcome, IsLegal, put_all}
pub use Rattle.sk_record.specs.Step.{with_read, Step, Effect, Done, Ask, Refuse, perform}
pub use Rattle.sk_record.specs.Strike.{strike, struck}
pub use Rattle.sk_record.specs.Trace.{IsTagOf, Taken, Event, Record, marks, no_record, record_after, IsSound}
pub use Rattle.sk_record.specs.Trace.{still_marked, Commit, all_recorded, recorded, Fail, record_of, IsFresh}
pub use Rattle.sk_reserved.specs.Keys.{is_reserved, batch_key}
pub use Rattle.sk_served.specs.Calls.{IsProper, Kernel, StoreCalls}
pub use Rattle.sk_served.specs.Known.{HasNoReserved, LeaveOutNothing, KnowsAll, AreTold, IsTold}
pub use Rattle.sk_served.specs.Laws.{HoldsSame}
pub use Rattle.sk_served.specs.Names.{NoneTakenNamesReserved, NamesNoReserved, names_reserved, command_names_reserved}
pub use Rattle.sk_served.specs.Plain.{writing, replies_to, entry_after, entries_after}
pub use Rattle.sk_served.specs.Plain.{reply_to}
pub use Rattle.sk_served.specs.Served.{Opens, Runs, Entry, mark, batch_keys, served, act, logged, Asked, deed}
