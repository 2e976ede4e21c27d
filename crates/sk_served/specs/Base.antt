-- The names of other crates, and of the types of this one, that definitions and clauses cite. Declares nothing.
pub use Rattle.sk_commands.specs.Law.{act as works}
pub use Rattle.sk_commands.specs.Table.{Have, asks, is_among, pairs_of}
pub use Rattle.sk_commands.specs.Work.{comes_to, looks_at, may_write_some, wants_all}
pub use Rattle.sk_commands.specs.declared.command.Command.{Command}
pub use Rattle.sk_commands.specs.declared.command.Command.TheVariants.{MSet, Set}
pub use Rattle.sk_commands.specs.declared.work.Answer.{Answer}
pub use Rattle.sk_commands.specs.declared.work.Work.{Work}
pub use Rattle.sk_deeds.specs.Deed.{Deed, asking, effect_of}
pub use Rattle.sk_deeds.specs.Moves.{Moves, Starts}
pub use Rattle.sk_deeds.specs.Told.{Call, Does, TakenOut, Tells, Told, moves_of, told_more, with_told}
pub use Rattle.sk_plain_store.specs.Plain.{Entries, Runs as Carries, bytes_cmp, held, keys_of}
pub use Rattle.sk_record.specs.Effects.{Dep}
pub use Rattle.sk_record.specs.Machine.{IsPlainRun, Machine}
pub use Rattle.sk_record.specs.Release.{said_from}
pub use Rattle.sk_record.specs.Run.{System, after, effects, outcome, run}
pub use Rattle.sk_record.specs.Step.{Ask, Done, Refuse, Step, perform}
pub use Rattle.sk_record.specs.Trace.{Commit, Event, Fail, IsSound, IsTagOf, Taken, record_of}
pub use Rattle.sk_record.specs.UndoState.{tags_at}
pub use Rattle.sk_replay.specs.Snapshot.{after_work, after_works}
pub use Rattle.sk_reserved.specs.Keys.{batch_key, is_reserved}
pub use Rattle.std.specs.Cmp.Lexicographic.{slice_cmp}
pub use Rattle.std.specs.FinMap.{FinMap, get, is_sorted}
pub use Rattle.std.specs.List.{AllByRecursion, list_any}
pub use Rattle.std.specs.List.Sorted.{IsStrictlySortedBy}
pub use Rattle.std.specs.Option.{option_map}
pub use Rattle.std.specs.Ordering.{nat_cmp}
pub use Rattle.std.specs.Vec.{vec_items}
