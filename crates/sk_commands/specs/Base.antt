-- The names of other crates, and of the types of this one, that definitions and clauses cite. Declares nothing.
pub use Rattle.sk_commands.specs.declared.command.Command.{Command}
pub use Rattle.sk_commands.specs.declared.command.Command.TheVariants.{Add, Append, DbSize, Del, Echo, Exists, FlushAll, Get, KeysWith, MGet, MSet, Ping, Set, StrLen, Wrong}
pub use Rattle.sk_commands.specs.declared.command.Options.{Options}
pub use Rattle.sk_commands.specs.declared.command.Order.{Order}
pub use Rattle.sk_commands.specs.declared.command.Order.TheVariants.{Discard, Exec, Multi, Run}
pub use Rattle.sk_commands.specs.declared.command.When.{When}
pub use Rattle.sk_commands.specs.declared.fault.Fault.{Fault}
pub use Rattle.sk_commands.specs.declared.fault.Fault.TheVariants.{Aborted, DiscardAlone, ExecAlone, Nested, NotInteger, Overflow, Pattern, Syntax, TooLong, Unknown, WrongNumber}
pub use Rattle.sk_commands.specs.declared.name.Name.{Name}
pub use Rattle.sk_commands.specs.declared.name.Name.TheVariants.{Decr, DecrBy, GetSet, Incr, IncrBy, Keys}
pub use Rattle.sk_commands.specs.declared.name.TheConstants.{NAMES}
pub use Rattle.sk_commands.specs.declared.reply.Reply.{Reply}
pub use Rattle.sk_commands.specs.declared.reply.Reply.TheVariants.{Array, Bulk, Error, Integer, Null, Rejected, Simple, Text}
pub use Rattle.sk_commands.specs.declared.reply.Word.{Word}
pub use Rattle.sk_commands.specs.declared.run.TheConstants.{VALUE_LIMIT}
pub use Rattle.sk_commands.specs.declared.session.Queue.{Queue}
pub use Rattle.sk_commands.specs.declared.work.Answer.{Answer}
pub use Rattle.sk_commands.specs.declared.work.Work.{Work}
pub use Rattle.sk_commands.specs.declared.work.Work.TheVariants.{Each, One, Say}
pub use Rattle.sk_deeds.specs.Deed.{Deed, effect_of}
pub use Rattle.sk_record.specs.Run.{System}
pub use Rattle.sk_record.specs.Step.{Ask, Done, Step, perform}
pub use Rattle.sk_requests.specs.Replies.{array_text, bulk_text, error_text, integer_text, null_text, simple_text}
pub use Rattle.sk_requests.specs.Request.{IsWithin, array, bulks}
pub use Rattle.sk_requests.specs.Stream.{Splits}
pub use Rattle.sk_requests.specs.declared.limits.Limits.{Limits}
pub use Rattle.std.specs.Char.{to_ascii_lowercase}
pub use Rattle.std.specs.Cmp.Lexicographic.{slice_cmp}
pub use Rattle.std.specs.FinMap.Entries.{by_order}
pub use Rattle.std.specs.Fmt.{signed_decimal}
pub use Rattle.std.specs.Global.{Vec}
pub use Rattle.std.specs.List.{AllByRecursion, list_any, starts_with}
pub use Rattle.std.specs.List.Sorted.{IsStrictlySortedBy}
pub use Rattle.std.specs.Option.{option_copied}
pub use Rattle.std.specs.Ordering.{nat_cmp}
pub use Rattle.std.specs.Str.Parse.{signed_digits_value}
pub use Rattle.std.specs.Vec.{vec_capacity, vec_items, vec_len}
pub use Rattle.std.specs.declared.alloc.AllocError.{AllocError}
