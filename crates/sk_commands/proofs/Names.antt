-- What the proofs of this crate cite from outside of them, passed on from one place. Declares nothing.
pub use Rattle.std.proofs.lemmas.Bool.{and_parts, and_from, or_parts, not-true}
pub use Rattle.std.proofs.Common.{fold, Some, ℤ, count_by, filter, Bool, negsuc, FitsSigned, vec_len, subst, neg_ℤ, Ok}
pub use Rattle.std.proofs.Common.{◌∷◌, ◌&&◌, Err, slice_index, ◌≡◌, ◌^◌, ◌-◌, rules, ◌+◌, Option, arith, map, List}
pub use Rattle.std.proofs.Common.{get_or, ap, bytes_eq, ◌++◌, length, ℕ, true, pos, drop, sym, None, is_some, is_err}
pub use Rattle.std.proofs.Common.{suc, OnErr, if◌then◌else◌, ◌≤◌, take, false, ◌<◌, refl, w64, flat_map, Result, []}
pub use Rattle.std.proofs.Common.{◌%◌, ◌∙◌, nat_lt, not, ◌==◌, cond}
pub use Rattle.std.proofs.Math.Seq.{drop-append_seam, get_or-append_seam, take-append_seam}
pub use Rattle.std.proofs.lemmas.Bool.Decides.{same_from_decides, nat_tests}
pub use Rattle.std.proofs.lemmas.Fmt.{IsAscii-signed, parse-signed_decimal, decimal_nonempty, signed_decimal_injective}
pub use Rattle.std.proofs.lemmas.Grind.{flat_map-append}
pub use Rattle.std.proofs.lemmas.Int.{to_z-of_z}
pub use Rattle.std.proofs.lemmas.List.{drop_more, take_all, append_assoc, length-map, take-append-drop, length-append}
pub use Rattle.std.proofs.lemmas.List.{take-map, append-nil}
pub use Rattle.std.proofs.lemmas.Slice.Eq.{bytes_eq-Decides}
pub use Rattle.std.proofs.lemmas.Str.{IsUtf8-from_ascii}
pub use Rattle.std.specs.Borrow.{Bor}
pub use Rattle.std.specs.Cmp.Lexicographic.{slice_cmp}
pub use Rattle.std.specs.FinMap.Entries.{by_order}
pub use Rattle.std.specs.Fmt.{signed_decimal}
pub use Rattle.std.specs.Global.{Vec}
pub use Rattle.std.specs.List.{list_any}
pub use Rattle.std.specs.Option.{SomeIff, option_copied}
pub use Rattle.std.specs.Ordering.{nat_cmp}
pub use Rattle.std.specs.Prelude.{IfNone, find}
pub use Rattle.std.specs.Result.{result_ok}
pub use Rattle.std.specs.Str.{IsUtf8}
pub use Rattle.std.specs.Str.Parse.{ParsesSigned, signed_digits_value}
pub use Rattle.std.specs.Vec.{vec_items, vec_capacity}
pub use Rattle.std.specs.Vec.Iter.{into_iter_len, into_iter_items}
pub use Rattle.std.specs.declared.cmp.Ordering.{Ordering}
pub use Rattle.std.specs.declared.cmp.Ordering.TheVariants.{Equal, Greater, Less}
pub use Rattle.sk_commands.specs.Law.{asking_for, act, deed}
pub use Rattle.sk_commands.specs.Names.{text_of, is_alike}
pub use Rattle.sk_commands.specs.Numbers.{IsNoNumber, number_of, said_as, fits, fitting}
pub use Rattle.sk_commands.specs.Parsing.{add_or, matching, order_for, is_of_prefix, set_of, runs}
pub use Rattle.sk_commands.specs.Parsing.{order_named, front, with_options, order_of, subtract_of, plainly, pairs_for}
pub use Rattle.sk_commands.specs.Parsing.{is_special}
pub use Rattle.sk_commands.specs.Requests.{work_for, least, IsSaid, with_work, WaitsSaid, IsAsked, AreWithin}
pub use Rattle.sk_commands.specs.Requests.{requests_of, IsReplyOrAsked, AreAsked, AreSaid, words_for, log_text}
pub use Rattle.sk_commands.specs.Session.{turn, executes}
pub use Rattle.sk_commands.specs.Table.{is_told_of_all, may_write, Have, counts, begins_with, is_seen, set, is_among}
pub use Rattle.sk_commands.specs.Table.{present, replies, with_key, asks, removals, set_reply, flushed, there, bytes_of}
pub use Rattle.sk_commands.specs.Table.{may_set, told, listed, joined, Written, one_more, pairs_of, deleted, Outcome}
pub use Rattle.sk_commands.specs.Table.{number_at, shown, added, outcome}
pub use Rattle.sk_commands.specs.Texts.{value_text, reply_text}
pub use Rattle.sk_commands.specs.Work.{with_value, may_write_some, each, wants_all, known_after, followed, after}
pub use Rattle.sk_commands.specs.Work.{looks_at, answered, comes_to, with_known}
pub use Rattle.sk_commands.specs.declared.command.Command.{Command}
pub use Rattle.sk_commands.specs.declared.command.Command.TheVariants.{Append, Echo, Exists, Get, KeysWith, Set, MGet}
pub use Rattle.sk_commands.specs.declared.command.Command.TheVariants.{Wrong, Add, Del, MSet, FlushAll, DbSize, StrLen}
pub use Rattle.sk_commands.specs.declared.command.Command.TheVariants.{Ping}
pub use Rattle.sk_commands.specs.declared.command.Options.{Options}
pub use Rattle.sk_commands.specs.declared.command.Order.{Order}
pub use Rattle.sk_commands.specs.declared.command.Order.TheVariants.{Multi, Exec, Discard, Run}
pub use Rattle.sk_commands.specs.declared.command.When.{When}
pub use Rattle.sk_commands.specs.declared.fault.Fault.{Fault}
pub use Rattle.sk_commands.specs.declared.fault.Fault.TheVariants.{Overflow, Pattern, NotInteger}
pub use Rattle.sk_commands.specs.declared.name.Name.{Name}
pub use Rattle.sk_commands.specs.declared.reply.Reply.{Reply}
pub use Rattle.sk_commands.specs.declared.reply.Reply.TheVariants.{Array}
pub use Rattle.sk_commands.specs.declared.session.Queue.{Queue}
pub use Rattle.sk_commands.specs.declared.work.Answer.{Answer}
pub use Rattle.sk_commands.specs.declared.work.Work.{Work}
pub use Rattle.sk_deeds.specs.Deed.{effect_of}
pub use Rattle.sk_record.specs.Step.{with_read, Effect, perform}
pub use Rattle.sk_requests.specs.Replies.{array_text}
pub use Rattle.sk_requests.specs.Request.{bulk, array, bulks}
pub use Rattle.sk_requests.specs.Stream.{Splits}
pub use Rattle.sk_requests.specs.declared.limits.Limits.{Limits}
pub use lib.Signed.{mag}
pub use Rattle.std.proofs.Common.{slice_get, ◌||◌}
pub use Rattle.std.proofs.lemmas.List.Folds.{list_any-append}
pub use Rattle.std.proofs.lemmas.Option.{same_Some}
pub use Rattle.std.specs.BTreeMap.{insert_entry, is_at}
pub use Rattle.std.specs.Cmp.{nat_cmp_total, tied_itself}
pub use Rattle.std.specs.Cmp.Lexicographic.{nat_list_cmp_total}
pub use Rattle.std.specs.FinMap.{slice_cmp-IsAntisymmetric, nat_cmp-IsAntisymmetric}
pub use Rattle.std.specs.Ordering.{eq_by_cmp, is_eq, match_ordering}
pub use Rattle.std.proofs.Common.{zero}
pub use Rattle.std.proofs.lemmas.List.{take_more}
pub use Rattle.std.specs.BTreeSet.{insert_key}
pub use Rattle.std.specs.List.{AllByRecursion}
pub use Rattle.std.specs.List.Sorted.{IsStrictlySortedBy}
pub use Rattle.std.proofs.lemmas.Map.Keys.{sorted_from_all_adjacent}
pub use Rattle.std.specs.Ordering.{ordering_reverse}
pub use Rattle.std.proofs.lemmas.List.{get_or-map}
pub use Rattle.std.proofs.lemmas.Bool.{ltb-true, ltb-false}
pub use Rattle.std.specs.Map.{lookup}
