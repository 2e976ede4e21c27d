-- What the proofs of this crate cite from outside of them, passed on from one place. Declares nothing.
pub use Rattle.std.proofs.lemmas.Bool.{and_parts}
pub use Rattle.std.proofs.Common.{Some, Bool, subst, unwrap_or, Ok, ◌∷◌, Err, inl, zero, ◌≡◌, ◌^◌, ◌-◌, rules, IfErr}
pub use Rattle.std.proofs.Common.{◌+◌, Option, arith, List, ap, length-drop, ◌++◌, length, ℕ, true, drop, sym}
pub use Rattle.std.proofs.Common.{length-append, None, is_some, suc, ◌≤◌, take, false, ◌<◌, refl, flat_map, Result, []}
pub use Rattle.std.proofs.Common.{◌∙◌, map}
pub use Rattle.std.proofs.Math.Seq.{take-add}
pub use Rattle.std.proofs.lemmas.List.{take_all, append_assoc, take-append-drop, take-map, take_rest, append-nil}
pub use Rattle.std.proofs.lemmas.List.{map_push}
pub use Rattle.std.proofs.lemmas.List.Concat.{flat_map-append}
pub use Rattle.std.proofs.lemmas.Result.{on_ok_weaker}
pub use Rattle.std.specs.FinMap.{is_sorted}
pub use Rattle.std.specs.FinMap.Entries.{below_all, by_order}
pub use Rattle.std.specs.Global.{Vec}
pub use Rattle.std.specs.Ordering.{ordering_reverse, is_lt}
pub use Rattle.std.specs.Vec.{vec_items}
pub use Rattle.std.specs.declared.cmp.Ordering.{Ordering}
pub use Rattle.std.specs.declared.cmp.Ordering.TheVariants.{Greater, Less}
pub use Rattle.sk_commands.proofs.Said.{said_again, says}
pub use Rattle.sk_commands.proofs.Works.{works_again, read_again, waiting}
pub use Rattle.sk_commands.specs.Names.{text_of}
pub use Rattle.sk_commands.specs.Parsing.{order_of}
pub use Rattle.sk_commands.specs.Requests.{work_for, IsSaid, with_work, IsAsked, AreWithin, requests_of, AreAsked}
pub use Rattle.sk_commands.specs.Requests.{AreSaid, words_for, log_text}
pub use Rattle.sk_commands.specs.Session.{turn}
pub use Rattle.sk_commands.specs.declared.command.Command.{Command}
pub use Rattle.sk_commands.specs.declared.command.Order.{Order}
pub use Rattle.sk_commands.specs.declared.command.Order.TheVariants.{Multi, Exec, Run}
pub use Rattle.sk_commands.specs.declared.fault.Fault.{Fault}
pub use Rattle.sk_commands.specs.declared.reply.Reply.TheVariants.{Error}
pub use Rattle.sk_commands.specs.declared.session.Queue.{Queue}
pub use Rattle.sk_commands.specs.declared.work.Work.{Work}
pub use Rattle.sk_commands.specs.declared.work.Work.TheVariants.{Say}
pub use Rattle.sk_plain_store.proofs.Kept.{bytes_total}
pub use Rattle.sk_plain_store.specs.Plain.{bytes_cmp, Entries, written_at}
pub use Rattle.sk_replay.specs.Frames.{ShortIsWithin, SayAll, AreLogged, payloads_of, FramesRestore, works_in}
pub use Rattle.sk_replay.specs.Snapshot.{set_of, after_works, entries_text, SnapshotsRestore}
pub use Rattle.sk_replay.specs.Works.{HasCarried, fault_in, IsRefusedBehind, IsAgain, log_limits, IsToldOf, queue_after}
pub use Rattle.sk_replay.specs.Works.{AreTaken, IsRead, IsRefused, refused_at, Says, HasCome}
pub use Rattle.sk_replay.specs.declared.channel.Channel.{Channel}
pub use Rattle.sk_replay.specs.declared.payload.Reading.{Reading}
pub use Rattle.sk_replay.specs.declared.refusal.Refusal.{Refusal}
pub use Rattle.sk_requests.proofs.Arrays.{fault_is_final}
pub use Rattle.sk_requests.proofs.Streams.{go_on, line_is_part, request_within, told_once}
pub use Rattle.sk_requests.specs.Faults.{HasFault}
pub use Rattle.sk_requests.specs.Lines.{head}
pub use Rattle.sk_requests.specs.Reading.{words_of}
pub use Rattle.sk_requests.specs.Request.{bulk, array, total, bulks, IsWithin, AreWords}
pub use Rattle.sk_requests.specs.Stream.{Splits, HasFound, EndsWithin, HasRead, ReadsOn, IsTold, IsPart}
pub use Rattle.sk_requests.specs.declared.fault.Refusal.{Refusal as ReaderRefusal}
pub use Rattle.sk_requests.specs.declared.limits.Limits.{Limits}
pub use Rattle.sk_requests.specs.declared.reader.Reader.{Reader}
pub use Rattle.sk_requests.specs.declared.reader.Taken.{Taken}
