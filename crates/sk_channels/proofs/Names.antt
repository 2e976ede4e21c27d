-- What the proofs of this crate cite from outside of them, passed on from one place. Declares nothing.
pub use Rattle.std.proofs.Common.{Some, Bool, subst, ◌≢◌, inr, Ok, ◌∷◌, Err, inl, ◌≡◌, ◌-◌, ◌+◌, Option, arith, List}
pub use Rattle.std.proofs.Common.{get_or, ap, ◌++◌, length, append_assoc, ℕ, true, drop, sym, length-append, None}
pub use Rattle.std.proofs.Common.{is_some, IfSome, ◌≤◌, take, false, ◌<◌, refl, Result, [], ◌∙◌, map}
pub use Rattle.std.proofs.lemmas.Bool.{cases_lt, true≢false, false≢true, iff_false}
pub use Rattle.std.proofs.lemmas.Grind.{flat_map-append}
pub use Rattle.std.proofs.lemmas.List.{drop_all, drop-drop, replicate_more, length-replicate, take-take, flat_map_more}
pub use Rattle.std.proofs.lemmas.List.{length-drop, drop-take, take_all, map-append, take-append-drop, append-nil}
pub use Rattle.std.specs.Prelude.{◌↔◌, IsTrue, ◌⊎◌, ◌||◌, is_none, flat_map}
pub use Rattle.sk_channels.specs.Asking.{AskInTurn, Requests, ComesTo, untold, is_hosts, with_words, asks_of}
pub use Rattle.sk_channels.specs.Asking.{is_for_host, HadMemory}
pub use Rattle.sk_channels.specs.Hearing.{with_posed, Finds, HoldsWith, IsGiven, IsHeard, HasHeard, IsClosed}
pub use Rattle.sk_channels.specs.Hearing.{IsAsked, Feeds, IsOpen, only_posed, WordsAsk}
pub use Rattle.sk_channels.specs.Laws.{AsksAreSaid, with_ask, TicketsInOrder, CutsDontMatter}
pub use Rattle.sk_channels.specs.Serving.{ReplyPost, HasServed, RefusePost}
pub use Rattle.sk_channels.specs.Telling.{refused, refused_up_to, told_text, HasTold, Tells, Told}
pub use Rattle.sk_channels.specs.declared.channel.Channel.{Channel}
pub use Rattle.sk_channels.specs.declared.inlet.Ask.{Ask}
pub use Rattle.sk_channels.specs.declared.inlet.Ask.TheVariants.{Do, Reject}
pub use Rattle.sk_channels.specs.declared.inlet.Asked.{Asked}
pub use Rattle.sk_channels.specs.declared.inlet.Fed.{Fed}
pub use Rattle.sk_channels.specs.declared.inlet.Inlet.{Inlet}
pub use Rattle.sk_channels.specs.declared.outlet.Outlet.{Outlet}
pub use Rattle.sk_channels.specs.declared.refusal.Refusal.{Refusal}
pub use Rattle.sk_channels.specs.declared.refusal.Refusal.TheVariants.{Memory, NoTicket, Full}
pub use Rattle.sk_commands.specs.Names.{name_of}
pub use Rattle.sk_commands.specs.Parsing.{order_named, order_of}
pub use Rattle.sk_commands.specs.Session.{turn, refuses, executes, Turn}
pub use Rattle.sk_commands.specs.declared.command.Command.{Command}
pub use Rattle.sk_commands.specs.declared.command.Order.{Order}
pub use Rattle.sk_commands.specs.declared.command.Order.TheVariants.{Multi, Exec, Discard, Run}
pub use Rattle.sk_commands.specs.declared.fault.Fault.{Fault as Said}
pub use Rattle.sk_commands.specs.declared.fault.Fault.TheVariants.{Unknown}
pub use Rattle.sk_commands.specs.declared.name.Name.{Name}
pub use Rattle.sk_commands.specs.declared.reply.Reply.TheVariants.{Text}
pub use Rattle.sk_commands.specs.declared.session.Queue.{Queue}
pub use Rattle.sk_commands.specs.declared.work.Work.{Work}
pub use Rattle.sk_commands.specs.declared.work.Work.TheVariants.{Say}
pub use Rattle.sk_requests.proofs.Apart.{one_fault}
pub use Rattle.sk_requests.proofs.Arrays.{fault_is_final}
pub use Rattle.sk_requests.proofs.Streams.{go_on, parts_are_none, read_once}
pub use Rattle.sk_requests.specs.Faults.{HasFault}
pub use Rattle.sk_requests.specs.Reading.{words_of}
pub use Rattle.sk_requests.specs.Stream.{Splits, HasFound, HasRead, ReadsOn, IsPart}
pub use Rattle.sk_requests.specs.declared.fault.Fault.{Fault}
pub use Rattle.sk_requests.specs.declared.limits.Limits.{Limits}
pub use Rattle.sk_requests.specs.declared.reader.Found.{Found}
