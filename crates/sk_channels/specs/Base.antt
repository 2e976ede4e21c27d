-- The names of other crates, and of the types of this one, that definitions and clauses cite. Declares nothing.
pub use Rattle.sk_channels.specs.declared.channel.Channel.{Channel}
pub use Rattle.sk_channels.specs.declared.inlet.Ask.{Ask}
pub use Rattle.sk_channels.specs.declared.inlet.Ask.TheVariants.{Do, Reject}
pub use Rattle.sk_channels.specs.declared.inlet.Asked.{Asked}
pub use Rattle.sk_channels.specs.declared.inlet.Fed.{Fed}
pub use Rattle.sk_channels.specs.declared.inlet.Inlet.{Inlet}
pub use Rattle.sk_channels.specs.declared.outlet.Outlet.{Outlet}
pub use Rattle.sk_channels.specs.declared.refusal.Refusal.{Refusal}
pub use Rattle.sk_channels.specs.declared.refusal.Refusal.TheVariants.{Full, Memory, NoTicket}
pub use Rattle.sk_channels.specs.declared.rejection.Rejection.{Rejection}
pub use Rattle.sk_channels.specs.declared.table.Channels.{Channels}
pub use Rattle.sk_commands.specs.Names.{name_of}
pub use Rattle.sk_commands.specs.Parsing.{order_of}
pub use Rattle.sk_commands.specs.Session.{spoilt, turn, weighed}
pub use Rattle.sk_commands.specs.declared.fault.Fault.TheVariants.{Unknown}
pub use Rattle.sk_commands.specs.declared.name.Name.{Name}
pub use Rattle.sk_commands.specs.declared.session.Session.{Session}
pub use Rattle.sk_commands.specs.declared.reply.Reply.TheVariants.{Error, Text}
pub use Rattle.sk_commands.specs.declared.session.Queue.{Queue}
pub use Rattle.sk_commands.specs.declared.work.Work.TheVariants.{Say}
pub use Rattle.sk_requests.specs.Faults.{HasFault}
pub use Rattle.sk_requests.specs.Reading.{words_of}
pub use Rattle.sk_requests.specs.Replies.{error_text}
pub use Rattle.sk_requests.specs.Stream.{HasRead, IsPart, Splits}
pub use Rattle.sk_requests.specs.declared.fault.Fault.{Fault}
pub use Rattle.sk_requests.specs.declared.limits.Limits.{Limits}
pub use Rattle.sk_requests.specs.declared.reader.Found.{Found}
pub use Rattle.slab.specs.Slab.{get, with_value}
pub use Rattle.std.specs.Borrow.{LendsIf, sem}
pub use Rattle.std.specs.List.{AllByRecursion}
pub use Rattle.std.specs.Option.{option_copied, option_copied_mut}
pub use Rattle.std.specs.Vec.{vec_items}
