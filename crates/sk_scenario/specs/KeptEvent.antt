-- What is seen of an event of a world that is kept.
use Rattle.sk_scenario.specs.Base.{Coded, EventWords, Turn, Serve, Reply, Edit}
pub use Rattle.sk_trace.specs.declared.world_event.WorldEvent.{WorldEvent}
pub use Rattle.sk_trace.specs.declared.world_event.WorldEvent.TheVariants as events
use Rattle.sk_trace.specs.contracts.world_event.WorldEvent as event

-- the event, with an edit out of its box
abbrev pub event_of : EventWords → WorldEvent
event_of (Turn pid) = events.Turn pid
event_of Serve = events.Serve
event_of Reply = events.Reply
event_of (Edit b) = events.Edit b.value.name b.value.expected b.value.bytes

abbrev pub event_code : Coded WorldEvent
event_code = event.the_row.coded
