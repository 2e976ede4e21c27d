-- What is seen of an event that is lent.
use Rattle.sk_trace.specs.declared.world_event.WorldEvent.{WorldEvent}
use Rattle.sk_trace.specs.declared.world_event.EventRef.{EventRef}

-- the event that is lent
abbrev pub event_in : EventRef → WorldEvent
event_in (EventRef.Turn pid) = WorldEvent.Turn pid.now
event_in EventRef.Serve = WorldEvent.Serve
event_in EventRef.Reply = WorldEvent.Reply
event_in (EventRef.Edit name expected bytes) = WorldEvent.Edit name.now expected bytes.now
