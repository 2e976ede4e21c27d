-- What happened, and how many more events there is room for.
use Rattle.std.specs.Prelude.{ℕ, List}
use Rattle.std.specs.Coded.{Coded}
use Rattle.sk_trace.specs.declared.event.Event.{Event}
use Rattle.sk_trace.specs.contracts.event.Event as event

-- a trace, as it is seen: its events, and how many more it has room for
pub record TraceView : Type 0 where
  pub events : List Event
  pub room : ℕ

abbrev pub event_code : Coded Event
event_code = event.the_row.coded
