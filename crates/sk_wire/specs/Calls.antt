-- What the calls of a wire answer, of the pass before and after.
use Rattle.std.specs.Prelude.{◌≡◌, ℕ, true, Option, Some, None, Result, Ok, Err}
use Rattle.crossbeam_queue.specs.Fifo.{Held}
use Rattle.sk_wire.specs.declared.rule.PassView.{PassView}
use Rattle.sk_wire.specs.declared.wire.TheConstants.{WIRE_LIMIT}
use Rattle.sk_wire.specs.Rule.{with_sent, with_received, IsLeft, IsNext}

module _ {T : Type 0} where
  -- an item is sent; or it comes back where the wire held as many as it can at one moment, and nothing changes
  abbrev pub PushPost : {U : Type 0} → Result U T → T → PassView T → PassView T → Type 0
  PushPost (Ok _) item old new = new ≡ with_sent old item
  PushPost (Err back) item old new = (back ≡ item) × (new ≡ old) × Held WIRE_LIMIT (IsLeft old)

module _ {T : Type 0} (number_of : T → ℕ) where
  -- the next item is received; or none, and nothing changes: a pass that sends too knows that all was received
  abbrev pub PopPost : Option T → PassView T → PassView T → Type 0
  PopPost (Some x) old new = (new ≡ with_received old x) × IsNext number_of old x
  PopPost None old new = (new ≡ old) × (old.sends ≡ true → old.sent ≡ old.received)
