-- Whose pass a pass is.
use Rattle.std.specs.Prelude.{◌≡◌, true}
use Rattle.crossbeam_queue.specs.Passes.{Pass, view, IsPassOf}
use Rattle.sk_wire.specs.declared.rule.PassView.{PassView}
use Rattle.sk_wire.specs.declared.wire.Wire.{Wire}

module _ {T : Type 0} where
  -- a pass of this wire that may send
  abbrev pub IsSending : Wire T → Pass T (PassView T) → Type 0
  IsSending wire pass = IsPassOf wire.line pass × ((view pass).sends ≡ true)

  -- a pass of this wire that may receive
  abbrev pub IsReceiving : Wire T → Pass T (PassView T) → Type 0
  IsReceiving wire pass = IsPassOf wire.line pass × ((view pass).receives ≡ true)
