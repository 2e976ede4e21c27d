-- What the two passes of a wire know, and the rule that joins it to what the wire holds.
use Rattle.std.specs.Prelude.{length, ◌≡◌, ℕ, ◌+◌, ◌≤◌, ◌<◌, Bool, true, false, List, [], ◌∷◌, ◌++◌}
use mathlib.Core.Option.{some}
use lib.ListN.{get_elem?}
use Rattle.sk_wire.specs.declared.rule.PassView.{PassView}
use Rattle.sk_wire.specs.declared.rule.TheConstants.{WIRE_ITEMS}

module _ {T : Type 0} where
  abbrev pub known : Bool → Bool → ℕ → List T → List T → PassView T
  known sends receives first sent received = record { sends = sends; receives = receives; first = first; sent = sent; received = received }

  -- the sending and the receiving pass of a new wire
  abbrev pub sender : ℕ → PassView T
  sender first = known true false first [] []

  -- the receiving pass of a new wire
  abbrev pub receiver : ℕ → PassView T
  receiver first = known false true first [] []

  -- one item more was sent
  abbrev pub with_sent : PassView T → T → PassView T
  with_sent v x = known v.sends v.receives v.first (v.sent ++ x ∷ []) v.received

  -- one item more was received
  abbrev pub with_received : PassView T → T → PassView T
  with_received v x = known v.sends v.receives v.first v.sent (v.received ++ x ∷ [])

  -- the sending pass with what the receiving one knows
  abbrev pub joined : PassView T → PassView T → PassView T
  joined sending receiving = known true true sending.first sending.sent receiving.received

  -- the wire holds these items, as far as a sending pass knows: they are the end of what was sent; where it receives too, all that was not received
  abbrev pub IsLeft : PassView T → List T → Type 0
  IsLeft v items = (received : List T) × (v.sent ≡ received ++ items) × (v.receives ≡ true → received ≡ v.received)

  -- one pass may send and knows all that was sent; one may receive and knows all that was received
  abbrev pub KnowsAll : ℕ → ℕ → ℕ → List T → List T → ℕ → PassView T → Type 0
  KnowsAll sender receiver first sent received pass v =
      (v.sends ≡ true → (pass ≡ sender) × (v.first ≡ first) × (v.sent ≡ sent))
      × (v.receives ≡ true → (pass ≡ receiver) × (v.first ≡ first) × (v.received ≡ received))

module _ {T : Type 0} (number_of : T → ℕ) where
  -- the numbers of the items follow one another from n on
  abbrev pub AreNumbered : ℕ → List T → Type 0
  AreNumbered n [] = Unit {0}
  AreNumbered n (x ∷ xs) = (number_of x ≡ n) × AreNumbered (n + 1) xs

  -- the item that follows those that were received
  abbrev pub IsNext : PassView T → T → Type 0
  IsNext v x = (number_of x ≡ v.first + length v.received) × (number_of x < v.first + WIRE_ITEMS)

  -- what was sent is what was received and then what the wire holds, and it is numbered from `first` on
  abbrev pub IsInTurn : List T → List (PassView T) → Type 0
  IsInTurn items views =
      (sender : ℕ) × (receiver : ℕ) × (first : ℕ) × (sent : List T) × (received : List T)
      × (sent ≡ received ++ items) × AreNumbered first sent × (length sent ≤ WIRE_ITEMS)
      × ((pass : ℕ) (v : PassView T) → get_elem? views pass ≡ some v → KnowsAll sender receiver first sent received pass v)
