-- What a part more makes of the step that is being written.
use Rattle.sk_held.proofs.Names.{◌≡◌, ℕ, Bool, true, false, ◌||◌, List, [], Option, Some, Result, Ok, Err, refl, Vec}
use Rattle.sk_held.proofs.Names.{vec_items, list_any, WholeStep, has_long_key, is_long, Refusal, LongKey, Memory}
use Rattle.sk_held.proofs.Names.{is_long_key, is_long_value, HeldView, PutsPost, WritesPost}

abbrev Bytes : Type 0
Bytes = Vec ℕ

abbrev Write : Type 0
Write = Bytes × Option Bytes

abbrev told : Write → List ℕ × Option Bytes
told w = (vec_items w.0, w.1)

turn : (a b : Bool) → (a || b) ≡ (b || a)
turn true true = refl
turn true false = refl
turn false true = refl
turn false false = refl

-- nothing is left of a step
module _ (step : WholeStep Bytes Bytes Bytes) (looked : step.looked.items ≡ []) (written : step.written.items ≡ []) where
  pub nothing_long : has_long_key step ≡ false
  nothing_long = λ i. list_any is_long (looked i) || list_any (λ w. is_long w.0) (written i)

-- a value that was copied is put
pub puts : (r : Result (Unit {0}) Refusal) (key bytes : List ℕ) (value : Bytes) (old new : HeldView) → value.items ≡ bytes → is_long_key key ≡ false → is_long_value bytes ≡ false
    → WritesPost r key (Some value) old new → PutsPost r key bytes old new
puts (Ok u) key bytes value old new same short fits w = (value, same, w)
puts (Err LongKey) key bytes value old new same short fits w = w
puts (Err Memory) key bytes value old new same short fits w = ((short, fits), w.1)
puts s key bytes value old new same short fits w = absurd w.0
