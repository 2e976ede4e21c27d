-- The outputs that were taken out of their channels and not handed over.
use Rattle.std.specs.Prelude.{◌≡◌, ◌⊎◌, ◌==◌, ◌++◌, ℕ, List, [], ◌∷◌, Option, Some, None, if◌then◌else◌}
use Rattle.std.specs.Global.{Vec}
use Rattle.sk_speculator.specs.Law.{TakesOut}
use Rattle.sk_held.specs.declared.output.Output.{Output}
use Rattle.sk_held.specs.Held.{HeldView}

-- the bytes of the first of a channel
abbrev pub first_of : ℕ → List Output → Option (List ℕ)
first_of t [] = None
first_of t (o ∷ os) = if o.channel == t then Some o.bytes.items else first_of t os

-- all outputs but the first of a channel
abbrev pub but_first : ℕ → List Output → List Output
but_first t [] = []
but_first t (o ∷ os) = if o.channel == t then os else o ∷ but_first t os

-- the next output of a channel is taken out of it
pub record Brings (old : HeldView) (t : ℕ) (new : HeldView) : Type 0 where
  pub output : Vec ℕ
  pub takes : TakesOut old.kernel.parts t output new.kernel.parts
  pub stays : new ≡ record old { kernel = new.kernel; out = old.out ++ record { channel = t; bytes = output } ∷ [] }

-- the next output of a channel is brought where none of it is there and one can go out; else nothing changes
abbrev pub MayBring : HeldView → ℕ → HeldView → Type 0
MayBring old t new = ((first_of t old.out ≡ None) × Brings old t new) ⊎ (new ≡ old)
