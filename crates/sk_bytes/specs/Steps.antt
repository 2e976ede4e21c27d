-- A step over byte strings, and the step over numbers that it is handed over as.
use Rattle.std.specs.Prelude.{◌≡◌, ℕ, List, length, map, None}
use Rattle.sk_bytes.specs.Base.{vec_capacity, vec_items, Vec, Deed, WholeStep}
use Rattle.sk_bytes.specs.Numbers.{exchanged}

module _ {V O : Type 0} where
  -- what a step over byte strings did
  abbrev pub byte_deed : WholeStep (Vec ℕ) V O → Deed (List ℕ) V O
  byte_deed step = record
      { looked = map vec_items step.looked.items; written = map (λ w. (vec_items w.0, w.1)) step.written.items; said = step.said }

  -- what a step over numbers did
  abbrev pub deed_in : WholeStep ℕ V O → Deed ℕ V O
  deed_in step = record { looked = step.looked.items; written = step.written.items; said = step.said }

  -- two steps exchange what they write to their keys, and what they say
  pub record Swaps (step : WholeStep (Vec ℕ) V O) (numbered : WholeStep ℕ V O) (left : WholeStep (Vec ℕ) V O) (told : WholeStep ℕ V O) : Type 0 where
    pub looked : left.looked ≡ step.looked
    pub written : left.written.items ≡ exchanged step.written.items numbered.written.items
    pub room : vec_capacity left.written ≡ vec_capacity step.written
    pub said : left.said ≡ numbered.said
    pub told_looked : told.looked ≡ numbered.looked
    pub told_written : told.written.items ≡ exchanged numbered.written.items step.written.items
    pub told_said : told.said ≡ step.said

  -- what is left of a step that is handed over: it gets back what it wrote and said where this is exchanged once more
  pub record IsHandedOver (step left : WholeStep (Vec ℕ) V O) (told : WholeStep ℕ V O) : Type 0 where
    pub looked : left.looked ≡ step.looked
    pub written : exchanged left.written.items told.written.items ≡ step.written.items
    pub same : length left.written.items ≡ length told.written.items
    pub room : vec_capacity left.written ≡ vec_capacity step.written
    pub left_said : left.said ≡ None
    pub said : told.said ≡ step.said

  -- a step has its keys and writes as before, with the room for more, and what it says
  pub record IsAsItWas (old new : WholeStep (Vec ℕ) V O) : Type 0 where
    pub looked : new.looked ≡ old.looked
    pub written : new.written.items ≡ old.written.items
    pub room : vec_capacity new.written ≡ vec_capacity old.written
    pub said : new.said ≡ old.said
