-- What a step that was taken leaves of the buffers that it was handed in with.
use Rattle.std.specs.Prelude.{◌≡◌, [], None}
use Rattle.sk_speculator.specs.Base.{vec_capacity, Step}

-- the buffers of a step are empty, and have their room
pub record IsEmptied {K V O I W U : Type 0} (old new : Step K V O I W U) : Type 0 where
  pub looked : new.looked.items ≡ []
  pub written : new.written.items ≡ []
  pub said : new.said ≡ None
  pub looked_room : vec_capacity new.looked ≡ vec_capacity old.looked
  pub written_room : vec_capacity new.written ≡ vec_capacity old.written
