-- A file in slots of blocks.
use Rattle.std.specs.Prelude.{◌≡◌, ℕ, ◌*◌, ◌≤◌, List, length, slice_index}
use Rattle.sk_objects.specs.Blocks.{joined, AreBlocks}

-- from so many bytes on there are zeros alone
abbrev pub IsZeroFrom : ℕ → List ℕ → Type 0
IsZeroFrom n f = (i : ℕ) → n ≤ i → slice_index f i ≡ 0

-- the slots of a file of so many bytes
pub record AreSlots (slots : List (List ℕ)) (size : ℕ) : Type 0 where
  pub few : length slots ≤ 64
  pub blocks : AreBlocks slots
  pub covers : size ≤ 512 * length slots
  pub rest : IsZeroFrom size (joined slots)

-- the slots of a file of so many bytes, with room for all slots that may be
pub record AreTidySlots (slots : List (List ℕ)) (size room : ℕ) : Type 0 where
  pub are : AreSlots slots size
  pub keeps : 64 ≤ room
