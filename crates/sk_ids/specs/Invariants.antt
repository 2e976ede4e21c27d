-- What holds of the cells of a name and of a text between their calls.
use Rattle.std.specs.Prelude.{◌≡◌, ◌-◌, ◌≤◌, ℕ, List, length, take, drop, replicate}
use Rattle.sk_ids.specs.Name.{IsName}
use Rattle.sk_ids.specs.declared.name.TheConstants.{NAME_LIMIT}
use Rattle.sk_ids.specs.declared.text.TheConstants.{TEXT_LIMIT}

-- of a name of so many bytes, in these cells
pub record IsTidyName (len : ℕ) (cells : List ℕ) : Type 0 where
  -- the bytes are no more than may be
  pub fits : len ≤ NAME_LIMIT
  -- there is a cell for each byte that may be
  pub count : length cells ≡ NAME_LIMIT
  -- the cells behind the bytes are zeros
  pub zeros : drop len cells ≡ replicate (NAME_LIMIT - len) 0
  -- the bytes are those of a name
  pub named : IsName (take len cells)

-- of a text of so many bytes, in these cells
pub record IsTidyText (len : ℕ) (cells : List ℕ) : Type 0 where
  -- the bytes are no more than may be
  pub fits : len ≤ TEXT_LIMIT
  -- there is a cell for each byte that may be
  pub count : length cells ≡ TEXT_LIMIT
  -- the cells behind the bytes are zeros
  pub zeros : drop len cells ≡ replicate (TEXT_LIMIT - len) 0
