-- How many keys have a value.
use Rattle.std.specs.Prelude.{◌≡◌, ℕ, List, Option, is_some, length}
use Rattle.std.specs.List.{IsDistinct}
use Rattle.std.specs.Ordering.{eq_by_cmp}
use Rattle.std.specs.declared.cmp.Ordering.{Ordering}
use Rattle.sk_record.specs.Effects.{is_in}

-- so many keys have a value: just these, each once
pub record HasPresent {K V : Type 0} (R : K → K → Ordering) (look : K → Option V) (count : ℕ) : Type 0 where
  pub keys : List K
  pub once : IsDistinct (eq_by_cmp R) keys
  pub all : (k : K) → is_in R keys k ≡ is_some (look k)
  pub as_many : length keys ≡ count
