-- A word whose front lies in the first half.
use Rattle.std.proofs.Common.{ℕ, List, ◌++◌, Option, Some, None}

-- the halves, of which the first begins with these bytes
abbrev pub behind : List ℕ → Option (List ℕ × List ℕ) → Option (List ℕ × List ℕ)
behind front None = None
behind front (Some h) = Some (front ++ h.0, h.1)
