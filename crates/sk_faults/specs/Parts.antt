-- In which part of a scenario a line stands, by the lines before it.
use Rattle.std.specs.Prelude.{ℕ, ◌-◌, List, [], ◌∷◌, Option, Some, None, codes, bytes_eq, nat_le, if◌then◌else◌}
use Rattle.sk_faults.specs.Base.{words, first_of, is_end, Part}

-- the part that a line among the declarations begins
abbrev pub begun_by : List ℕ → Part
begun_by word =
    if bytes_eq (codes "script") word then Part.Script
    else if bytes_eq (codes "steps") word then Part.Steps
    else if bytes_eq (codes "world") word then Part.World
    else if bytes_eq (codes "trace") word then Part.Trace
    else Part.Declarations

abbrev pub begun : Option (List ℕ × List (List ℕ)) → Part
begun None = Part.Declarations
begun (Some x) = begun_by x.0

-- the part in which the line behind this one stands
abbrev pub part_behind : Part → List ℕ → Part
part_behind Part.Declarations line = begun (first_of (words line))
part_behind Part.Script line = if is_end line then Part.Declarations else Part.Script
part_behind section line = section

-- the line of this number, where the first of these lines has the number 1, and the part in which it stands
abbrev pub line_at : Part → ℕ → List (List ℕ) → Option (Part × List ℕ)
line_at part n [] = None
line_at part n (l ∷ ls) = if nat_le n 1 then Some (part, l) else line_at (part_behind part l) (n - 1) ls
