-- The bytes of replies.
use Rattle.std.specs.Prelude.{ℕ, ℤ, ◌==◌, ◌||◌, if◌then◌else◌, List, [], ◌∷◌, ◌++◌, map}
use Rattle.std.specs.Fmt.{signed_decimal}
use Rattle.sk_requests.specs.Lines.{head}
use Rattle.sk_requests.specs.Request.{bulk}

-- a byte as a line may have it: what would end the line is a space
abbrev pub in_line : ℕ → ℕ
in_line b = if b == 13 || b == 10 then 32 else b

-- a line that begins with this mark
abbrev pub line_text : ℕ → List ℕ → List ℕ
line_text mark text = mark ∷ (map in_line text ++ 13 ∷ 10 ∷ [])

-- a simple string, and an error
abbrev pub simple_text : List ℕ → List ℕ
simple_text text = line_text 43 text

abbrev pub error_text : List ℕ → List ℕ
error_text text = line_text 45 text

-- an integer
abbrev pub integer_text : ℤ → List ℕ
integer_text n = 58 ∷ (signed_decimal n ++ 13 ∷ 10 ∷ [])

-- a string of any bytes, and none
abbrev pub bulk_text : List ℕ → List ℕ
bulk_text bytes = bulk bytes

abbrev pub null_text : List ℕ
null_text = 36 ∷ 45 ∷ 49 ∷ 13 ∷ 10 ∷ []

-- what stands before an array of so many replies
abbrev pub array_text : ℕ → List ℕ
array_text count = head 42 count
