-- What a word has to be: the readings of operands, as they are defined for scripts and sections.
use Rattle.std.specs.Prelude.{ℕ, Bool, true, false, List, ◌||◌, Result, Ok, Err, codes, bytes_eq}
use Rattle.sk_script.specs.Base.{FaultKind, integer, natural, positive, index, short, name, label, pid, literal, Form}
use Rattle.sk_script.specs.Registers.{register}

-- whether a word says something
abbrev pub is_said : {A : Type 0} → Result A FaultKind → Bool
is_said (Ok a) = true
is_said (Err e) = false

-- the first words of inputs with a content
abbrev pub brings_content : List ℕ → Bool
brings_content word = bytes_eq (codes "fresh") word || bytes_eq (codes "stale") word

-- the first words of inputs
abbrev pub is_input : List ℕ → Bool
is_input word = (bytes_eq (codes "none") word || bytes_eq (codes "good") word) || brings_content word

-- whether a word has a form
abbrev pub fits : Form → List ℕ → Bool
fits Form.Register word = is_said (register word)
fits Form.Number word = is_said (integer word)
fits Form.Label word = is_said (label word)
fits Form.Literal word = is_said (literal word)
fits Form.Name word = is_said (name word)
fits Form.Index word = is_said (index word)
fits Form.Natural word = is_said (natural word)
fits Form.Short word = is_said (short word)
fits Form.Guess word = is_said (positive word)
fits Form.Process word = is_said (pid word)
fits Form.Input word = is_input word
