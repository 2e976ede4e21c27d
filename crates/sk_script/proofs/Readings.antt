-- The readings of operands tell no other kind than Operand: each from its definition. For this crate and those above it.
use Rattle.sk_script.proofs.Names.{◌≡◌, ℕ, ◌+◌, ◌*◌, ◌^◌, ◌-◌, ℤ, pos, negsuc, neg_ℤ, List, [], ◌∷◌, Bool, true, false}
use Rattle.sk_script.proofs.Names.{◌==◌, ◌&&◌, Option, Some, None, Result, Ok, Err, nat_lt, nat_le, length, drop}
use Rattle.sk_script.proofs.Names.{slice_index, if◌then◌else◌, refl, list_all, FaultKind, ◌>>=◌, parts, literal}
use Rattle.sk_script.proofs.Names.{at_most_512, text_from, Plain, wrong, below, digits, integer, between, natural}
use Rattle.sk_script.proofs.Names.{positive, index, short, is_name, name, is_label_byte, label, numbered_child, child}
use Rattle.sk_script.proofs.Names.{path_below, path, pid, register, Form, is_said}
use Rattle.sk_words.specs.declared.fault.FaultKind.TheVariants as kinds
use Rattle.sk_script.specs.Forms.{fits}
use Rattle.sk_script.specs.declared.form.Form.TheVariants as forms

abbrev pub OnlyOperand : {A : Type 0} → Result A FaultKind → Type 0
OnlyOperand (Ok a) = Unit {0}
OnlyOperand (Err e) = e ≡ kinds.Operand

-- a word has this form just where the reading says something, and else it tells Operand
abbrev pub IsReading : {A : Type 0} → Form → (List ℕ → Result A FaultKind) → Type 0
IsReading f reading = (word : List ℕ) → (fits f word ≡ is_said (reading word)) × OnlyOperand (reading word)

only_if : {A : Type 0} (t : Bool) (x : A) → OnlyOperand (if t then Ok x else wrong)
only_if true x = tt
only_if false x = refl

only_then : {A B : Type 0} (r : Result A FaultKind) (f : A → Result B FaultKind) → OnlyOperand r → ((a : A) → OnlyOperand (f a)) → OnlyOperand (r >>= f)
only_then (Ok a) f h all = all a
only_then (Err e) f h all = h

only_register : (word : List ℕ) → OnlyOperand (register word)
only_register [] = refl
only_register (r ∷ []) = refl
only_register (r ∷ d ∷ []) = only_if (r == 114 && (nat_le 48 d && nat_le d 55)) (d - 48)
only_register (r ∷ d ∷ e ∷ bs) = refl

only_below : {A : Type 0} (limit : ℕ) (number : ℕ → A) (n : Option ℕ) → OnlyOperand (below limit number n)
only_below limit number None = refl
only_below limit number (Some n) = only_if (nat_lt n limit) (number n)

only_integer : (word : List ℕ) → OnlyOperand (integer word)
only_integer word =
    elim (slice_index word 0 == 45) as (λ (t : Bool). OnlyOperand (if t then below (2 ^ 63 + 1) (λ n. neg_ℤ (pos n)) (digits (drop 1 word)) else below (2 ^ 63) pos (digits word))) [
      | true ↦ only_below (2 ^ 63 + 1) (λ n. neg_ℤ (pos n)) (digits (drop 1 word))
      | false ↦ only_below (2 ^ 63) pos (digits word)
    ]

only_between : (least greatest : ℕ) (z : ℤ) → OnlyOperand (between least greatest z)
only_between least greatest (pos n) = only_if (nat_le least n && nat_le n greatest) n
only_between least greatest (negsuc n) = refl

within : (least greatest : ℕ) (word : List ℕ) → OnlyOperand (integer word >>= between least greatest)
within least greatest word = only_then (integer word) (between least greatest) (only_integer word) (only_between least greatest)

only_name : (word : List ℕ) → OnlyOperand (name word)
only_name word = only_if (is_name word) word

only_label : (word : List ℕ) → OnlyOperand (label word)
only_label word =
    elim (list_all is_label_byte word) as (λ (t : Bool). OnlyOperand (if t then name word else wrong)) [
      | true ↦ only_name word
      | false ↦ refl
    ]

only_long : (r : Result (List ℕ) FaultKind) → OnlyOperand (at_most_512 r)
only_long (Err e) = refl
only_long (Ok t) =
    elim (nat_lt 512 (length t)) as (λ (b : Bool). OnlyOperand {A = List ℕ} (if b then wrong else Ok t)) [
      | true ↦ refl
      | false ↦ tt
    ]

only_literal : (word : List ℕ) → OnlyOperand (literal word)
only_literal [] = refl
only_literal (b ∷ bs) =
    elim (b == 34) as (λ (t : Bool). OnlyOperand (if t then at_most_512 (text_from Plain bs) else wrong)) [
      | true ↦ only_long (text_from Plain bs)
      | false ↦ refl
    ]

only_child : (p : ℕ) (word : List ℕ) → OnlyOperand (child p word)
only_child p word = only_then (index word) (numbered_child p) (within 1 65535 word) (λ n. only_if (nat_lt p (2 ^ 48)) (p * 65536 + n))

only_path_below : (p : ℕ) (ws : List (List ℕ)) → OnlyOperand (path_below p ws)
only_path_below p [] = tt
only_path_below p (w ∷ ws) = only_then (child p w) (λ q. path_below q ws) (only_child p w) (λ q. only_path_below q ws)

only_path : (ws : List (List ℕ)) → OnlyOperand (path ws)
only_path [] = refl
only_path (w ∷ ws) = only_then (index w) (λ n. path_below n ws) (within 1 65535 w) (λ n. only_path_below n ws)

pub reads_register : IsReading forms.Register register
reads_register word = (refl, only_register word)

pub reads_number : IsReading forms.Number integer
reads_number word = (refl, only_integer word)

pub reads_label : IsReading forms.Label label
reads_label word = (refl, only_label word)

pub reads_literal : IsReading forms.Literal literal
reads_literal word = (refl, only_literal word)

pub reads_name : IsReading forms.Name name
reads_name word = (refl, only_name word)

pub reads_index : IsReading forms.Index index
reads_index word = (refl, within 1 65535 word)

pub reads_natural : IsReading forms.Natural natural
reads_natural word = (refl, within 0 9223372036854775807 word)

pub reads_short : IsReading forms.Short short
reads_short word = (refl, within 0 4294967295 word)

pub reads_guess : IsReading forms.Guess positive
reads_guess word = (refl, within 1 9223372036854775807 word)

pub reads_process : IsReading forms.Process pid
reads_process word = (refl, only_path (parts 46 word))
