-- What is found behind a first word is what its rule tells: for each count of operands, and for tables of rules.
use Rattle.sk_faults.proofs.Names.{◌≡◌, ℕ, List, [], ◌∷◌, Bool, true, false, ◌||◌, Option, Some, None, Result, Ok, Err}
use Rattle.sk_faults.proofs.Names.{bytes_eq, if◌then◌else◌, refl, list_any, FaultKind, ◌>>=◌, is_open, closed}
use Rattle.sk_faults.proofs.Names.{next_word, no_more, Rule, rule_in, Form, Found, is_said, fits, Table, forms_in}
use Rattle.sk_faults.proofs.Names.{fault_at, or_else, next_index, open_at, count_at, wrong_at, operand_fault, IsOther}
use Rattle.sk_faults.proofs.Names.{Agrees}
use Rattle.sk_words.specs.declared.fault.FaultKind.TheVariants as kinds
use Rattle.sk_words.specs.Operands.{none_of, one_of, both, the_two, two_of, three_of}
use Rattle.sk_faults.specs.declared.found.Why.TheVariants as why
use Rattle.sk_script.proofs.Readings.{OnlyOperand, IsReading}
use Rattle.sk_script.proofs.Shapes.{AllRows}

-- ---- open literals are told first

abbrev OpenSays : Bool → Option Found → Type 0
OpenSays true (Some f) = f.why ≡ why.Open
OpenSays true None = ⊥
OpenSays false (Some f) = ⊥
OpenSays false None = Unit {0}

opens : (index : ℕ) (ws : List (List ℕ)) → OpenSays (list_any is_open ws) (open_at index ws)
opens index [] = tt
opens index (w ∷ ws) =
    elim (is_open w) as (λ (t : Bool). OpenSays (t || list_any is_open ws) (if t then fault_at index why.Open else open_at (next_index index) ws)) [
      | true ↦ refl
      | false ↦ opens (next_index index) ws
    ]

open_told : (A : Type 0) (ws : List (List ℕ)) (o later : Option Found) → OpenSays true o → Agrees {A = A} ws (Err kinds.Operand) (or_else o later)
open_told A ws (Some f) later s = rw s refl
open_told A ws None later s = absurd s

none_told : {A : Type 0} (ws : List (List ℕ)) (o later : Option Found) (r : Result A FaultKind) → OpenSays false o → Agrees ws r later → Agrees ws r (or_else o later)
none_told ws (Some f) later r s h = absurd s
none_told ws None later r s h = h

pub after_open : {A : Type 0} (ws : List (List ℕ)) (body : List (List ℕ) → Result A FaultKind) (later : Option Found) → (list_any is_open ws ≡ false → Agrees ws (body ws) later) → Agrees ws (closed ws >>= body) (or_else (open_at 1 ws) later)
after_open {A} ws body later h =
    elim (list_any is_open ws) as (λ (t : Bool). list_any is_open ws ≡ t → OpenSays t (open_at 1 ws) → Agrees ws ((if t then Err kinds.Operand else Ok ws) >>= body) (or_else (open_at 1 ws) later)) [
      | true ↦ λ e s. open_told A ws (open_at 1 ws) later s
      | false ↦ λ e s. none_told ws (open_at 1 ws) later (body ws) s (h e)
    ] refl (opens 1 ws)

-- ---- one operand, and what is read behind it

pub reads : {A B : Type 0} (f : Form) (reading : List ℕ → Result A FaultKind) (ws : List (List ℕ)) (index : ℕ) (w : List ℕ) (later : Option Found) (rest : Result A FaultKind → Result B FaultKind)
    → IsReading f reading → ((e : FaultKind) → rest (Err e) ≡ Err e) → ((x : A) → Agrees ws (rest (Ok x)) later) → Agrees ws (rest (reading w)) (if fits f w then later else fault_at index (why.Malformed f))
reads f reading ws index w later rest h errs ok =
    let r = h w in
    rw r.0 (elim (reading w) as (λ r. OnlyOperand r → Agrees ws (rest r) (if is_said r then later else fault_at index (why.Malformed f))) [
      | Ok x ↦ λ o. ok x
      | Err e ↦ λ o. rw (errs e) o
    ] r.1)

-- ---- no operand, one, two and three

no_words : (ws : List (List ℕ)) → Agrees ws (no_more ws) (or_else (count_at 1 [] ws) (wrong_at 1 [] ws))
no_words [] = tt
no_words (w ∷ ws) = refl

pub none_agrees : (ws : List (List ℕ)) → Agrees ws (none_of ws) (operand_fault None (Some []) ws)
unfolding none_of
none_agrees ws = after_open ws (λ cs. no_more cs) (or_else (count_at 1 [] ws) (wrong_at 1 [] ws)) (λ e. no_words ws)

abbrev words_found : List Form → List (List ℕ) → Option Found
words_found fs ws = or_else (count_at 1 fs ws) (wrong_at 1 fs ws)

one_word : {A : Type 0} (f : Form) (a : List ℕ → Result A FaultKind) → IsReading f a → (ws : List (List ℕ)) → Agrees ws (next_word ws >>= λ v. no_more v.1 >>= λ end. a v.0) (words_found (f ∷ []) ws)
one_word f a h [] = refl
one_word f a h (w ∷ []) = reads f a (w ∷ []) 1 w None (λ r. r) h (λ e. refl) (λ x. tt)
one_word f a h (w ∷ v ∷ ws) = refl

pub one_agrees : {A : Type 0} (f : Form) (a : List ℕ → Result A FaultKind) → IsReading f a → (ws : List (List ℕ)) → Agrees ws (one_of a ws) (operand_fault None (Some (f ∷ [])) ws)
unfolding one_of
one_agrees f a h ws = after_open ws (λ cs. next_word cs >>= λ v. no_more v.1 >>= λ end. a v.0) (words_found (f ∷ []) ws) (λ e. one_word f a h ws)

two_words : {A B : Type 0} (f g : Form) (a : List ℕ → Result A FaultKind) (b : List ℕ → Result B FaultKind) → IsReading f a → IsReading g b → (ws : List (List ℕ))
    → Agrees ws (the_two ws >>= λ p. both a b p.0 p.1) (words_found (f ∷ g ∷ []) ws)
unfolding the_two both
two_words f g a b h k [] = refl
two_words f g a b h k (v ∷ []) = refl
two_words f g a b h k (v ∷ w ∷ []) =
    let ws = v ∷ w ∷ [] in
    reads f a ws 1 v (if fits g w then None else fault_at 2 (why.Malformed g)) (λ r. r >>= λ x. b w >>= λ y. Ok (x, y)) h (λ e. refl)
    (λ x. reads g b ws 2 w None (λ r. r >>= λ y. Ok (x, y)) k (λ e. refl) (λ y. tt))
two_words f g a b h k (v ∷ w ∷ u ∷ ws) = refl

pub two_agrees : {A B : Type 0} (f g : Form) (a : List ℕ → Result A FaultKind) (b : List ℕ → Result B FaultKind) → IsReading f a → IsReading g b → (ws : List (List ℕ))
    → Agrees ws (two_of a b ws) (operand_fault None (Some (f ∷ g ∷ [])) ws)
unfolding two_of
two_agrees f g a b h k ws = after_open ws (λ cs. the_two cs >>= λ p. both a b p.0 p.1) (words_found (f ∷ g ∷ []) ws) (λ e. two_words f g a b h k ws)

abbrev pair : {B C : Type 0} → B → C → Result (B × C) FaultKind
pair y z = Ok (y, z)

abbrev triple : {A B C : Type 0} → A → B × C → Result (A × B × C) FaultKind
triple x y = Ok (x, y.0, y.1)

three_words : {A B C : Type 0} (f g i : Form) (a : List ℕ → Result A FaultKind) (b : List ℕ → Result B FaultKind) (c : List ℕ → Result C FaultKind) → IsReading f a → IsReading g b → IsReading i c → (ws : List (List ℕ))
    → Agrees {A = A × B × C} ws (next_word ws >>= λ u. the_two u.1 >>= λ p. a u.0 >>= λ x. both b c p.0 p.1 >>= λ y. Ok (x, y.0, y.1)) (words_found (f ∷ g ∷ i ∷ []) ws)
unfolding the_two both
three_words f g i a b c h k l [] = refl
three_words f g i a b c h k l (u ∷ []) = refl
three_words f g i a b c h k l (u ∷ v ∷ []) = refl
three_words f g i a b c h k l (u ∷ v ∷ w ∷ []) =
    let ws = u ∷ v ∷ w ∷ [] in
    let last = if fits i w then None else fault_at 3 (why.Malformed i) in
    reads f a ws 1 u (if fits g v then last else fault_at 2 (why.Malformed g)) (λ r. r >>= λ x. (b v >>= λ y. c w >>= λ z. pair y z) >>= λ y. triple x y) h (λ e. refl)
    (λ x. reads g b ws 2 v last (λ r. (r >>= λ y. c w >>= λ z. pair y z) >>= λ y. triple x y) k (λ e. refl)
    (λ y. reads i c ws 3 w None (λ r. (r >>= λ z. pair y z) >>= λ y. triple x y) l (λ e. refl) (λ z. tt)))
three_words f g i a b c h k l (u ∷ v ∷ w ∷ t ∷ ws) = refl

pub three_agrees : {A B C : Type 0} (f g i : Form) (a : List ℕ → Result A FaultKind) (b : List ℕ → Result B FaultKind) (c : List ℕ → Result C FaultKind) → IsReading f a → IsReading g b → IsReading i c → (ws : List (List ℕ))
    → Agrees ws (three_of a b c ws) (operand_fault None (Some (f ∷ g ∷ i ∷ [])) ws)
unfolding three_of
three_agrees f g i a b c h k l ws =
    after_open ws (λ cs. next_word cs >>= λ u. the_two u.1 >>= λ p. a u.0 >>= λ x. both b c p.0 p.1 >>= λ y. triple x y)
    (words_found (f ∷ g ∷ i ∷ []) ws) (λ e. three_words f g i a b c h k l ws)

-- ---- what comes behind the operands tells of no words

abbrev pub OnlyOther : {A : Type 0} → Result A FaultKind → Type 0
OnlyOther (Ok a) = Unit {0}
OnlyOther (Err e) = IsOther e

ok_then : {A B : Type 0} (ws : List (List ℕ)) (x : A) (found : Option Found) (s : Result B FaultKind) → Agrees ws (Ok x) found → OnlyOther s → Agrees ws s found
ok_then ws x (Some f) s h o = absurd h
ok_then ws x None (Ok b) h o = tt
ok_then ws x None (Err e) h o = o

err_then : (A B : Type 0) (ws : List (List ℕ)) (e : FaultKind) (found : Option Found) → Agrees {A = A} ws (Err e) found → Agrees {A = B} ws (Err e) found
err_then A B ws e (Some f) h = h
err_then A B ws e None h = h

pub then_agrees : {A B : Type 0} (ws : List (List ℕ)) (r : Result A FaultKind) (found : Option Found) (g : A → Result B FaultKind) → Agrees ws r found → ((x : A) → OnlyOther (g x)) → Agrees ws (r >>= g) found
then_agrees ws (Ok x) found g h o = ok_then ws x found (g x) h (o x)
then_agrees {A} {B} ws (Err e) found g h o = err_then A B ws e found h

-- ---- tables

-- a rule tells of these words what their forms do
abbrev pub Told : {A : Type 0} → List (List ℕ) → List Form → Rule A → Type 0
Told ws fs rule = Agrees ws (rule ws) (operand_fault None (Some fs) ws)

-- row by row
abbrev pub AllAgree : {A : Type 0} → List (List ℕ × Rule A) → Table → List (List ℕ) → Type 0
AllAgree rs ts ws = AllRows (Told ws) rs ts

pub in_table : {A : Type 0} (rs : List (List ℕ × Rule A)) (ts : Table) (others : Rule A) (forms : Option (List Form)) (word : List ℕ) (ws : List (List ℕ))
    → AllAgree rs ts ws → Agrees ws (others ws) (operand_fault None forms ws) → Agrees ws (rule_in rs others word ws) (operand_fault None (forms_in ts forms word) ws)
in_table [] [] others forms word ws h last = last
in_table [] (t ∷ ts) others forms word ws h last = absurd h
in_table (r ∷ rs) [] others forms word ws h last = absurd h
in_table (r ∷ rs) (t ∷ ts) others forms word ws h last =
    rw h.0 (elim (bytes_eq t.0 word) as (λ (b : Bool). Agrees ws ((if b then r.1 else rule_in rs others word) ws) (operand_fault None (if b then Some t.1 else forms_in ts forms word) ws)) [
      | true ↦ h.1
      | false ↦ in_table rs ts others forms word ws h.2 last
    ])

-- ---- rows of which nothing comes behind the operands

pub none_so : {B : Type 0} (b : B) (ws : List (List ℕ)) → Agrees ws (none_of ws >>= λ x. Ok b) (operand_fault None (Some []) ws)
none_so b ws = then_agrees ws (none_of ws) (operand_fault None (Some []) ws) (λ x. Ok b) (none_agrees ws) (λ x. tt)

pub one_so : {A B : Type 0} (f : Form) (a : List ℕ → Result A FaultKind) → IsReading f a → (g : A → B) (ws : List (List ℕ)) → Agrees ws (one_of a ws >>= λ x. Ok (g x)) (operand_fault None (Some (f ∷ [])) ws)
one_so f a h g ws = then_agrees ws (one_of a ws) (operand_fault None (Some (f ∷ [])) ws) (λ x. Ok (g x)) (one_agrees f a h ws) (λ x. tt)

pub three_so : {A B C D : Type 0} (f g i : Form) (a : List ℕ → Result A FaultKind) (b : List ℕ → Result B FaultKind) (c : List ℕ → Result C FaultKind) → IsReading f a → IsReading g b → IsReading i c → (made : A × B × C → D) (ws : List (List ℕ))
    → Agrees ws (three_of a b c ws >>= λ x. Ok (made x)) (operand_fault None (Some (f ∷ g ∷ i ∷ [])) ws)
three_so f g i a b c h k l made ws = then_agrees ws (three_of a b c ws) (operand_fault None (Some (f ∷ g ∷ i ∷ [])) ws) (λ x. Ok (made x)) (three_agrees f g i a b c h k l ws) (λ x. tt)
