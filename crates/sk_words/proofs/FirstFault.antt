-- The fault that is told of some lines is that of their first faulty line: by the lines in turn.
use Rattle.sk_words.proofs.Names.{◌≡◌, ◌↔◌, ◌≤◌, inl, inr, ℕ, ◌+◌, List, [], ◌∷◌, ◌++◌, length, Result, Ok, Err, refl}
use Rattle.sk_words.proofs.Names.{sym, ap, ◌∙◌, arith, FaultKind, Fault, at, read_from, IsFirstFault, TellsKind, Tells}

abbrev kind_in : {S : Type 0} → FaultKind → Result S Fault → FaultKind
kind_in k (Ok s) = k
kind_in k (Err f) = f.kind

abbrev line_in : {S : Type 0} → Result S Fault → ℕ
line_in (Ok s) = 0
line_in (Err f) = f.line

abbrev Found : {S : Type 0} → (S → List ℕ → Result S FaultKind) → S → ℕ → List ℕ → List (List ℕ) → Fault → Result S FaultKind → Type 0
Found line s first l ls f said = at first said (λ t. read_from line t (first + 1) ls) ≡ Err f → line s l ≡ said → IsFirstFault line s first (l ∷ ls) f

pub told_is_first : {S : Type 0} (line : S → List ℕ → Result S FaultKind) (s : S) (first : ℕ) (ls : List (List ℕ)) (f : Fault) → read_from line s first ls ≡ Err f → IsFirstFault line s first ls f
told_is_first line s first [] f h = absurd cc
told_is_first line s first (l ∷ ls) f h =
    elim (line s l) as (λ said. Found line s first l ls f said) [
      | Err e ↦ λ told is. record {
        before = [];
        faulty = l;
        behind = ls;
        state = s;
        cut = refl;
        sound = refl;
        fault = is ∙ ap (λ (k : FaultKind). Err k) (ap (kind_in e) told);
        number = sym (ap line_in told) ∙ omega arith;
      }
      | Ok t ↦ λ told is.
          let later = told_is_first line t (first + 1) ls f told in
          record {
            before = l ∷ later.before;
            faulty = later.faulty;
            behind = later.behind;
            state = later.state;
            cut = ap (λ (xs : List (List ℕ)). l ∷ xs) later.cut;
            sound = rw is later.sound;
            fault = later.fault;
            number = omega (arith, later.number);
          }
    ] h refl

abbrev Told : {S : Type 0} → (S → List ℕ → Result S FaultKind) → S → ℕ → List ℕ → List (List ℕ) → List (List ℕ) → S → Fault → Result S FaultKind → Type 0
Told line s first b bs rest t f said = at first said (λ u. read_from line u (first + 1) bs) ≡ Ok t → at first said (λ u. read_from line u (first + 1) (bs ++ rest)) ≡ Err f

pub first_is_told : {S : Type 0} (line : S → List ℕ → Result S FaultKind) (s : S) (first : ℕ) (before : List (List ℕ)) (faulty : List ℕ) (behind : List (List ℕ)) (t : S) (f : Fault)
    → read_from line s first before ≡ Ok t → line t faulty ≡ Err f.kind → f.line ≡ first + length before → read_from line s first (before ++ faulty ∷ behind) ≡ Err f
first_is_told line s first [] faulty behind t f sound fault number =
    let same : s ≡ t = cc in
    let here : first ≡ f.line = omega (arith, number) in
    rw (same, fault, here) refl
first_is_told line s first (b ∷ bs) faulty behind t f sound fault number =
    elim (line s b) as (λ said. Told line s first b bs (faulty ∷ behind) t f said) [
      | Err e ↦ λ h. absurd cc
      | Ok u ↦ λ h. first_is_told line u (first + 1) bs faulty behind t f h fault (omega (arith, number))
    ] sound

pub fault_is_first : {S : Type 0} (line : S → List ℕ → Result S FaultKind) (s : S) (first : ℕ) (ls : List (List ℕ)) (f : Fault) → (read_from line s first ls ≡ Err f) ↔ IsFirstFault line s first ls f
fault_is_first line s first ls f = (told_is_first line s first ls f, λ r. rw r.cut (first_is_told line s first r.before r.faulty r.behind r.state f r.sound r.fault r.number))

-- no fault is before the first line
pub fault_is_behind : {S : Type 0} (line : S → List ℕ → Result S FaultKind) (s : S) (first : ℕ) (ls : List (List ℕ)) (f : Fault) → read_from line s first ls ≡ Err f → first ≤ f.line
fault_is_behind line s first ls f h = omega (arith, (told_is_first line s first ls f h).number)

abbrev pub fault_at : ℕ → FaultKind → Fault
fault_at n k = record { line = n; kind = k }

-- what is told of the first line that is left is told of all of them
pub told_here : {S : Type 0} (line : S → List ℕ → Result S FaultKind) (s : S) (first n last : ℕ) (l : List ℕ) (ls : List (List ℕ)) (k : FaultKind) → first ≤ n → n ≤ last → TellsKind k (line s l) → Tells first last (fault_at n k) (read_from line s n (l ∷ ls))
told_here line s first n last l ls k from within =
    elim (line s l) as (λ said. TellsKind k said → Tells first last (fault_at n k) (at n said (λ t. read_from line t (n + 1) ls))) [
      | Err e ↦ λ h. inl (ap (fault_at n) h)
      | Ok t ↦ λ h.
          elim (read_from line t (n + 1) ls) as (λ r. read_from line t (n + 1) ls ≡ r → Tells first last (fault_at n k) r) [
            | Ok u ↦ λ e. (h, from, within)
            | Err g ↦ λ e. inr (h, from, omega (arith, fault_is_behind line t (n + 1) ls g e))
          ] refl
    ]
