-- Outputs that were said, each with its channel and the guesses that it depends on.
use Rattle.std.specs.Prelude.{ℕ, ◌==◌, ◌-◌, ◌<◌, Bool, true, false, List, [], ◌∷◌, length, Option, Some, None, refl}
use Rattle.std.specs.List.{filter}
use Rattle.std.specs.Coded.{Coded, code_by, coded×, coded_ℕ, coded_list}
use Rattle.sk_record.specs.Machine.{Tagged, released}

abbrev pub Said : Type 0 → Type 0
Said O = List (Tagged (ℕ × O))

-- the outputs in the order in which they were said, for how many more there is room, and of how many channels, from the first on, they can be
pub record SaidView (O : Type 0) : Type 0 where
  pub said : Said O
  pub room : ℕ
  pub counted : ℕ

-- there is room for one more output of a channel
abbrev pub HasRoom : {O : Type 0} → SaidView O → ℕ → Type 0
HasRoom v t = (0 < v.room) × (t < v.counted)

abbrev pub one_code : {O : Type 0} → Coded O → Coded (Tagged (ℕ × O))
one_code code = coded× (coded× coded_ℕ code) (coded_list coded_ℕ)

abbrev pub said_code : {O : Type 0} → Coded O → Coded (SaidView O)
said_code {O} code =
    code_by (Said O × (ℕ × ℕ)) (coded× (coded_list (one_code code)) (coded× coded_ℕ coded_ℕ))
    (λ s. (s.said, (s.room, s.counted))) (λ p. record { said = p.0; room = p.1.0; counted = p.1.1 }) (λ _. refl)

-- the outputs of one channel
abbrev pub said_at : {O : Type 0} → Said O → ℕ → List (Tagged (ℕ × O))
said_at xs t = filter (λ x. x.0.0 == t) xs

-- the first of some outputs, if there is one
abbrev pub first_of : {O : Type 0} → List (Tagged (ℕ × O)) → Option O
first_of [] = None
first_of (x ∷ xs) = Some x.0.1

-- how many of a channel wait: the first that depends on a guess, and all behind it
abbrev pub waiting_of : {W : Type 0} → List (Tagged W) → ℕ
waiting_of xs = length xs - length (released xs)

abbrev pub is_empty : {A : Type 0} → List A → Bool
is_empty [] = true
is_empty (x ∷ xs) = false
