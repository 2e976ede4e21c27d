-- The kernel inside was told of a commit or a failure just where a batch was decided so.
use Rattle.sk_batched.proofs.Names.{Contains-tail, true≢false, BatchStep, ◌≡◌, ℕ, zero, suc, ◌+◌, ◌<◌, Bool, true}
use Rattle.sk_batched.proofs.Names.{false, List, [], ◌∷◌, inl, inr, refl, sym, ◌∙◌, ap, arith, ◌⊎◌, ◌↔◌, Contains}
use Rattle.sk_batched.proofs.Names.{Event, Taken, Commit, Fail, events_of, Logged, Refused, kernel_calls, Opens, Plain}
use Rattle.sk_batched.proofs.Names.{InBatch, Call, Steps, LogsStep, IsRefused, DrawsGuess, Sends, Hears, Cuts, Stops}
use Rattle.sk_batched.proofs.Names.{Decides, LetsOut}

module _ {A : Type 0} where
  front : (x y : A) (xs : List A) → x ≡ y → Contains (x ∷ xs) y
  front x y xs is = (0, omega arith, is)

  behind : (x y : A) (xs : List A) → Contains xs y → Contains (x ∷ xs) y
  behind x y xs (k, less, is) = (suc k, omega (arith, less), is)

  apart : (x y : A) (xs : List A) → Contains (x ∷ xs) y → (x ≡ y) ⊎ Contains xs y
  apart x y xs (zero, less, is) = inl is
  apart x y xs (suc k, less, is) = inr (k, omega (arith, less), is)

module _ {A B : Type 0} (x y : A) (xs : List A) (c d : B) (cs : List B) where
  -- neither is it
  both_past : (x ≡ y → ⊥) → (c ≡ d → ⊥) → (Contains xs y ↔ Contains cs d) → (Contains (x ∷ xs) y ↔ Contains (c ∷ cs) d)
  both_past other otherwise same = ((λ here. behind c d cs (same.0 (Contains-tail x xs y other here))), (λ here. behind x y xs (same.1 (Contains-tail c cs d otherwise here))))

  -- each is it where the other is
  both_front : (x ≡ y → c ≡ d) → (c ≡ d → x ≡ y) → (Contains xs y ↔ Contains cs d) → (Contains (x ∷ xs) y ↔ Contains (c ∷ cs) d)
  both_front there back same = (
    (λ here. elim (apart x y xs here) [
      | inl is ↦ front c d cs (there is)
      | inr later ↦ behind c d cs (same.0 later)
    ]),
    (λ here. elim (apart c d cs here) [
      | inl is ↦ front x y xs (back is)
      | inr later ↦ behind x y xs (same.1 later)
    ]),
  )

module _ {A B : Type 0} (y : A) (xs : List A) (c d : B) (cs : List B) where
  one_past : (c ≡ d → ⊥) → (Contains xs y ↔ Contains cs d) → (Contains xs y ↔ Contains (c ∷ cs) d)
  one_past otherwise same = ((λ here. behind c d cs (same.0 here)), (λ here. same.1 (Contains-tail c cs d otherwise here)))

module _ {A B : Type 0} (x y : A) (xs : List A) (d : B) (cs : List B) where
  first_past : (x ≡ y → ⊥) → (Contains xs y ↔ Contains cs d) → (Contains (x ∷ xs) y ↔ Contains cs d)
  first_past other same = ((λ here. same.0 (Contains-tail x xs y other here)), (λ here. behind x y xs (same.1 here)))

none_below : (k : ℕ) → k < 0 → ⊥
none_below k less = omega (arith, less)

abbrev is_taken : {M : Type 0} → Event M → Bool
is_taken (Taken x) = true
is_taken other = false

abbrev decides : {N O : Type 0} → Call N O → Bool
decides (Decides d) = true
decides other = false

-- an event that is no step's is there just where a call is that decides the same
module _ {N O : Type 0} (e : Event (BatchStep N)) (d : Call N O) (untaken : is_taken e ≡ false) (does : decides d ≡ true)
    (logged : (m : ℕ) → (Commit m ≡ e) ↔ (Decides (Logged m) ≡ d)) (refused : (m : ℕ) → (Fail m ≡ e) ↔ (Decides (Refused m) ≡ d)) where
  taken : (x : BatchStep N) → Taken x ≡ e → ⊥
  taken x is = true≢false (ap is_taken is ∙ untaken)

  other : (c : Call N O) → decides c ≡ false → c ≡ d → ⊥
  other c none is = true≢false (sym does ∙ ap decides (sym is) ∙ none)

  told : (begun : Bool) (number : ℕ) (cs : List (Call N O)) → Contains (events_of (kernel_calls begun number cs)) e ↔ Contains cs d
  told begun number [] = ((λ here. absurd (none_below here.0 here.1)), (λ here. absurd (none_below here.0 here.1)))
  told begun number (Steps x ∷ cs) = both_past _ _ _ _ _ _ (taken (Plain x)) (other (Steps x) refl) (told begun number cs)
  told true number (LogsStep x bytes ∷ cs) = both_past _ _ _ _ _ _ (taken (InBatch number x)) (other (LogsStep x bytes) refl) (told true number cs)
  told false number (LogsStep x bytes ∷ cs) = first_past _ _ (Taken (InBatch number x) ∷ events_of (kernel_calls true number cs)) _ (LogsStep x bytes ∷ cs) (taken (Opens number)) (both_past _ _ _ _ _ _ (taken (InBatch number x)) (other (LogsStep x bytes) refl) (told true number cs))
  told begun number (IsRefused ∷ cs) = one_past _ _ _ _ _ (other (IsRefused) refl) (told begun number cs)
  told true number (DrawsGuess ∷ cs) = one_past _ _ _ _ _ (other (DrawsGuess) refl) (told true number cs)
  told false number (DrawsGuess ∷ cs) = both_past _ _ _ _ _ _ (taken (Opens number)) (other (DrawsGuess) refl) (told true number cs)
  told true number (Sends ∷ cs) = one_past _ _ _ _ _ (other (Sends) refl) (told false (number + 1) cs)
  told false number (Sends ∷ cs) = both_past _ _ _ _ _ _ (taken (Opens number)) (other (Sends) refl) (told false (number + 1) cs)
  told begun number (Hears frame stage ∷ cs) = one_past _ _ _ _ _ (other (Hears frame stage) refl) (told begun number cs)
  told begun number (Cuts cut ∷ cs) = one_past _ _ _ _ _ (other (Cuts cut) refl) (told begun number cs)
  told begun number (Stops ∷ cs) = one_past _ _ _ _ _ (other (Stops) refl) (told begun number cs)
  told begun number (LetsOut t output ∷ cs) = one_past _ _ _ _ _ (other (LetsOut t output) refl) (told begun number cs)
  told begun number (Decides (Refused m) ∷ cs) = both_front _ _ _ _ _ _ (refused m).0 (refused m).1 (told begun number cs)
  told begun number (Decides (Logged m) ∷ cs) = both_front _ _ _ _ _ _ (logged m).0 (logged m).1 (told begun number cs)

module _ {N O : Type 0} (begun : Bool) (number : ℕ) (cs : List (Call N O)) (n : ℕ) where
  pub commits_told : Contains (events_of (kernel_calls begun number cs)) (Commit n) ↔ Contains cs (Decides (Logged n))
  commits_told = told (Commit n) (Decides (Logged n)) refl refl (λ m. ((λ is. cc), (λ is. cc))) (λ m. ((λ is. cc), (λ is. cc))) begun number cs

  pub failures_told : Contains (events_of (kernel_calls begun number cs)) (Fail n) ↔ Contains cs (Decides (Refused n))
  failures_told = told (Fail n) (Decides (Refused n)) refl refl (λ m. ((λ is. cc), (λ is. cc))) (λ m. ((λ is. cc), (λ is. cc))) begun number cs
