-- The strings of the numbers that depend on a guess.
use Rattle.sk_bytes.proofs.Names.{or_right, ◌≡◌, ℕ, ◌<◌, true, false, List, [], ◌∷◌, length, Option, Some, None, cond}
use Rattle.sk_bytes.proofs.Names.{refl, sym, ◌∙◌, ap, arith, ◌==◌, ◌||◌, Bool, is_some, slice_get, unsigned_tied}
use Rattle.sk_bytes.proofs.Names.{AllByRecursion, filter, nat_cmp, Less, eq-eqb, ne_eqb, true≢false}
use Rattle.sk_bytes.proofs.Names.{IsStrictlySortedBy-filter, is_in, has, last_tags, tags_at, has_filter, above}
use Rattle.sk_bytes.proofs.Names.{same_rising, eqb_turned, at_key, log_at, Numbered, bytes_cmp, numbers_in, string_of}
use Rattle.sk_bytes.proofs.Names.{Parts, undo_state_of, names, strings_of, told_of, with_string, ByteView, Fits}
use Rattle.sk_bytes.proofs.Names.{resting_on}
use Rattle.std.proofs.Common.{◌&&◌}
use Rattle.std.specs.List.Sorted.{IsStrictlySortedBy}
use Rattle.sk_bytes.proofs.Told.{log_told}
use Rattle.sk_bytes.proofs.Fitting.{bare}
use Rattle.sk_bytes.proofs.Undone.{strings_at, strings_length, AllHeld}

in_has : (ns : List ℕ) (k : ℕ) → is_in nat_cmp ns k ≡ has k ns
in_has [] k = refl
in_has (n ∷ ns) k = λ i. (unsigned_tied k n ∙ eqb_turned k n) i || in_has ns k i

-- each has the string beside it
abbrev AllThere : Numbered → Numbered → Type 0
AllThere es fs = AllByRecursion (λ e. string_of es e.1 ≡ Some e.0) fs

-- a first one with a lower number does not matter
one_before : (e : List ℕ × ℕ) (es fs : Numbered) → AllByRecursion (λ m. nat_cmp e.1 m ≡ Less) (numbers_in es) → (above_all : (f : List ℕ × ℕ) → has f.1 (numbers_in fs) ≡ true → has f.1 (numbers_in es) ≡ true) → AllThere es fs → AllThere (e ∷ es) fs
one_before e es [] low within there = tt
one_before e es (f ∷ fs) low within there =
    let less = above e.1 (numbers_in es) f.1 low (within f (ap (λ b. b || has f.1 (numbers_in fs)) (eq-eqb f.1 f.1 refl))) in (
      ap (λ b. cond b (Some e.0) (string_of es f.1)) (ne_eqb e.1 f.1 (λ same. apart e.1 f.1 less same)) ∙ there.0,
      one_before e es fs low (λ h here. within h (or_right (f.1 == h.1) (has h.1 (numbers_in fs)) here)) there.1,
    ) where
      apart : (m n : ℕ) → m < n → m ≡ n → ⊥
      apart m n lt same = omega (arith, lt, same)

all_there : (es : Numbered) → IsStrictlySortedBy nat_cmp (numbers_in es) → AllThere es es
unfolding IsStrictlySortedBy
all_there [] rising = tt
all_there (e ∷ es) rising = (
  ap (λ b. cond b (Some e.0) (string_of es e.1)) (eq-eqb e.1 e.1 refl),
  one_before e es es rising.0 (λ f here. here) (all_there es rising.1),
)

-- a number is there just where it has a string
numbered_some : (es : Numbered) (n : ℕ) → has n (numbers_in es) ≡ is_some (string_of es n)
numbered_some [] n = refl
numbered_some (e ∷ es) n =
    elim (e.1 == n) as (λ b. (b || has n (numbers_in es)) ≡ is_some (cond b (Some e.0) (string_of es n))) [
      | true ↦ refl
      | false ↦ numbered_some es n
    ]

strings_kept : (es fs : Numbered) (p : ℕ → Bool) → AllThere es fs → strings_of es (filter p (numbers_in fs)) ≡ names (filter (λ e. p e.1) fs)
strings_kept es [] p there = refl
strings_kept es (f ∷ fs) p there =
    elim (p f.1) as (λ b. strings_of es (cond b (f.1 ∷ filter p (numbers_in fs)) (filter p (numbers_in fs))) ≡ names (cond b (f ∷ filter (λ e. p e.1) fs) (filter (λ e. p e.1) fs))) [
      | true ↦ ap (λ o. with_string o (strings_of es (filter p (numbers_in fs)))) there.0 ∙ ap (λ ss. f.0 ∷ ss) (strings_kept es fs p there.1)
      | false ↦ strings_kept es fs p there.1
    ]

module _ {V O : Type 0} (es : Numbered) (m : Parts ℕ V O) (fits : Fits es m) (rising : IsStrictlySortedBy nat_cmp (numbers_in es)) (g : ℕ) where
  abbrev pub rests : ℕ → Bool
  rests n = has g (last_tags [] (log_at nat_cmp m.slots n))

  told_rests : (fs : Numbered) → AllThere es fs → filter (λ e. rests e.1) fs ≡ filter (λ e. has g (tags_at (undo_state_of bytes_cmp (told_of es m)) e.0)) fs
  told_rests [] there = refl
  told_rests (f ∷ fs) there =
      let same : rests f.1 ≡ has g (tags_at (undo_state_of bytes_cmp (told_of es m)) f.0) =
      ap (λ log. has g (last_tags [] log)) (ap (at_key [] (log_at nat_cmp m.slots)) (sym (fits.two_way.back f.0 f.1 there.0)) ∙ sym (log_told es m.slots f.0)) in
      λ i. cond (same i) (f ∷ told_rests fs there.1 i) (told_rests fs there.1 i)

  module _ (ns : List ℕ) (exact : (n : ℕ) → is_in nat_cmp ns n ≡ rests n) (sorted : IsStrictlySortedBy nat_cmp ns) where
    held : AllHeld es ns
    held n here none = true≢false (sym here ∙ exact n ∙ ap (λ log. has g (last_tags [] log)) (bare es m m fits n none).1)

    -- what depends on it has a string
    with_strings : (n : ℕ) (o : Option (List ℕ)) → string_of es n ≡ o → rests n ≡ (rests n && is_some o)
    with_strings n (Some s) is = always (rests n) where
      always : (b : Bool) → b ≡ (b && true)
      always true = refl
      always false = refl
    with_strings n None none = let no = ap (λ log. has g (last_tags [] log)) (bare es m m fits n none).1 in no ∙ ap (λ b. b && false) (sym no)

    numbers_are : ns ≡ filter rests (numbers_in es)
    numbers_are =
        same_rising ns (filter rests (numbers_in es)) sorted (IsStrictlySortedBy-filter nat_cmp rests (numbers_in es) rising)
        (λ n. sym (in_has ns n) ∙ exact n ∙ with_strings n (string_of es n) refl ∙ ap (λ b. rests n && b) (sym (numbered_some es n)) ∙ sym (has_filter rests n (numbers_in es)))

    module _ (undone : List (List ℕ)) where
      abbrev pub view : ByteView V O
      view = record { parts = told_of es m; undone = undone; keys = es }

      strings_are : strings_of es ns ≡ resting_on view g
      strings_are =
          let there = all_there es rising in
          ap (strings_of es) numbers_are ∙ strings_kept es es rests there ∙ ap names (told_rests es there)

      pub resting_count : length ns ≡ length (resting_on view g)
      resting_count = strings_length es ns held ∙ ap length strings_are

      pub resting_keys : (place : ℕ) → at_key None (string_of es) (slice_get ns place) ≡ slice_get (resting_on view g) place
      resting_keys place = sym (strings_at es ns place held) ∙ ap (λ ss. slice_get ss place) strings_are
