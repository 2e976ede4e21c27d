-- The keys that have places, listed: each once, and none is left out but those of batches.
use Rattle.std.proofs.lemmas.Bool.Decides.{nat_tests}
use Rattle.sk_durable.proofs.Names.{◌≡◌, ℕ, zero, suc, ◌+◌, ◌<◌, ◌≤◌, Bool, true, false, cond, ◌||◌, List, [], ◌∷◌}
use Rattle.sk_durable.proofs.Names.{◌++◌, map, get_or, Option, Some, None, inl, inr, ⊎_elim, bytes_eq, refl, sym, ap}
use Rattle.sk_durable.proofs.Names.{◌∙◌, subst, arith, Vec, vec_items, IsPermutation, IsSorted, IsSortedByKey}
use Rattle.sk_durable.proofs.Names.{IsStrictlySortedBy, is_eq, is_lt, ordering_reverse, Ordering, Less, Equal}
use Rattle.sk_durable.proofs.Names.{Greater, true≢false, cases_eq, false_from_ne_true, nat_list_eq_equiv, get_or-map}
use Rattle.sk_durable.proofs.Names.{length-map, list_any-append, list_any-IsPermutation, IsPermutation-map}
use Rattle.sk_durable.proofs.Names.{IsDistinct-push, IsDistinct-IsPermutation, apart_from_distinct}
use Rattle.sk_durable.proofs.Names.{sorted_from_all_adjacent, is_eq-slice_cmp, bytes_eq-Decides, bytes_cmp, number_of}
use Rattle.sk_durable.proofs.Names.{string_of, Numbered, HasPlaces, IsTwoWay, bytes_total, is_among, is_reserved}
use Rattle.sk_durable.proofs.Names.{Kernel, LacksNone, same_Some}
use Rattle.std.proofs.Common.{◌⊎◌}
use Rattle.std.specs.List.{IsDistinct}

-- one more, where the place has a key that is no batch's
abbrev pub more : Option (List ℕ) → List (List ℕ) → List (List ℕ)
more None keys = keys
more (Some key) keys = cond (is_reserved key) keys (keys ++ key ∷ [])

-- those of the first places
abbrev pub listed : Numbered → ℕ → List (List ℕ)
listed es zero = []
listed es (suc n) = more (string_of es n) (listed es n)

-- ---- none is left out

module _ (keys : List (List ℕ)) (key : List ℕ) where
  kept : (place : Option (List ℕ)) → is_among key keys ≡ true → is_among key (more place keys) ≡ true
  kept None is = is
  kept (Some one) is =
      grind (arith, nat_tests, list_any-append (bytes_eq key) keys (one ∷ []), bytes_eq key, bytes_eq key one)

  added : is_reserved key ≡ false → is_among key (more (Some key) keys) ≡ true
  added free =
      grind (
        arith,
        nat_tests,
        bytes_eq key key,
        bytes_eq-Decides key key,
        list_any-append (bytes_eq key) keys (key ∷ []),
        bytes_eq key,
      )

found : (es : Numbered) (n place : ℕ) (key : List ℕ) → place < n → string_of es place ≡ Some key
    → is_reserved key ≡ false → is_among key (listed es n) ≡ true
found es zero place key below is free = let no : ⊥ = omega arith in absurd no
found es (suc n) place key below is free =
    let before = listed es n in
    ⊎_elim
    (λ same.
    let here : string_of es n ≡ Some key = ap (string_of es) (sym same) ∙ is in
    ap (λ (o : Option (List ℕ)). is_among key (more o before)) here ∙ added before key free)
    (λ other. kept before key (string_of es n) (found es n place key (omega arith) is free))
    (cases_eq place n)

-- ---- each stands there once

one_of : (a b : Bool) → (a || (b || false)) ≡ true → (a ≡ true) ⊎ (b ≡ true)
one_of true b is = inl refl
one_of false true is = inr refl
one_of false false is = absurd (true≢false (sym is))

module _ (keys : List (List ℕ)) (key : List ℕ) where
  among_more : (place : Option (List ℕ)) → is_among key (more place keys) ≡ true
      → (is_among key keys ≡ true) ⊎ (place ≡ Some key)
  among_more None is = inl is
  among_more (Some one) is =
      grind (
        arith,
        nat_tests,
        bytes_eq-Decides key one,
        one_of (is_among key keys) (bytes_eq key one),
        bytes_eq key one,
        list_any-append (bytes_eq key) keys (one ∷ []),
        bytes_eq key,
      )

placed : (es : Numbered) (n : ℕ) (key : List ℕ) → is_among key (listed es n) ≡ true
    → (place : ℕ) × (place < n) × (string_of es place ≡ Some key)
placed es zero key is = absurd (true≢false (sym is))
placed es (suc n) key is = grind (arith, nat_tests, placed es n key, among_more)

apart_more : (place : Option (List ℕ)) (keys : List (List ℕ)) → IsDistinct bytes_eq keys
    → ((key : List ℕ) → place ≡ Some key → is_among key keys ≡ false) → IsDistinct bytes_eq (more place keys)
apart_more None keys apart new = apart
apart_more (Some one) keys apart new =
    elim (is_reserved one) as (λ b. IsDistinct bytes_eq (cond b keys (keys ++ one ∷ []))) [
      | true ↦ apart
      | false ↦ IsDistinct-push nat_list_eq_equiv keys one apart (new one refl)
    ]

apart : (es : Numbered) → IsTwoWay es → (n : ℕ) → IsDistinct bytes_eq (listed es n)
unfolding IsDistinct
apart es two zero = tt
apart es two (suc n) =
    apart_more (string_of es n) (listed es n) (apart es two n)
    (λ key here.
    false_from_ne_true (is_among key (listed es n))
    (λ is.
    let at = placed es n key is in
    let same = same_Some n at.0 (sym (two.back key n here) ∙ two.back key at.0 at.2) in
    let no : ⊥ = omega (arith, same, at.1) in no))

-- ---- sorted they rise

less : (o : Ordering) → is_lt o ≡ false → is_eq o ≡ false → ordering_reverse o ≡ Less
less Less p q = absurd (true≢false p)
less Equal p q = absurd (true≢false q)
less Greater p q = refl

rises : (keys : List (List ℕ)) → IsDistinct bytes_eq keys → IsSorted bytes_cmp keys → IsStrictlySortedBy bytes_cmp keys
rises keys distinct sorted =
    sorted_from_all_adjacent bytes_total keys []
    (λ k l.
    let a = get_or keys k [] in
    let b = get_or keys (k + 1) [] in
    let other = apart_from_distinct bytes_eq keys k (k + 1) [] distinct (omega arith) l in
    bytes_total.antisymm a b
    ∙ less (bytes_cmp b a) (sorted k [] (omega arith) l) (is_eq-slice_cmp b a ∙ nat_list_eq_equiv.symm b a ∙ other))

sorted_items : (vs : List (Vec ℕ)) → IsSortedByKey vec_items bytes_cmp vs → IsSorted bytes_cmp (map vec_items vs)
sorted_items [] up k d from within = let no : ⊥ = omega arith in absurd no
sorted_items (v ∷ vs) up k d from within =
    grind (
      arith,
      nat_tests,
      length-map (v ∷ vs) vec_items,
      get_or-map vec_items (v ∷ vs) (k + 1) v d,
      get_or-map vec_items (v ∷ vs) k v d,
    )

-- ---- all keys

some_none : (key : List ℕ) → Some key ≡ None → ⊥
some_none key is = cc

module _ (kernel : Kernel) (count : ℕ) (has : HasPlaces kernel)
    (behind : (place : ℕ) → count ≤ place → string_of kernel.keys place ≡ None)
    (was now : List (Vec ℕ)) (those : map vec_items was ≡ listed kernel.keys count)
    (moved : IsPermutation was now) where
  keys_moved : IsPermutation (map vec_items was) (map vec_items now)
  keys_moved = IsPermutation-map vec_items was now moved

  within : (key : List ℕ) (place : ℕ) → string_of kernel.keys place ≡ Some key → place < count
  within key place here = grind (arith, nat_tests, less, some_none key)

  -- a key that is not among them has no place
  unplaced : (key : List ℕ) → is_reserved key ≡ false → is_among key (map vec_items now) ≡ false
      → number_of kernel.keys key ≡ None
  unplaced key free lacking =
      elim (number_of kernel.keys key) as (λ o. number_of kernel.keys key ≡ o → o ≡ None) [
        | None ↦ λ is. refl
        | Some place ↦ λ is.
            let here = has.two_way.there key place is in
            absurd (true≢false (sym (found kernel.keys count place key (within key place here) here free)
            ∙ ap (is_among key) (sym those)
            ∙ list_any-IsPermutation (bytes_eq key) (map vec_items was) (map vec_items now) keys_moved
            ∙ lacking))
      ] refl

  pub lacks_none : IsSortedByKey vec_items bytes_cmp now → LacksNone kernel (map vec_items now)
  lacks_none up =
      let before = subst (IsDistinct bytes_eq) (sym those) (apart kernel.keys has.two_way count) in
      let once = IsDistinct-IsPermutation bytes_eq nat_list_eq_equiv.symm (map vec_items was) (map vec_items now)
      keys_moved before in (
        rises (map vec_items now) once (sorted_items now up),
        λ key free lacking. let none = has.all key (unplaced key free lacking) in (none.0, none.1),
      )
