-- Fewer outputs are left where channels are let go of.
use Rattle.sk_durable.proofs.Names.{◌≡◌, ℕ, suc, ◌+◌, ◌<◌, ◌≤◌, true, false, cond, List, [], ◌∷◌, length, map, Option}
use Rattle.sk_durable.proofs.Names.{Some, None, refl, sym, ap, subst, arith, ◌==◌, nat_tests, length-map, Tagged}
use Rattle.sk_durable.proofs.Names.{said_at, TakesOut, Parts, Answer, Batches, first_answer, StoreView, Serves, drops}
use Rattle.sk_durable.proofs.Names.{FreesIfLast, HasNoneReady, LetGoPost}

-- ---- numbers, counted

count : ℕ → List ℕ → ℕ
count t [] = 0
count t (k ∷ ks) = cond (k == t) 1 0 + count t ks

-- without the first of them
less : ℕ → List ℕ → List ℕ
less c [] = []
less c (k ∷ ks) = cond (k == c) ks (k ∷ less c ks)

left_of : (c t : ℕ) (ks : List ℕ) → count t ks ≤ count t (less c ks) + cond (c == t) 1 0
unfolding count less
left_of c t [] = omega arith
left_of c t (k ∷ ks) = grind (arith, nat_tests, left_of c t ks)

one_less : (c : ℕ) (ks : List ℕ) → 0 < count c ks → suc (length (less c ks)) ≤ length ks
unfolding count less
one_less c [] some = absurd (omega (arith, some))
one_less c (k ∷ ks) some =
    elim (k == c) as (λ b. 0 < cond b 1 0 + count c ks → suc (length (cond b ks (k ∷ less c ks))) ≤ suc (length ks)) [
      | true ↦ λ some. omega arith
      | false ↦ λ some. let rest = one_less c ks (omega (arith, some)) in omega (arith, rest)
    ] some

own : (k : ℕ) → ◌≡◌ {A = ℕ} (cond (k == k) 1 0) 1
own k = grind (arith, nat_tests)

-- where none is there more often there are no more of them
no_more : (ks ls : List ℕ) → ((t : ℕ) → count t ks ≤ count t ls) → length ks ≤ length ls
unfolding count
no_more [] ls le = omega arith
no_more (k ∷ ks) ls le =
    grind (
      arith,
      nat_tests,
      no_more ks (less k ls) (λ t. omega (arith, le t, left_of k t ls)),
      left_of k,
      one_less k ls (omega (arith, le k, own k)),
      own k,
    )

-- ---- outputs of channels

abbrev Said : Type 0
Said = List (Tagged (ℕ × (ℕ × Answer)))

abbrev many : Said → ℕ → ℕ
many xs t = length (said_at xs t)

abbrev channels_of : Said → List ℕ
channels_of xs = map (λ (x : Tagged (ℕ × (ℕ × Answer))). x.0.0) xs

many_is : (xs : Said) (t : ℕ) → many xs t ≡ count t (channels_of xs)
unfolding count
many_is [] t = refl
many_is (x ∷ xs) t = grind (arith, nat_tests, many_is xs t)

abbrev Parted : Type 0
Parted = Parts (List ℕ) (List ℕ) (ℕ × Answer)

taken : (a b : Parted) (t : ℕ) (x : ℕ × Answer) → TakesOut a t x b → many a.said t ≡ suc (many b.said t)
taken a b t x takes = ap length takes.first

fewer : (a b : Parted) (t : ℕ) (x : ℕ × Answer) → TakesOut a t x b → (u : ℕ) → many b.said u ≤ many a.said u
fewer a b t x takes u = grind (arith, nat_tests, taken a b t x takes)

dropped : (t : ℕ) (xs : List (ℕ × Answer)) (a b : StoreView) → Serves a (drops t xs) b → (u : ℕ)
    → many b.batched.kernel.parts.said u ≤ many a.batched.kernel.parts.said u
dropped t [] a b is u = let same = ap (λ (s : StoreView). many s.batched.kernel.parts.said u) is in omega (arith, same)
dropped t (x ∷ xs) a b (m, does, serves) u =
    grind (
      arith,
      nat_tests,
      dropped t xs m b serves u,
      fewer a.batched.kernel.parts m.batched.kernel.parts t x does.1 u,
    )

freed : (t : ℕ) (first : Option (ℕ × Answer)) (a b : StoreView) → FreesIfLast t first a b → b.batched ≡ a.batched
freed t None a b frees = frees.2.1
freed t (Some told) a b same = ap (λ (s : StoreView). s.batched) same

counted : (t u : ℕ) (x : ℕ × Answer) (a n m : Parted) → TakesOut a t x n → many m.said u ≤ many n.said u
    → many n.said u ≤ many a.said u → count u (t ∷ channels_of m.said) ≤ count u (channels_of a.said)
unfolding count
counted t u x a n m takes rest one = grind (arith, nat_tests, taken a n t x takes, many_is m.said u, many_is a.said u)

-- where something could go out of a channel that is let go of fewer are left
pub falls : (t : ℕ) (a b : StoreView) → LetGoPost t a b → (HasNoneReady t a → ⊥)
    → length b.batched.kernel.parts.said < length a.batched.kernel.parts.said
falls t a b ([], m, serves, none, frees) some = absurd (some (subst (λ s. HasNoneReady t s) (sym serves) none))
falls t a b (x ∷ xs, m, (n, does, serves), none, frees) some =
    let old : Said = a.batched.kernel.parts.said in
    let new : Said = m.batched.kernel.parts.said in
    let le : suc (length (channels_of new)) ≤ length (channels_of old) =
    no_more (t ∷ channels_of new) (channels_of old)
    (λ u. counted t u x a.batched.kernel.parts n.batched.kernel.parts m.batched.kernel.parts does.1
    (dropped t xs n m serves u) (fewer a.batched.kernel.parts n.batched.kernel.parts t x does.1 u)) in
    let same = ap (λ (y : Batches). length y.kernel.parts.said) (freed t (first_answer m t) m b frees) in
    omega (
      arith,
      le,
      same,
      length-map old (λ (y : Tagged (ℕ × (ℕ × Answer))). y.0.0),
      length-map new (λ (y : Tagged (ℕ × (ℕ × Answer))). y.0.0),
    )
