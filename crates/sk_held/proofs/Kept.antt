-- Just the tokens of undecided and struck guesses are held, behind each call of the kernel too.
use Rattle.sk_held.proofs.Names.{or_assoc, not-true, and_parts, ◌≡◌, ℕ, ◌≤◌, Bool, true, false, cond, not, ◌||◌, ◌&&◌}
use Rattle.sk_held.proofs.Names.{List, [], ◌∷◌, ◌++◌, map, Option, Some, None, Ok, inl, inr, refl, sym, ◌∙◌, ap, subst}
use Rattle.sk_held.proofs.Names.{arith, ◌==◌, nat_lt, AllByRecursion, filter, nat_cmp, Ordering, true≢false, eqb-true}
use Rattle.sk_held.proofs.Names.{or_cases, ltb-true, ltb-false, map-append, append-nil, list_any-append}
use Rattle.sk_held.proofs.Names.{IsStrictlySortedBy-filter, has, without, rests_on, with_drawn, with_failure}
use Rattle.sk_held.proofs.Names.{with_status, Open, numbers, not_struck, still_open, Status, Failed, Struck, has_filter}
use Rattle.sk_held.proofs.Names.{KeptView, AreStatuses, none_drawn, struck_with, open_in, Token, statuses_redeemed}
use Rattle.sk_held.proofs.Names.{more_rises, Deed, Parts, next_of, Commits, FailsIn, Forgets, Takes, ids, is_out}
use Rattle.sk_held.proofs.Names.{AreHeld}
use Rattle.std.specs.List.Sorted.{IsStrictlySortedBy}
use Rattle.sk_record.specs.declared.status.Status.TheVariants.{Committed}
use Rattle.sk_guesses.specs.declared.guess.Redeemed.TheVariants as redeemed_as

module _ (v : KeptView) (os : List Open) (status : ℕ → Option Status) (agrees : AreStatuses v os status) where
  -- no guess is undecided and struck
  apart : (g : ℕ) → has g (numbers os) ≡ true → has g v.struck ≡ true → ⊥
  apart g here struck = true≢false (sym here ∙ agrees.undecided g ∙ ap open_in (agrees.struck g struck))

  -- one that is out was drawn
  drawn : (g : ℕ) → is_out v os g ≡ true → g ≤ v.drawn
  drawn g out =
      elim (nat_lt v.drawn g) as (λ b. nat_lt v.drawn g ≡ b → g ≤ v.drawn) [
        | true ↦ λ is.
            let none = agrees.fresh g (ltb-true v.drawn g is) in
            elim (or_cases (has g (numbers os)) (has g v.struck) out) [
              | inl here ↦ absurd (true≢false (sym here ∙ agrees.undecided g ∙ ap open_in none))
              | inr struck ↦ absurd (let no : Some Struck ≡ None = sym (agrees.struck g struck) ∙ none in cc)
            ]
        | false ↦ λ is. let le = ltb-false v.drawn g is in omega (arith, le)
      ] refl

still_numbers : (g : ℕ) (os : List Open) → numbers (still_open g os) ≡ without g (numbers os)
still_numbers g [] = refl
still_numbers g (o ∷ os) =
    elim (o.0 == g) as (λ b. numbers (map (λ (p : Open). (p.0, without g p.1)) (cond (not b) (o ∷ filter (λ (p : Open). not (p.0 == g)) os) (filter (λ (p : Open). not (p.0 == g)) os))) ≡ cond (not b) (o.0 ∷ without g (numbers os)) (without g (numbers os))) [
      | true ↦ still_numbers g os
      | false ↦ ap (λ ns. o.0 ∷ ns) (still_numbers g os)
    ]

-- another undecided guess stays undecided or is struck
other_goes : (g h : ℕ) (os : List Open) → (h == g) ≡ false → has h (numbers os) ≡ (has h (numbers (not_struck g os)) || has h (struck_with g os))
other_goes g h [] other = refl
other_goes g h (o ∷ os) other =
    let rest = other_goes g h os other in
    elim (has g o.1) as (λ r. ((o.0 == h) || has h (numbers os)) ≡ (has h (numbers (cond (not r) (o ∷ not_struck g os) (not_struck g os))) || has h (numbers (cond (r && not (o.0 == g)) (o ∷ filter (λ (p : Open). has g p.1 && not (p.0 == g)) os) (filter (λ (p : Open). has g p.1 && not (p.0 == g)) os))))) [
      | true ↦ elim (o.0 == g) as (λ b. (o.0 == g) ≡ b → ((o.0 == h) || has h (numbers os)) ≡ (has h (numbers (not_struck g os)) || has h (numbers (cond (not b) (o ∷ filter (λ (p : Open). has g p.1 && not (p.0 == g)) os) (filter (λ (p : Open). has g p.1 && not (p.0 == g)) os))))) [
        | true ↦ λ is. ap (λ b. b || has h (numbers os)) (none o.0 is) ∙ rest
        | false ↦ λ _. ap (λ b. (o.0 == h) || b) rest ∙ swap (o.0 == h) (has h (numbers (not_struck g os))) (has h (struck_with g os))
      ] refl
      | false ↦ ap (λ b. (o.0 == h) || b) rest ∙ sym (or_assoc (o.0 == h) (has h (numbers (not_struck g os))) (has h (struck_with g os)))
    ] where
      none : (n : ℕ) → (n == g) ≡ true → (n == h) ≡ false
      none n is = elim (n == h) as (λ b. (n == h) ≡ b → b ≡ false) [
        | true ↦ λ same. absurd (true≢false (sym is ∙ ap (λ k. k == g) (eqb-true n h same) ∙ other))
        | false ↦ λ _. refl
      ] refl

      swap : (a b c : Bool) → (a || (b || c)) ≡ (b || (a || c))
      swap true true c = refl
      swap true false c = refl
      swap false b c = refl

struck_is_other : (g h : ℕ) (os : List Open) → has h (struck_with g os) ≡ true → (h == g) ≡ false
struck_is_other g h [] here = absurd (true≢false (sym here))
struck_is_other g h (o ∷ os) here =
    elim (has g o.1 && not (o.0 == g)) as (λ b. (has g o.1 && not (o.0 == g)) ≡ b → has h (numbers (cond b (o ∷ filter (λ (p : Open). has g p.1 && not (p.0 == g)) os) (filter (λ (p : Open). has g p.1 && not (p.0 == g)) os))) ≡ true → (h == g) ≡ false) [
      | true ↦ λ is there. elim (or_cases (o.0 == h) (has h (struck_with g os)) there) [
        | inl same ↦ ap (λ n. n == g) (sym (eqb-true o.0 h same)) ∙ not-true (o.0 == g) (and_parts (has g o.1) (not (o.0 == g)) is).1
        | inr later ↦ struck_is_other g h os later
      ]
      | false ↦ λ _ later. struck_is_other g h os later
    ] refl here

module _ {K V O : Type 0} (m n : Parts K V O) (ts us : List Token) (held : AreHeld m ts) where
  abbrev Own : Type 0
  Own = AllByRecursion (λ t. t.kernel ≡ n.guesses.kernel) us

  -- one token went
  module _ (g : ℕ) (others : ids us ≡ without g (ids ts)) where
    left : (h : ℕ) → has h (ids us) ≡ (not (h == g) && is_out m.guesses m.opens h)
    left h = ap (has h) others ∙ has_filter (λ t. not (t == g)) h (ids ts) ∙ ap (λ b. not (h == g) && b) (held.just h)

    rises : IsStrictlySortedBy nat_cmp (ids us)
    rises = subst (IsStrictlySortedBy nat_cmp) (sym others) (IsStrictlySortedBy-filter nat_cmp (λ t. not (t == g)) (ids ts) held.rising)

    pub committed : (R : K → K → Ordering) → Own → Commits R m g n → AreHeld n us
    committed R own commits = record {
      own = own;
      rising = rises;
      just = λ h.
          left h
          ∙ elim (h == g) as (λ b. (h == g) ≡ b → (not b && (has h (numbers m.opens) || has h m.guesses.struck)) ≡ ((not b && has h (numbers m.opens)) || has h m.guesses.struck)) [
            | true ↦ λ is. sym (none h is)
            | false ↦ λ _. refl
          ] refl
          ∙ ap (λ b. b || has h m.guesses.struck) (sym (has_filter (λ t. not (t == g)) h (numbers m.opens)) ∙ ap (has h) (sym (ap numbers commits.opens ∙ still_numbers g m.opens)))
          ∙ ap (λ (v : KeptView). has h (numbers n.opens) || has h v.struck) (sym commits.guesses);
      status = with_status g Committed held.status;
      agrees = commits.agrees held.status held.agrees;
    } where
      none : (h : ℕ) → (h == g) ≡ true → has h m.guesses.struck ≡ false
      none h is = elim (has h m.guesses.struck) as (λ b. has h m.guesses.struck ≡ b → b ≡ false) [
        | true ↦ λ struck. absurd (apart m.guesses m.opens held.status held.agrees h (ap (λ k. has k (numbers m.opens)) (eqb-true h g is) ∙ commits.undecided) struck)
        | false ↦ λ _. refl
      ] refl

    pub forgotten : (R : K → K → Ordering) → Own → Forgets R m g n → AreHeld n us
    forgotten R own forgets = record {
      own = own;
      rising = rises;
      just = λ h.
          left h
          ∙ elim (h == g) as (λ b. (h == g) ≡ b → (not b && (has h (numbers m.opens) || has h m.guesses.struck)) ≡ (has h (numbers m.opens) || (not b && has h m.guesses.struck))) [
            | true ↦ λ is. ap (λ b. b || false) (sym (none h is))
            | false ↦ λ _. refl
          ] refl
          ∙ ap (λ b. has h (numbers m.opens) || b) (sym (has_filter (λ t. not (t == g)) h m.guesses.struck))
          ∙ ap (λ (p : Parts K V O). is_out p.guesses p.opens h) (sym forgets.left);
      status = held.status;
      agrees = subst (λ (p : Parts K V O). AreStatuses p.guesses p.opens held.status) (sym forgets.left) (statuses_redeemed m.guesses m.opens (Ok (redeemed_as.Struck g)) held.status held.agrees);
    } where
      none : (h : ℕ) → (h == g) ≡ true → has h (numbers m.opens) ≡ false
      none h is = elim (has h (numbers m.opens)) as (λ b. has h (numbers m.opens) ≡ b → b ≡ false) [
        | true ↦ λ here. absurd (apart m.guesses m.opens held.status held.agrees h here (ap (λ k. has k m.guesses.struck) (eqb-true h g is) ∙ forgets.struck))
        | false ↦ λ _. refl
      ] refl

    pub failed : (R : K → K → Ordering) → Own → FailsIn R m g n → AreHeld n us
    failed R own fails = record {
      own = own;
      rising = rises;
      just = λ h. left h ∙ elim (h == g) as (λ b. (h == g) ≡ b → (not b && (has h (numbers m.opens) || has h m.guesses.struck)) ≡ is_out n.guesses n.opens h) [
        | true ↦ λ is. sym (none h is)
        | false ↦ λ other.
            ap (λ b. b || has h m.guesses.struck) (other_goes g h m.opens other)
            ∙ turn (has h (numbers (not_struck g m.opens))) (has h (struck_with g m.opens)) (has h m.guesses.struck)
            ∙ ap (λ b. has h (numbers (not_struck g m.opens)) || b) (sym (list_any-append (λ t. t == h) m.guesses.struck (struck_with g m.opens)))
            ∙ ap (λ (os : List Open). has h (numbers os) || has h (m.guesses.struck ++ struck_with g m.opens)) (sym fails.opens)
            ∙ ap (λ (v : KeptView). has h (numbers n.opens) || has h v.struck) (sym fails.guesses)
      ] refl;
      status = with_failure g m.opens held.status;
      agrees = after;
    } where
      after : AreStatuses n.guesses n.opens (with_failure g m.opens held.status)
      after = fails.agrees held.status held.agrees

      turn : (a b c : Bool) → ((a || b) || c) ≡ (a || (c || b))
      turn true b c = refl
      turn false true true = refl
      turn false true false = refl
      turn false false true = refl
      turn false false false = refl

      not_open : (h : ℕ) → (h == g) ≡ true → has h (numbers n.opens) ≡ false
      not_open h is = after.undecided h ∙ ap (λ b. open_in (cond b (Some Failed) (cond (rests_on g m.opens h) (Some Struck) (held.status h)))) is

      not_kept : (h : ℕ) → (h == g) ≡ true → has h n.guesses.struck ≡ false
      not_kept h is = elim (has h n.guesses.struck) as (λ b. has h n.guesses.struck ≡ b → b ≡ false) [
        | true ↦ λ struck. absurd (elim (or_cases (has h m.guesses.struck) (has h (struck_with g m.opens)) (sym (list_any-append (λ t. t == h) m.guesses.struck (struck_with g m.opens)) ∙ ap (λ (v : KeptView). has h v.struck) (sym fails.guesses) ∙ struck)) [
          | inl before ↦ apart m.guesses m.opens held.status held.agrees h (ap (λ k. has k (numbers m.opens)) (eqb-true h g is) ∙ fails.undecided) before
          | inr new ↦ true≢false (sym is ∙ struck_is_other g h m.opens new)
        ])
        | false ↦ λ _. refl
      ] refl

      none : (h : ℕ) → (h == g) ≡ true → is_out n.guesses n.opens h ≡ false
      none h is = ap (λ b. b || has h n.guesses.struck) (not_open h is) ∙ not_kept h is

-- ---- other calls
no_numbers : IsStrictlySortedBy nat_cmp []
unfolding IsStrictlySortedBy
no_numbers = tt

-- none is drawn
pub none_held : {K V O : Type 0} (m : Parts K V O) (ts : List Token) (number limit : ℕ) → m.guesses ≡ none_drawn number limit → m.opens ≡ [] → ts ≡ [] → AreHeld m ts
none_held m ts number limit guesses opens none = record {
  own = subst (AllByRecursion (λ t. t.kernel ≡ m.guesses.kernel)) (sym none) tt;
  rising = subst (λ us. IsStrictlySortedBy nat_cmp (ids us)) (sym none) no_numbers;
  just = λ g. ap (λ us. has g (ids us)) none ∙ (λ i. is_out (sym guesses i) (sym opens i) g);
  status = λ _. None;
  agrees = record {
    undecided = λ g. ap (λ (os : List Open). has g (numbers os)) opens;
    struck = λ g kept. absurd (true≢false (sym kept ∙ ap (λ (v : KeptView). has g v.struck) guesses));
    fresh = λ g above. refl;
  };
}

module _ {K V O : Type 0} (m n : Parts K V O) (ts : List Token) (held : AreHeld m ts) where
  -- guesses stay
  pub same : n.guesses ≡ m.guesses → n.opens ≡ m.opens → AreHeld n ts
  same guesses opens = record {
    own = subst (λ (v : KeptView). AllByRecursion (λ t. t.kernel ≡ v.kernel) ts) (sym guesses) held.own;
    rising = held.rising;
    just = λ h. held.just h ∙ (λ i. is_out (sym guesses i) (sym opens i) h);
    status = held.status;
    agrees = subst (λ (v : KeptView). AreStatuses v n.opens held.status) (sym guesses) (subst (λ (os : List Open). AreStatuses m.guesses os held.status) (sym opens) held.agrees);
  }

  pub stepped : (R : K → K → Ordering) (d : Deed K V O) → Takes R m d None n → AreHeld n ts
  stepped R d takes = record {
    own = subst (λ (v : KeptView). AllByRecursion (λ t. t.kernel ≡ v.kernel) ts) (sym takes.guesses) held.own;
    rising = held.rising;
    just = λ h.
        held.just h
        ∙ ap (λ gs. has h gs || has h m.guesses.struck) (sym (takes.numbered ∙ append-nil (numbers m.opens)))
        ∙ ap (λ (v : KeptView). has h (numbers n.opens) || has h v.struck) (sym takes.guesses);
    status = held.status;
    agrees = takes.agrees held.status held.agrees;
  }

  -- the token of a guess that is drawn is pushed
  pub drew : (R : K → K → Ordering) (d : Deed K V O) (t : Token) → t ≡ record { kernel = m.guesses.kernel; id = next_of m.guesses } → Takes R m d (Some (next_of m.guesses)) n → AreHeld n (ts ++ t ∷ [])
  drew R d t is takes =
      let number : t.id ≡ next_of m.guesses = ap (λ (u : Token). u.id) is in
      let many : ids (ts ++ t ∷ []) ≡ ids ts ++ t.id ∷ [] = map-append (λ (u : Token). u.id) ts (t ∷ []) in
      record {
        own = subst (λ (v : KeptView). AllByRecursion (λ u. u.kernel ≡ v.kernel) (ts ++ t ∷ [])) (sym takes.guesses) (own_more ts held.own (ap (λ (u : Token). u.kernel) is));
        rising = subst (IsStrictlySortedBy nat_cmp) (sym many) (more_rises (ids ts) t.id held.rising (λ g here.
            let le = drawn m.guesses m.opens held.status held.agrees g (sym (held.just g) ∙ here) in omega (arith, number, le)));
        just = λ h.
            ap (has h) many
            ∙ list_any-append (λ x. x == h) (ids ts) (t.id ∷ [])
            ∙ ap (λ b. b || ((t.id == h) || false)) (held.just h)
            ∙ between (has h (numbers m.opens)) (has h m.guesses.struck) ((t.id == h) || false)
            ∙ ap (λ k. (has h (numbers m.opens) || ((k == h) || false)) || has h m.guesses.struck) number
            ∙ ap (λ b. b || has h m.guesses.struck) (sym (list_any-append (λ x. x == h) (numbers m.opens) (next_of m.guesses ∷ [])) ∙ ap (has h) (sym takes.numbered))
            ∙ ap (λ (v : KeptView). has h (numbers n.opens) || has h v.struck) (sym takes.guesses);
        status = with_drawn (Some (next_of m.guesses)) held.status;
        agrees = takes.agrees held.status held.agrees;
      } where
        own_more : (us : List Token) → AllByRecursion (λ u. u.kernel ≡ m.guesses.kernel) us → t.kernel ≡ m.guesses.kernel → AllByRecursion (λ u. u.kernel ≡ m.guesses.kernel) (us ++ t ∷ [])
        own_more [] all one = (one, tt)
        own_more (u ∷ us) all one = (all.0, own_more us all.1 one)

        between : (a b c : Bool) → ((a || b) || c) ≡ ((a || c) || b)
        between true b c = refl
        between false true true = refl
        between false true false = refl
        between false false true = refl
        between false false false = refl
