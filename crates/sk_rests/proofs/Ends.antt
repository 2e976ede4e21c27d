-- What the log says of the end.
use Rattle.sk_rests.proofs.Names.{◌≡◌, ℕ, zero, suc, Bool, true, false, not, cond, ◌&&◌, List, [], ◌∷◌, ◌++◌, map}
use Rattle.sk_rests.proofs.Names.{Option, Some, None, inl, inr, refl, sym, ◌∙◌, ap, subst, arith, ◌==◌, ◌⊎◌, ◌↔◌}
use Rattle.sk_rests.proofs.Names.{slice_get, list_any, filter, Contains, IsTotalOrder, FinMap, IsAntisymmetric}
use Rattle.sk_rests.proofs.Names.{true≢false, or_left, or_right, eq-eqb, map-append, Contains-append_left}
use Rattle.sk_rests.proofs.Names.{Contains-append_right, Contains-append_cases, MarkedEffect, Dep, hit, hits, System}
use Rattle.sk_rests.proofs.Names.{effects, struck, has, rests, next_dirty, tags_along, said_by, said_with, Event}
use Rattle.sk_rests.proofs.Names.{Commit, record_of, effects_of, undecided_of, Undecided, Committed, Failed, numbers}
use Rattle.sk_rests.proofs.Names.{Machine, Tagged, has_filter, any_at, flags, has_fail, entries_are, undecided_is}
use Rattle.sk_rests.proofs.Names.{first_or, tail_of, got_map, merged_run, Told, untagged, with_told, moves_of, first}
use Rattle.sk_rests.proofs.Names.{Logged, failed_in, kept, resting_among, said_to, IsSaid, IsAsLogged, StandsAsLogged}
use Rattle.sk_rests.proofs.Names.{RangeIsStruck}
use Rattle.sk_rests.proofs.Lists.{kept_more, failed_is, rested}
use Rattle.sk_rests.proofs.Along.{Stands, stands_first, along}

-- ---- outputs
-- the part of a guess list
filter_alike : (p q : ℕ → Bool) (xs : List ℕ) → ((x : ℕ) → has x xs ≡ true → p x ≡ q x) → filter p xs ≡ filter q xs
filter_alike p q [] h = refl
filter_alike p q (x ∷ xs) h =
    (λ i. cond (h x (or_left _ _ (eq-eqb x x refl)) i) (x ∷ filter p xs) (filter p xs))
    ∙ ap (λ rest. cond (q x) (x ∷ rest) rest) (filter_alike p q xs (λ y there. h y (or_right _ _ there)))

first_or_later : {A : Type 0} (y : A) (ys : List A) (x : A) → Contains (y ∷ ys) x → (y ≡ x) ⊎ Contains ys x
first_or_later y ys x (zero, lt, is) = inl is
first_or_later y ys x (suc k, lt, is) = inr (k, omega (arith, lt), is)

nothing_there : {A P : Type 0} (x : A) → Contains [] x → P
nothing_there x (k, lt, is) = absurd (omega (arith, lt))

some_same : {A : Type 0} {x y : A} → Some x ≡ Some y → x ≡ y
some_same is = cc

module _ {K V O F N : Type 0} (own : System K V (ℕ × O) F N) where
  -- what one step says, with those of its guesses that are among these
  said_among : (t : ℕ) (said : Option (ℕ × O)) (guesses tags : List ℕ)
      → said_by own t said (filter (λ g. has g tags) guesses) ≡ resting_among guesses (said_by own t said tags)
  said_among t None guesses tags = refl
  said_among t (Some w) guesses tags =
      elim (own.goes_to w == t) as
      (λ b. cond b ((w, filter (λ g. has g tags) guesses) ∷ []) [] ≡ resting_among guesses (cond b ((w, tags) ∷ []) [])) [
        | true ↦ refl
        | false ↦ refl
      ]

  -- where the flags of effects are what is logged, so are the tags along them
  said_as_logged : (t : ℕ) (guesses : List ℕ) (dirty : ℕ → List K) (ts : List (MarkedEffect K V (ℕ × O)))
      (log : List (Logged N O))
      → map (λ f. f.said) ts ≡ map (λ r. r.said) log
      → ((g : ℕ) → has g guesses ≡ true → hits own.order g (dirty g) ts ≡ map (λ r. has g r.rests) log)
      → said_with own t (tags_along own.order guesses dirty ts) ts ≡ resting_among guesses (said_to own t log)
  said_as_logged t guesses dirty [] [] said flagged = refl
  said_as_logged t guesses dirty [] (r ∷ log) said flagged = cc
  said_as_logged t guesses dirty (f ∷ ts) [] said flagged = cc
  said_as_logged t guesses dirty (f ∷ ts) (r ∷ log) said flagged =
      let one : f.said ≡ r.said = cc in
      let others : map (λ f. f.said) ts ≡ map (λ r. r.said) log = cc in
      let tags : rests own.order guesses dirty f ≡ filter (λ g. has g r.rests) guesses =
      filter_alike (λ g. hit own.order g (dirty g) f) (λ g. has g r.rests) guesses
      (λ g here. ap (first_or false) (flagged g here)) in
      (λ i. said_by own t (one i) (tags i)
      ++ said_as_logged t guesses (next_dirty own.order guesses dirty f) ts log others
      (λ g here. ap tail_of (flagged g here)) i)
      ∙ ap (λ xs. xs ++ resting_among guesses (said_to own t log)) (said_among t r.said guesses r.rests)
      ∙ sym (map-append (λ x. (x.0, filter (λ g. has g x.1) guesses)) (said_by own t r.said r.rests)
      (said_to own t log))

  -- each output that some steps said has what one of them depended on
  of_some : (t : ℕ) (said : Option (ℕ × O)) (tags : List ℕ) (x : Tagged (ℕ × O)) → Contains (said_by own t said tags) x
      → x.1 ≡ tags
  of_some t None tags x there = nothing_there x there
  of_some t (Some w) tags x there =
      elim (own.goes_to w == t) as (λ b. Contains (cond b ((w, tags) ∷ []) []) x → x.1 ≡ tags) [
        | true ↦ λ there. elim (first_or_later (w, tags) [] x there) [
          | inl is ↦ ap (λ (y : Tagged (ℕ × O)). y.1) (sym is)
          | inr later ↦ nothing_there x later
        ]
        | false ↦ λ there. nothing_there x there
      ] there

  rested_by : (t g : ℕ) (log : List (Logged N O)) (x : Tagged (ℕ × O)) → Contains (said_to own t log) x
      → has g x.1 ≡ true → rested g log ≡ true
  rested_by t g [] x there here = nothing_there x there
  rested_by t g (r ∷ log) x there here =
      elim (Contains-append_cases (said_by own t r.said r.rests) (said_to own t log) x there) [
        | inl its ↦ or_left _ _ (ap (has g) (sym (of_some t r.said r.rests x its)) ∙ here)
        | inr later ↦ or_right _ _ (rested_by t g log x later here)
      ]

-- what was taken out stands first, and has no tags
record Parts {O : Type 0} (guesses : List ℕ) (ws : List (ℕ × O)) (xs ys : List (Tagged (ℕ × O))) : Type 0 where
  out : List (Tagged (ℕ × O))
  waiting : List (Tagged (ℕ × O))
  split : ys ≡ out ++ waiting
  gone : ws ≡ map (λ x. x.0) out
  texts : xs ≡ resting_among guesses waiting
  clear : (x : Tagged (ℕ × O)) → Contains out x → filter (λ g. has g x.1) guesses ≡ []

parted : {O : Type 0} (guesses : List ℕ) (ws : List (ℕ × O)) (xs ys : List (Tagged (ℕ × O)))
    → untagged ws ++ xs ≡ resting_among guesses ys → Parts guesses ws xs ys
parted guesses [] xs ys is = record
    { out = []; waiting = ys; split = refl; gone = refl; texts = is; clear = λ x there. nothing_there x there }
parted guesses (w ∷ ws) xs [] is = cc
parted {O = O} guesses (w ∷ ws) xs (y ∷ ys) is =
    let first : (w, []) ≡ (y.0, filter (λ g. has g y.1) guesses) = ap (first_or (w, [])) is in
    let none : filter (λ g. has g y.1) guesses ≡ [] = sym (ap (λ (z : Tagged (ℕ × O)). z.1) first) in
    let p = parted guesses ws xs ys (ap tail_of is) in
    record {
      out = y ∷ p.out;
      waiting = p.waiting;
      split = ap (λ zs. y ∷ zs) p.split;
      gone = λ i. (first i).0 ∷ p.gone i;
      texts = p.texts;
      clear = λ x there. elim (first_or_later y p.out x there) [
        | inl is ↦ subst (λ (z : Tagged (ℕ × O)). filter (λ g. has g z.1) guesses ≡ []) is none
        | inr later ↦ p.clear x later
      ];
    }

module _ {K V O F N : Type 0} (own : System K V (ℕ × O) F N) (total : IsTotalOrder own.order)
    (exact : IsAntisymmetric own.order) (start : FinMap own.order V) where
  module _ (es : List (Event N)) (log : List (Logged N O)) (told : Told O) (b : Machine K V (ℕ × O))
      (s : Stands own start es log (with_told told b)) where
    -- the open guesses are the undecided ones
    opens : numbers b.state.opens ≡ undecided_of own start es
    opens = ap numbers s.stands.merged.opens ∙ s.stands.stands.state.guesses

    undecided_now : (g : ℕ) → b.status g ≡ Some Undecided → has g (undecided_of own start es) ≡ true
    undecided_now g is =
        (undecided_is own start es s.stands.stands.sound g).1
        (((merged_run own total exact start es (with_told told b) s.stands).statuses g Undecided).0 is)

    status_now : (g : ℕ) → (has g (undecided_of own start es) ≡ true) ⊎ Contains es (Commit g)
        → (b.status g ≡ Some Undecided) ⊎ (b.status g ≡ Some Committed)
    status_now g (inl here) =
        inl (((merged_run own total exact start es (with_told told b) s.stands).statuses g Undecided).1
        ((undecided_is own start es s.stands.stands.sound g).0 here))
    status_now g (inr told_so) = inr
        (((merged_run own total exact start es (with_told told b) s.stands).statuses g Committed).1 told_so)

    depends_now : (k g : ℕ) (r : Logged N O) → slice_get s.left k ≡ Some r → b.status g ≡ Some Undecided
        → (has g r.rests ≡ true) ↔ Dep (effects_of own start es) g k
    depends_now k g r at is =
        let flag : slice_get (struck own start (record_of own start es) g) k ≡ Some (has g r.rests) =
        ap (λ bs. slice_get bs k) (s.flags g (undecided_now g is)) ∙ got_map (λ r. has g r.rests) s.left k r at in
        let law = flags own total exact start (record_of own start es) g k in (
          λ here. law.0 (flag ∙ ap Some here),
          λ d. some_same (sym flag ∙ law.1 d),
        )

    -- all outputs, with what they depend on of what is undecided
    outputs : (t : ℕ) → untagged (told t) ++ b.texts t ≡ resting_among (numbers b.state.opens) (said_to own t s.left)
    outputs t =
        let us = undecided_of own start es in
        s.stands.merged.texts t
        ∙ s.stands.stands.texts t
        ∙ ap (λ ns. said_with own t (tags_along own.order us (λ g. []) (effects own start ns)) (effects own start ns))
        (entries_are own start es)
        ∙ said_as_logged own t us (λ g. []) (effects_of own start es) s.left s.said s.flags
        ∙ ap (λ us. resting_among us (said_to own t s.left)) (sym opens)

    -- what depends on nothing that is undecided depends on committed guesses alone
    settles : (t : ℕ) (x : Tagged (ℕ × O)) (g : ℕ) → Contains (said_to own t s.left) x
        → filter (λ h. has h x.1) (numbers b.state.opens) ≡ [] → has g x.1 ≡ true
        → b.status g ≡ Some Committed
    settles t x g there none here =
        elim (s.decided g (rested_by own t g s.left x there here)) [
          | inl open_now ↦
              absurd (true≢false (sym (has_filter (λ h. has h x.1) g (numbers b.state.opens)
              ∙ (λ i. here i && (ap (has g) opens ∙ open_now) i)) ∙ ap (has g) none))
          | inr told_so ↦ ((merged_run own total exact start es (with_told told b) s.stands).statuses g Committed).1
              told_so
        ]

    channel : (t : ℕ) → IsSaid (said_to own t s.left) t told b
    channel t =
        let p = parted (numbers b.state.opens) (told t) (b.texts t) (said_to own t s.left) (outputs t) in
        record {
          out = p.out;
          waiting = p.waiting;
          split = p.split;
          gone = p.gone;
          texts = p.texts;
          settled = λ x g there here.
              settles t x g (subst (λ xs. Contains xs x) (sym p.split) (Contains-append_left p.out p.waiting x there))
              (p.clear x there) here;
          ready = λ x g there none here.
              settles t x g (subst (λ xs. Contains xs x) (sym p.split) (Contains-append_right p.out p.waiting x there))
              none here;
        }

    failed_now : (g : ℕ) → (has g (failed_in es) ≡ true) ↔ (b.status g ≡ Some Failed)
    failed_now g =
        let status = (merged_run own total exact start es (with_told told b) s.stands).statuses g Failed in (
          λ here. status.1 ((has_fail es g).0 (sym (failed_is es g) ∙ here)),
          λ is. failed_is es g ∙ (has_fail es g).1 (status.0 is),
        )

    pub ends : IsAsLogged own start es log told b
    ends = record {
      committed = λ g.
          let status = (merged_run own total exact start es (with_told told b) s.stands).statuses g Committed in
          (λ there. status.1 there, λ is. status.0 is);
      failed = failed_now;
      entries = s.entries ∙ ap (map (λ r. r.entry)) s.is;
      depends = λ k g r at is. depends_now k g r (ap (λ xs. slice_get xs k) s.is ∙ at) is;
      decided = λ r g there here.
          status_now g
          (s.decided g (any_at (λ r. has g r.rests) s.left r (subst (λ xs. Contains xs r) (sym s.is) there) here));
      channels = λ t. subst (λ xs. IsSaid (said_to own t xs) t told b) s.is (channel t);
    }

pub as_logged : {K V O F N : Type 0} (own : System K V (ℕ × O) F N) → StandsAsLogged own
as_logged own total exact goes start a b cs log told starts logs =
    ends own total exact start (moves_of cs) log told b
    (along own total exact start goes [] [] cs log (λ t. []) told a b
    (stands_first own start (with_told (λ t. []) a) (first own total exact start a starts)) logs)

pub range_struck : (N O : Type 0) → RangeIsStruck N O
range_struck N O failed more first last log range =
    kept_more failed more log ∙ (λ i. filter (λ r. not (list_any (λ g. range g i) r.rests)) (kept failed log))
