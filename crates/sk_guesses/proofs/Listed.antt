-- What the lists of dependents have, after writes and decisions.
use Rattle.sk_guesses.proofs.Names.{◌≡◌, ℕ, Bool, true, false, cond, not, ◌||◌, ◌&&◌, List, [], ◌∷◌, ◌++◌, map, Option}
use Rattle.sk_guesses.proofs.Names.{refl, sym, ◌∙◌, ap, subst, ◌==◌, AllByRecursion, list_all, list_any, eq_by_cmp}
use Rattle.sk_guesses.proofs.Names.{Ordering, IsTotalOrder, IsAntisymmetric, true≢false, false≢true, or_left, or_right}
use Rattle.sk_guesses.proofs.Names.{append-nil, list_any-append, is_in, Merges, Note, has, without, cut, carried}
use Rattle.sk_guesses.proofs.Names.{committed, noted, last_tags, IsGrowing, numbers, has_filter, same_last, and_both}
use Rattle.sk_guesses.proofs.Names.{tags_by, with_tags, AllExact, IsAlmostExact, AllAlmostExact, Covers, Depends}
use Rattle.sk_guesses.proofs.Names.{with_entities, without_entity, OpenGuess, opens_of, dependents_of, depending}
use Rattle.sk_guesses.proofs.Names.{left_to, relieved_beyond, not_resting, after_commit, without_list}
use Rattle.sk_guesses.proofs.Opens.{all_kept, depending_keeps, same_opens}
use Rattle.sk_guesses.proofs.Places.{with_in, with_all_in, without_in, tied_is}
use Rattle.std.proofs.lemmas.Bool.Decides.{nat_tests}
use Rattle.std.proofs.Common.{arith}

picked : (h : ℕ) (c : Bool) (xs ys : List ℕ) → has h (cond c xs ys) ≡ cond c (has h xs) (has h ys)
picked h true xs ys = refl
picked h false xs ys = refl

module _ {K : Type 0} {R : K → K → Ordering} (total : IsTotalOrder R) (exact : IsAntisymmetric R) where
  -- ---- lists that are exact
  pub exact_as : (tags later : K → List ℕ) → ((k : K) → tags k ≡ later k) → (os : List (OpenGuess K)) → AllExact R tags os → AllExact R later os
  exact_as tags later same [] all = tt
  exact_as tags later same (o ∷ os) all = ((λ k. all.0 k ∙ ap (has o.id) (same k)), exact_as tags later same os all.1)

  pub exact_at : (tags : K → List ℕ) (g : ℕ) (os : List (OpenGuess K)) → AllExact R tags os → has g (numbers (opens_of os)) ≡ true → (k : K) → is_in R (dependents_of g os) k ≡ has g (tags k)
  exact_at tags g [] all here k = absurd (true≢false (sym here))
  exact_at tags g (o ∷ os) all here k = grind (arith, nat_tests, all.0 k, exact_at tags g os all.1)

  -- ---- one key more depends on the tags of a step
  module _ (tags : List ℕ) (ks : List K) (x : K) (base : K → List ℕ) where
    after : (h : ℕ) (k : K) → has h (with_tags R tags (ks ++ x ∷ []) base k) ≡ cond (is_in R ks k || (eq_by_cmp R k x || false)) (has h tags) (has h (base k))
    after h k =
        ap (λ b. has h (cond b tags (base k))) (list_any-append (eq_by_cmp R k) ks (x ∷ []))
        ∙ picked h (is_in R ks k || (eq_by_cmp R k x || false)) tags (base k)

    before : (h : ℕ) (k : K) → has h (with_tags R tags ks base k) ≡ cond (is_in R ks k) (has h tags) (has h (base k))
    before h k = picked h (is_in R ks k) tags (base k)

    -- it is added to the lists of some of these, among them those in which it is not
    pub depend_part : (added : List ℕ) → ((g : ℕ) → has g (base x) ≡ true → has g tags ≡ true) → ((g : ℕ) → has g tags ≡ true → (has g (base x) || has g added) ≡ true) → ((g : ℕ) → has g added ≡ true → has g tags ≡ true)
        → (os : List (OpenGuess K)) → AllExact R (with_tags R tags ks base) os → AllExact R (with_tags R tags (ks ++ x ∷ []) base) (map (depending R added x) os)
    depend_part added covers covered within [] all = tt
    depend_part added covers covered within (o ∷ os) all =
        let into = with_in total exact o.dependents x in
        let same = λ (k : K). tied_is total exact k x in
        let rest = depend_part added covers covered within os all.1 in
        grind (arith, nat_tests, into, same, before o.id, after o.id, rest)

  -- where it is in all of them already
  pub depends_none : (own tags : List ℕ) (x : K) (os : List (OpenGuess K)) → ((g : ℕ) → has g tags ≡ true → has g own ≡ true) → Depends R own tags x os os
  depends_none own tags x os covers = record {
    added = [];
    all = λ g there. or_left _ _ (covers g there);
    none = λ g here. absurd (false≢true here);
    opens = none_added os;
  } where
    none_added : (os : List (OpenGuess K)) → os ≡ map (depending R [] x) os
    none_added [] = refl
    none_added (o ∷ os) = ap (λ ys. o ∷ ys) (none_added os)

  pub depends_all : (own tags : List ℕ) (x : K) (os new : List (OpenGuess K)) → new ≡ map (depending R tags x) os → Depends R own tags x os new
  depends_all own tags x os new is = record { added = tags; all = λ g there. or_right _ _ there; none = λ g here. here; opens = is }

  pub depends_opens : (own tags : List ℕ) (x : K) (os new : List (OpenGuess K)) → Depends R own tags x os new → opens_of new ≡ opens_of os
  depends_opens own tags x os new d = ap opens_of d.opens ∙ same_opens (depending R d.added x) (depending_keeps R d.added x) os

  pub depends_exact : (tags : List ℕ) (ks : List K) (x : K) (base : K → List ℕ) (own : List ℕ) → own ≡ base x → ((g : ℕ) → has g (base x) ≡ true → has g tags ≡ true)
      → (os new : List (OpenGuess K)) → Depends R own tags x os new → AllExact R (with_tags R tags ks base) os → AllExact R (with_tags R tags (ks ++ x ∷ []) base) new
  depends_exact tags ks x base own is covers os new d all =
      subst (AllExact R (with_tags R tags (ks ++ x ∷ []) base)) (sym d.opens)
      (depend_part tags ks x base d.added covers (λ g there. ap (λ ys. has g ys || has g d.added) (sym is) ∙ d.all g there) d.none os all)

  -- ---- what is taken out again
  -- where some of these were added
  pub almost_of : (tags : List ℕ) (ks all : List K) (base : K → List ℕ) → Covers R tags all base → ((k : K) → is_in R ks k ≡ true → is_in R all k ≡ true)
      → (os : List (OpenGuess K)) → AllExact R (with_tags R tags ks base) os → AllAlmostExact R base all os
  almost_of tags ks all base covers within [] exactly = tt
  almost_of tags ks all base covers within (o ∷ os) exactly =
      grind (arith, nat_tests, covers, within, exactly.0, almost_of tags ks all base covers within os exactly.1)

  module _ (base : K → List ℕ) (x : K) (ks : List K) where
    stays_one : (o : OpenGuess K) → has o.id (base x) ≡ true → IsAlmostExact R base (x ∷ ks) o → IsAlmostExact R base ks o
    stays_one o is almost = grind (arith, nat_tests, λ (k : K). tied_is total exact k x)

    goes_one : (o : OpenGuess K) → has o.id (base x) ≡ false → IsAlmostExact R base (x ∷ ks) o → IsAlmostExact R base ks (record o { dependents = without_entity R o.dependents x })
    goes_one o is almost =
        grind (arith, nat_tests, without_in total exact o.dependents x, λ (k : K). tied_is total exact k x)

    rightly_one : (o : OpenGuess K) → is_in R o.dependents x ≡ has o.id (base x) → IsAlmostExact R base (x ∷ ks) o → IsAlmostExact R base ks o
    rightly_one o right almost = grind (arith, nat_tests, λ (k : K). tied_is total exact k x)

    pub left_more : (tags : List ℕ) → tags ≡ base x → (os : List (OpenGuess K)) → AllAlmostExact R base (x ∷ ks) os → AllAlmostExact R base ks (map (left_to R tags x) os)
    left_more tags same [] all = tt
    left_more tags same (o ∷ os) all = grind (arith, nat_tests, stays_one o, goes_one o, left_more tags same os all.1)

    -- the entity is taken out so too where only the lists are visited that may be wrong: outside of these its lists are right
    pub left_beyond : (tags own : List ℕ) → own ≡ base x → (os : List (OpenGuess K)) → AllByRecursion (λ o. has o.id tags ≡ false → is_in R o.dependents x ≡ has o.id (base x)) os
        → AllAlmostExact R base (x ∷ ks) os → AllAlmostExact R base ks (map (relieved_beyond R tags own x) os)
    left_beyond tags own same [] right all = tt
    left_beyond tags own same (o ∷ os) right all =
        grind (arith, nat_tests, stays_one o, goes_one o, rightly_one o, right.0, left_beyond tags own same os right.1 all.1)

  pub none_left : (base : K → List ℕ) (os : List (OpenGuess K)) → AllAlmostExact R base [] os → AllExact R base os
  none_left base [] all = tt
  none_left base (o ∷ os) all = ((λ k. all.0.others k refl), none_left base os all.1)

  -- ---- a guess
  pub exact_more : (tags : K → List ℕ) (os : List (OpenGuess K)) (o : OpenGuess K) → AllExact R tags os → ((k : K) → is_in R o.dependents k ≡ has o.id (tags k)) → AllExact R tags (os ++ o ∷ [])
  exact_more tags [] o all own = (own, tt)
  exact_more tags (x ∷ os) o all own = (all.0, exact_more tags os o all.1 own)

  -- the list of a guess that was not there has what its step wrote
  pub begun : (g : ℕ) (tags : List ℕ) (ks : List K) (base : K → List ℕ) → has g tags ≡ true → ((k : K) → has g (base k) ≡ false)
      → (k : K) → is_in R (with_entities R [] ks) k ≡ has g (with_tags R tags ks base k)
  begun g tags ks base own fresh k = grind (arith, nat_tests, with_all_in total exact ks [] k, fresh k)

  -- ---- what is written
  last_more : {V : Type 0} (t : List ℕ) (ns : List (Note V)) (n : Note V) → last_tags t (ns ++ n ∷ []) ≡ n.tags
  last_more t [] n = refl
  last_more t (x ∷ ns) n = last_more x.tags ns n

  noted_last : {V : Type 0} (b : Bool) (tags : List ℕ) (v : Option V) (log : List (Note V)) → (b ≡ true → tags ≡ [] → log ≡ []) → last_tags [] (log ++ noted b tags v []) ≡ cond b tags (last_tags [] log)
  noted_last false tags v log clean = ap (last_tags []) (append-nil log)
  noted_last true [] v log clean = ap (last_tags []) (append-nil log ∙ clean refl refl)
  noted_last true (t ∷ tags) v log clean = last_more [] log (record { tags = t ∷ tags; before = v })

  -- what is written depends on what the step depends on
  pub tags_written : {V : Type 0} (old new : K → List (Note V)) (look : K → Option V) (tags : List ℕ) (ks : List K) → ((k : K) → is_in R ks k ≡ true → tags ≡ [] → old k ≡ [])
      → ((k : K) → Merges [] (old k ++ noted (is_in R ks k) tags (look k) []) (new k)) → (k : K) → with_tags R tags ks (tags_by old) k ≡ tags_by new k
  tags_written old new look tags ks clean did k =
      sym (noted_last (is_in R ks k) tags (look k) (old k) (clean k)) ∙ same_last [] (old k ++ noted (is_in R ks k) tags (look k) []) (new k) (did k)

-- ---- logs that grow
abbrev pub AllSeen : {V : Type 0} → ℕ → List (Note V) → Type 0
AllSeen g ns = list_all (λ n. has g n.tags) ns ≡ true

abbrev pub carries : {V : Type 0} → ℕ → List (Note V) → Bool
carries g ns = list_any (λ n. has g n.tags) ns

without_other : (h g : ℕ) (tags : List ℕ) → (h == g) ≡ false → has h (without g tags) ≡ has h tags
without_other h g tags apart = has_filter (λ t. not (t == g)) h tags ∙ ap (λ b. not b && has h tags) apart

module _ {V : Type 0} where
  carry_tail : (g : ℕ) (ns : List (Note V)) → AllSeen g ns → AllSeen g (carried g ns)
  carry_tail g [] all = refl
  carry_tail g (n ∷ ns) all =
      let here = (and_both _ _ all).0 in
      subst (λ b. AllSeen g (cond b (n ∷ ns) (carried g ns))) (sym here) all

  grow_tail : (n : Note V) (ns : List (Note V)) → IsGrowing (n ∷ ns) → IsGrowing ns
  grow_tail n ns grows g = grind (arith, nat_tests, carry_tail g ns, and_both, grows g)

  grow_head : (n : Note V) (ns : List (Note V)) → IsGrowing (n ∷ ns) → (g : ℕ) → has g n.tags ≡ true → AllSeen g ns
  grow_head n ns grows g here = (and_both _ _ (subst (λ b. AllSeen g (cond b (n ∷ ns) (carried g ns))) here (grows g))).1

  all_last : (g : ℕ) (tags : List ℕ) (ns : List (Note V)) → AllSeen g ns → has g tags ≡ true → has g (last_tags tags ns) ≡ true
  all_last g tags [] all here = here
  all_last g tags (n ∷ ns) all here = let both = and_both _ _ all in all_last g n.tags ns both.1 both.0

  -- where some note depends on a guess, the last does
  pub rests_last : (g : ℕ) (tags : List ℕ) (ns : List (Note V)) → AllSeen g (carried g ns) → carries g ns ≡ true → has g (last_tags tags ns) ≡ true
  rests_last g tags [] all here = absurd (false≢true here)
  rests_last g tags (n ∷ ns) all here = grind (arith, nat_tests, rests_last g n.tags ns, all_last g n.tags ns)

  -- ---- a commit
  committed_more : (h g : ℕ) (t u w : List ℕ) (n : Note V) (rest ns : List (Note V)) → has h w ≡ has h n.tags → (has h t ≡ true → has h n.tags ≡ true) → has h u ≡ has h t
      → ((v : List ℕ) → has h v ≡ has h n.tags → has h (last_tags v rest) ≡ has h (last_tags n.tags ns))
      → has h (last_tags u (noted true w n.before rest)) ≡ has h (last_tags n.tags ns)
  committed_more h g t u [] n rest ns is grow same next = grind (arith, nat_tests, next u)
  committed_more h g t u (x ∷ w) n rest ns is grow same next = next (x ∷ w) is

  committed_last : (h g : ℕ) → (h == g) ≡ false → (t u : List ℕ) (ns : List (Note V)) → (has h t ≡ true → AllSeen h ns) → IsGrowing ns → has h u ≡ has h t → has h (last_tags u (committed g ns)) ≡ has h (last_tags t ns)
  committed_last h g apart t u [] all grows same = same
  committed_last h g apart t u (n ∷ ns) all grows same =
      committed_more h g t u (without g n.tags) n (committed g ns) ns (without_other h g n.tags apart) (λ here. (and_both _ _ (all here)).0) same
      (λ v is. committed_last h g apart n.tags v ns (λ here. grow_head n ns grows h here) (grow_tail n ns grows) is)

  -- ---- a failure
  last_seen : (h : ℕ) (t : List ℕ) (ns : List (Note V)) → has h t ≡ true → AllSeen h ns → has h (last_tags t ns) ≡ true
  last_seen h t [] here all = here
  last_seen h t (n ∷ ns) here all = let both = and_both _ _ all in last_seen h n.tags ns both.0 both.1

  left_from : (g h : ℕ) (t : List ℕ) (ns : List (Note V)) → (has h t ≡ true → AllSeen h ns) → IsGrowing ns → has h (last_tags t (cut g ns)) ≡ true → has h (last_tags t ns) ≡ true
  left_from g h t [] all grows here = here
  left_from g h t (n ∷ ns) all grows here =
      let rest = left_from g h n.tags ns (grow_head n ns grows h) (grow_tail n ns grows) in
      grind (arith, nat_tests, last_seen h t (n ∷ ns), rest)

  pub uncut : (g : ℕ) (log : List (Note V)) → carries g log ≡ false → cut g log ≡ log
  uncut g [] none = refl
  uncut g (n ∷ ns) none = grind (arith, nat_tests, uncut g ns)

  -- where the last note does not depend on a guess, none does
  pub none_carried : (g : ℕ) (log : List (Note V)) → IsGrowing log → has g (last_tags [] log) ≡ false → carries g log ≡ false
  none_carried g log grows none = grind (arith, nat_tests, rests_last g [] log (grows g))

module _ {K V : Type 0} {R : K → K → Ordering} (total : IsTotalOrder R) (exact : IsAntisymmetric R) (g : ℕ) (old new : K → List (Note V)) (grows : (k : K) → IsGrowing (old k)) where
  pub committed_exact : ((k : K) → Merges [] (committed g (old k)) (new k)) → (os : List (OpenGuess K)) → AllExact R (tags_by old) os → AllExact R (tags_by new) (after_commit g os)
  committed_exact did [] all = tt
  committed_exact did (o ∷ os) all =
      let last = λ (apart : (o.id == g) ≡ false) (k : K).
      committed_last o.id g apart [] [] (old k) (λ none. absurd (false≢true none)) (grows k) refl in
      let merged = λ (k : K). same_last [] (committed g (old k)) (new k) (did k) in
      grind (arith, nat_tests, last, merged, committed_exact did os all.1)

  module _ (did : (k : K) → new k ≡ cut g (old k)) where
    still_among : (h : ℕ) (k : K) → has h (tags_by new k) ≡ true → has h (tags_by old k) ≡ true
    still_among h k here = left_from g h [] (old k) (λ none. absurd (false≢true none)) (grows k) (ap (λ log. has h (last_tags [] log)) (sym (did k)) ∙ here)

    untouched : (k : K) → has g (tags_by old k) ≡ false → tags_by old k ≡ tags_by new k
    untouched k none = ap (last_tags []) (sym (did k ∙ uncut g (old k) (none_carried g (old k) (grows k) none)))

    almost_all : (ks : List K) → ((k : K) → is_in R ks k ≡ has g (tags_by old k)) → (os : List (OpenGuess K)) → AllExact R (tags_by old) os → AllAlmostExact R (tags_by new) ks os
    almost_all ks just [] all = tt
    almost_all ks just (o ∷ os) all =
        grind (arith, nat_tests, all.0, just, still_among o.id, untouched, almost_all ks just os all.1)

    -- what the failed guess's list has is taken out of the lists of those that stay undecided
    pub failed_almost : (ks : List K) → ((k : K) → is_in R ks k ≡ has g (tags_by old k)) → (os : List (OpenGuess K)) → AllExact R (tags_by old) os → AllAlmostExact R (tags_by new) ks (not_resting g os)
    failed_almost ks just os all = all_kept (IsAlmostExact R (tags_by new) ks) (λ o. not (has g o.tags)) os (almost_all ks just os all)

-- the list of a failed guess may be moved out before
pub taken_first : {K : Type 0} (g : ℕ) (os : List (OpenGuess K)) → AllByRecursion (λ (o : OpenGuess K). has o.id o.tags ≡ true) os → not_resting g (without_list g os) ≡ not_resting g os
taken_first g [] own = refl
taken_first g (o ∷ os) own = grind (arith, nat_tests, taken_first g os own.1)
