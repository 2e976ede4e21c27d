-- What the calls see stands for the record, after every event.
use Rattle.sk_record.proofs.Names.{◌≡◌, ℕ, zero, suc, Bool, true, false, cond, not, ◌&&◌, ◌||◌, List, [], ◌∷◌, ◌++◌}
use Rattle.sk_record.proofs.Names.{map, Option, Some, None, Ok, inl, inr, refl, sym, ◌∙◌, ap, subst, arith, ◌==◌}
use Rattle.sk_record.proofs.Names.{list_any, filter, Contains, IsTotalOrder, FinMap, get, IsAntisymmetric, Ordering}
use Rattle.sk_record.proofs.Names.{or_parts, or_left, or_right, or_from, or_cases, true≢false, eq-eqb, eqb-true}
use Rattle.sk_record.proofs.Names.{list_any-append, and-true, MarkedEffect, is_marked, hit, hits, dirt, dirtied, keep}
use Rattle.sk_record.proofs.Names.{writes, touches, System, marked_effect, IsLegal, effects, strike, has, without}
use Rattle.sk_record.proofs.Names.{rests, Taken, Commit, Fail, marks, still_marked, Record, recorded, IsFresh, Open}
use Rattle.sk_record.proofs.Names.{UndoState, numbers, opened, still_open, not_struck, IsTidy, is_tag, tags_at}
use Rattle.sk_record.proofs.Names.{step_tags, Committed, Failed, Took, Owned, OwnTagsExact, AllOwnTagsExact, Represents}
use Rattle.sk_record.proofs.Notes.{has_passed}
use Rattle.sk_record.proofs.Struck.{struck_runs, later}
use Rattle.sk_record.proofs.Machine.{Inv, takes, commits, fails, union_is, has_filter, unmarked_hits, longer, accepted_run}

-- ---- flags of the positions that a guess marks
module _ {E V W : Type 0} (R : E → E → Ordering) where
  -- a guess that marks no position owns none
  owns_none : (h : ℕ) (b : Bool) (flags : List Bool) (ts : List (MarkedEffect E V W)) → still_marked ts h ≡ false → Owned h b flags ts
  owns_none h b flags [] none = tt
  owns_none h b [] (f ∷ ts) none = tt
  owns_none h b (x ∷ flags) (f ∷ ts) none =
      let parts = or_parts _ _ none in
      ((λ is. absurd (true≢false (sym is ∙ parts.0))), owns_none h b flags ts parts.1)

  -- where no flag stands
  owned_clear : (h : ℕ) (flags : List Bool) (ts : List (MarkedEffect E V W)) → list_any (λ b. b) flags ≡ false → Owned h false flags ts
  owned_clear h flags [] none = tt
  owned_clear h [] (f ∷ ts) none = tt
  owned_clear h (x ∷ flags) (f ∷ ts) none =
      let parts = or_parts _ _ none in
      ((λ is. parts.0), owned_clear h flags ts parts.1)

  -- one more position
  owned_more : (h : ℕ) (b : Bool) (g : ℕ) (dirty : List E) (ts : List (MarkedEffect E V W)) (f : MarkedEffect E V W) → (is_marked f.mark h ≡ true → hit R g (dirt R g dirty ts) f ≡ b)
      → Owned h b (hits R g dirty ts) ts → Owned h b (hits R g dirty (ts ++ f ∷ [])) (ts ++ f ∷ [])
  owned_more h b g dirty [] f says own = (says, tt)
  owned_more h b g dirty (t ∷ ts) f says own = (own.0, owned_more h b g (dirtied (hit R g dirty t) t dirty) ts f says own.1)

  -- the flags c cut away
  owned_cut : (h : ℕ) (b : Bool) (g : ℕ) (dirty : List E) (cs : List Bool) (ts : List (MarkedEffect E V W)) → Owned h b (hits R g dirty ts) ts → Owned h b (keep cs (hits R g dirty ts)) (keep cs ts)
  owned_cut h b g dirty [] ts own = own
  owned_cut h b g dirty (c ∷ cs) [] own = tt
  owned_cut h b g dirty (true ∷ cs) (t ∷ ts) own = owned_cut h b g (dirtied (hit R g dirty t) t dirty) cs ts own.1
  owned_cut h b g dirty (false ∷ cs) (t ∷ ts) own = (own.0, owned_cut h b g (dirtied (hit R g dirty t) t dirty) cs ts own.1)

  -- a guess that owns flags which stand is struck, and one whose flags don't is not
  struck_mark : (h c : ℕ) (dirty : List E) (ts : List (MarkedEffect E V W)) → Owned h true (hits R c dirty ts) ts → still_marked (keep (hits R c dirty ts) ts) h ≡ false
  struck_mark h c dirty [] own = refl
  struck_mark h c dirty (t ∷ ts) own =
      let P : Bool → Type 0 = λ x. (is_marked t.mark h ≡ true → x ≡ true) → Owned h true (hits R c (dirtied x t dirty) ts) ts → still_marked (keep (x ∷ hits R c (dirtied x t dirty) ts) (t ∷ ts)) h ≡ false in
      let both : P (hit R c dirty t) = elim (hit R c dirty t) as P [
        | true ↦ λ here later. struck_mark h c (writes t ++ dirty) ts later
        | false ↦ λ here later. or_from _ _
            (elim (is_marked t.mark h) as (λ m. (m ≡ true → false ≡ true) → m ≡ false) [ true ↦ λ no_way. absurd (true≢false (sym (no_way refl))) | false ↦ λ _. refl ] here)
            (struck_mark h c dirty ts later)
      ] in
      both own.0 own.1

  unstruck_mark : (h c : ℕ) (dirty : List E) (ts : List (MarkedEffect E V W)) → Owned h false (hits R c dirty ts) ts → still_marked (keep (hits R c dirty ts) ts) h ≡ still_marked ts h
  unstruck_mark h c dirty [] own = refl
  unstruck_mark h c dirty (t ∷ ts) own =
      let P : Bool → Type 0 = λ x. (is_marked t.mark h ≡ true → x ≡ false) → Owned h false (hits R c (dirtied x t dirty) ts) ts → still_marked (keep (x ∷ hits R c (dirtied x t dirty) ts) (t ∷ ts)) h ≡ (is_marked t.mark h || still_marked ts h) in
      let both : P (hit R c dirty t) = elim (hit R c dirty t) as P [
        | true ↦ λ here later. unstruck_mark h c (writes t ++ dirty) ts later
            ∙ sym (ap (λ m. m || still_marked ts h)
            (elim (is_marked t.mark h) as (λ m. (m ≡ true → true ≡ false) → m ≡ false) [ true ↦ λ no_way. absurd (true≢false (no_way refl)) | false ↦ λ _. refl ] here))
        | false ↦ λ here later. ap (λ r. is_marked t.mark h || r) (unstruck_mark h c dirty ts later)
      ] in
      both own.0 own.1

  pub fate_is : (h c : ℕ) (b : Bool) (ts : List (MarkedEffect E V W)) → still_marked ts h ≡ true → Owned h b (hits R c [] ts) ts → still_marked (keep (hits R c [] ts) ts) h ≡ not b
  fate_is h c true ts marked own = struck_mark h c [] ts own
  fate_is h c false ts marked own = unstruck_mark h c [] ts own ∙ marked

  -- where a guess marks a position and no flag stands, what it owns doesn't
  owns_clear : (h : ℕ) (b : Bool) (g : ℕ) (dirty : List E) (ts : List (MarkedEffect E V W)) → still_marked ts h ≡ true → list_any (λ b. b) (hits R g dirty ts) ≡ false → Owned h b (hits R g dirty ts) ts → b ≡ false
  owns_clear h b g dirty [] marked none own = absurd (true≢false (sym marked))
  owns_clear h b g dirty (t ∷ ts) marked none own =
      let parts = or_parts _ _ none in
      elim (or_cases _ _ marked) [
        | inl here ↦ sym (own.0 here) ∙ parts.0
        | inr later ↦ owns_clear h b g (dirtied (hit R g dirty t) t dirty) ts later parts.1 own.1
      ]

-- ---- lists of open guesses
pub and_both : (a b : Bool) → (a && b) ≡ true → (a ≡ true) × (b ≡ true)
and_both true b h = (refl, h)
and_both false b h = absurd (true≢false (sym h))

pub has_more : (g : ℕ) (xs ys : List ℕ) → has g xs ≡ true → has g (xs ++ ys) ≡ true
has_more g xs ys here = list_any-append (λ t. t == g) xs ys ∙ or_left _ _ here

module _ {E V W F N : Type 0} (K : System E V W F N) (total : IsTotalOrder K.order) (exact : IsAntisymmetric K.order) where
  -- what a failure strikes is what the record's failure strikes
  struck_numbers : (ts : List (MarkedEffect E V W)) (gs : List ℕ) (c : ℕ) → has c gs ≡ true → (os : List Open) → AllOwnTagsExact K ts gs os
      → numbers (not_struck c os) ≡ filter (still_marked (keep (hits K.order c [] ts) ts)) (numbers os)
  struck_numbers ts gs c is_open [] own_tags = refl
  struck_numbers ts gs c is_open (o ∷ os) own_tags =
      let left : still_marked (keep (hits K.order c [] ts) ts) o.0 ≡ not (has c o.1) = fate_is K.order o.0 c (has c o.1) ts own_tags.0.marked (own_tags.0.own c is_open) in
      let rest = struck_numbers ts gs c is_open os own_tags.1 in
      let one : (b : Bool) → numbers (cond b (o ∷ not_struck c os) (not_struck c os)) ≡ cond b (o.0 ∷ filter (still_marked (keep (hits K.order c [] ts) ts)) (numbers os)) (filter (still_marked (keep (hits K.order c [] ts) ts)) (numbers os)) = λ b.
      elim b as (λ b. numbers (cond b (o ∷ not_struck c os) (not_struck c os)) ≡ cond b (o.0 ∷ filter (still_marked (keep (hits K.order c [] ts) ts)) (numbers os)) (filter (still_marked (keep (hits K.order c [] ts) ts)) (numbers os))) [
        | true ↦ ap (λ ns. o.0 ∷ ns) rest
        | false ↦ rest
      ] in
      one (not (has c o.1)) ∙ ap (λ b. cond b (o.0 ∷ filter (still_marked (keep (hits K.order c [] ts) ts)) (numbers os)) (filter (still_marked (keep (hits K.order c [] ts) ts)) (numbers os))) (sym left)

pub no_tags : (tags : List ℕ) → ((g : ℕ) → has g tags ≡ true → ⊥) → tags ≡ []
no_tags [] none = refl
no_tags (t ∷ tags) none = absurd (none t (or_left _ _ (eq-eqb t t refl)))

none_in_empty : (g : ℕ) (tags : List ℕ) → tags ≡ [] → has g tags ≡ true → ⊥
none_in_empty g tags empty here = true≢false (sym here ∙ ap (has g) empty)

pub any_at : {A : Type 0} (p : A → Bool) (xs : List A) (x : A) → Contains xs x → p x ≡ true → list_any p xs ≡ true
any_at p [] x (k, lt, is) holds = absurd (omega arith)
any_at p (y ∷ xs) x (zero, lt, is) holds = or_left _ _ (ap p is ∙ holds)
any_at p (y ∷ xs) x (suc k, lt, is) holds = or_right _ _ (any_at p xs x (k, omega arith, is) holds)

-- a step with no tags touches only what has no notes
pub tidy_clean : {E V W : Type 0} (a : UndoState E V) (f : MarkedEffect E V W) → IsTidy a → (e : E) → Contains (touches f) e → step_tags a f ≡ [] → a.logs e ≡ []
tidy_clean a f tidy e there empty =
    tidy.clean e (no_tags (tags_at a e) (λ g here.
    none_in_empty g (step_tags a f) empty
    (has_filter (is_tag a f) g (numbers a.opens ++ marks f.mark)
    ∙ (λ i. or_right (is_marked f.mark g) _ (any_at (λ e. has g (tags_at a e)) (touches f) e there here) i && has_more g (numbers a.opens) (marks f.mark) (tidy.known e g here) i))))

module _ {E V W F N : Type 0} (K : System E V W F N) (total : IsTotalOrder K.order) (exact : IsAntisymmetric K.order) (start : FinMap K.order V) where
  pub inv_of : (r : Record N) (a : UndoState E V) → Represents K start r a → Inv K total exact start r a
  inv_of r a s = record { legal = s.legal; guesses = s.guesses; look = s.look; logs = s.logs }

  -- ---- a step
  -- a new guess is none of the open ones
  fresh_apart : (r : Record N) (own : Option ℕ) (h : ℕ) → IsFresh K start r own → has h r.undecided ≡ true → is_marked own h ≡ true → ⊥
  fresh_apart r None h fresh there is = true≢false (sym is)
  fresh_apart r (Some g) h fresh there is = true≢false (sym there ∙ ap (λ x. has x r.undecided) (sym (eqb-true g h is)) ∙ fresh.0)

  -- no old position depends on it, and no old tags name it
  new_owned : (r : Record N) (own : Option ℕ) (o : Open) → IsFresh K start r own → OwnTagsExact K (effects K start r.entries) r.undecided o → (g : ℕ) → has g (marks own) ≡ true
      → Owned o.0 (has g o.1) (hits K.order g [] (effects K start r.entries)) (effects K start r.entries)
  new_owned r None o fresh t g here = absurd (true≢false (sym here))
  new_owned r (Some h) o fresh t g here =
      let is : h ≡ g = elim (or_cases _ _ here) [ inl same ↦ eqb-true h g same | inr none ↦ absurd (true≢false (sym none)) ] in
      let ts = effects K start r.entries in
      let unnamed : has h o.1 ≡ false = elim (has h o.1) as (λ b. has h o.1 ≡ b → b ≡ false) [ true ↦ λ named. absurd (true≢false (sym (t.known h named) ∙ fresh.0)) | false ↦ λ _. refl ] refl in
      subst (λ g. Owned o.0 (has g o.1) (hits K.order g [] ts) ts) is
      (subst (λ b. Owned o.0 b (hits K.order h [] ts) ts) (sym unnamed) (owned_clear K.order o.0 (hits K.order h [] ts) ts (unmarked_hits K.order h ts fresh.1)))

  told_more : (r : Record N) (f : MarkedEffect E V W) → IsFresh K start r f.mark
      → (o : Open) → has o.0 r.undecided ≡ true → OwnTagsExact K (effects K start r.entries) r.undecided o → OwnTagsExact K (effects K start r.entries ++ f ∷ []) (r.undecided ++ marks f.mark) o
  told_more r f fresh o there t =
      let ts = effects K start r.entries in
      let gs = r.undecided in
      record {
        marked = list_any-append (λ f. is_marked f.mark o.0) ts (f ∷ []) ∙ or_left _ _ t.marked;
        own = λ g here.
            owned_more K.order o.0 (has g o.1) g [] ts f (λ is. absurd (fresh_apart r f.mark o.0 fresh there is))
            (elim (or_cases _ _ (sym (list_any-append (λ t. t == g) gs (marks f.mark)) ∙ here)) [
              | inl before ↦ t.own g before
              | inr its_own ↦ new_owned r f.mark o fresh t g its_own
            ]);
        known = λ g here. has_more g gs (marks f.mark) (t.known g here);
      }

  all_more : (r : Record N) (f : MarkedEffect E V W) → IsFresh K start r f.mark
      → (os : List Open) → ((h : ℕ) → has h (numbers os) ≡ true → has h r.undecided ≡ true) → AllOwnTagsExact K (effects K start r.entries) r.undecided os → AllOwnTagsExact K (effects K start r.entries ++ f ∷ []) (r.undecided ++ marks f.mark) os
  all_more r f fresh [] within own_tags = tt
  all_more r f fresh (o ∷ os) within own_tags =
      (told_more r f fresh o (within o.0 (or_left _ _ (eq-eqb o.0 o.0 refl))) own_tags.0, all_more r f fresh os (λ h here. within h (or_right _ _ here)) own_tags.1)

  -- the new guess is own_tags by its own tags
  told_new : (r : Record N) (f : MarkedEffect E V W) (h : ℕ) → f.mark ≡ Some h → IsFresh K start r (Some h)
      → OwnTagsExact K (effects K start r.entries ++ f ∷ []) (r.undecided ++ h ∷ []) (h, rests K.order (r.undecided ++ h ∷ []) (λ g. dirt K.order g [] (effects K start r.entries)) f)
  told_new r f h is fresh =
      let ts = effects K start r.entries in
      let gs = r.undecided ++ h ∷ [] in
      let p : ℕ → Bool = λ g. hit K.order g (dirt K.order g [] ts) f in
      record {
        marked = list_any-append (λ f. is_marked f.mark h) ts (f ∷ []) ∙ or_right _ _ (or_left _ _ (ap (λ m. is_marked m h) is ∙ eq-eqb h h refl));
        own = λ g here.
            owned_more K.order h (has g (filter p gs)) g [] ts f
            (λ _. sym (has_filter p g gs ∙ ap (λ b. p g && b) here ∙ and-true (p g)))
            (owns_none K.order h (has g (filter p gs)) (hits K.order g [] ts) ts fresh.1);
        known = λ g here. (and_both (p g) (has g gs) (sym (has_filter p g gs) ∙ here)).1;
      }

  all_both : (ts : List (MarkedEffect E V W)) (gs : List ℕ) (os ps : List Open) → AllOwnTagsExact K ts gs os → AllOwnTagsExact K ts gs ps → AllOwnTagsExact K ts gs (os ++ ps)
  all_both ts gs [] ps own_tags more = more
  all_both ts gs (o ∷ os) ps own_tags more = (own_tags.0, all_both ts gs os ps own_tags.1 more)

  told_opened : (r : Record N) (f : MarkedEffect E V W) (own : Option ℕ) → f.mark ≡ own → IsFresh K start r own
      → AllOwnTagsExact K (effects K start r.entries ++ f ∷ []) (r.undecided ++ marks own) (opened own (rests K.order (r.undecided ++ marks own) (λ g. dirt K.order g [] (effects K start r.entries)) f))
  told_opened r f None is fresh = tt
  told_opened r f (Some h) is fresh = (told_new r f h is fresh, tt)

  pub took : (r : Record N) (a : UndoState E V) (n : N) (b : UndoState E V) → Represents K start r a → IsFresh K start r (K.mark n) → Took K a n b → Represents K start (recorded K start r (Taken n)) b
  took r a n b s fresh t =
      let f : MarkedEffect E V W = marked_effect K (K.mark n) (Ok t.effect) in
      let ts = effects K start r.entries in
      let inv = takes K total exact start r a n b (inv_of r a s) fresh t in
      let own_tags : AllOwnTagsExact K (ts ++ f ∷ []) (r.undecided ++ marks (K.mark n)) (a.opens ++ opened (K.mark n) (step_tags a f)) =
      all_both (ts ++ f ∷ []) (r.undecided ++ marks (K.mark n)) a.opens (opened (K.mark n) (step_tags a f))
      (all_more r f fresh a.opens (λ h here. ap (has h) (sym s.guesses) ∙ here) s.own_tags)
      (subst (λ tags. AllOwnTagsExact K (ts ++ f ∷ []) (r.undecided ++ marks (K.mark n)) (opened (K.mark n) tags)) (sym (union_is K total exact start r a (inv_of r a s) f fresh)) (told_opened r f (K.mark n) refl fresh)) in
      record {
        legal = inv.legal;
        guesses = inv.guesses;
        look = inv.look;
        logs = inv.logs;
        own_tags = subst (λ os. AllOwnTagsExact K (effects K start (r.entries ++ n ∷ [])) (r.undecided ++ marks (K.mark n)) os) (sym t.opens)
            (subst (λ ts. AllOwnTagsExact K ts (r.undecided ++ marks (K.mark n)) (a.opens ++ opened (K.mark n) (step_tags a f)))
            (sym (longer K total exact start r n (Ok t.effect) (accepted_run K total exact start r a (inv_of r a s) n (Ok t.effect) t.accepted))) own_tags);
      }

  -- ---- a failure
  told_cut : (r : Record N) (c : ℕ) (gs : List ℕ) → IsLegal K start r.entries → has c r.undecided ≡ true
      → ((g : ℕ) → has g gs ≡ true → has g r.undecided ≡ true)
      → ((g : ℕ) → has g r.undecided ≡ true → still_marked (effects K start (strike K start r.entries c)) g ≡ true → has g gs ≡ true)
      → (o : Open) → has c o.1 ≡ false → OwnTagsExact K (effects K start r.entries) r.undecided o → OwnTagsExact K (effects K start (strike K start r.entries c)) gs o
  told_cut r c gs legal is_open within back o spared t =
      let ts = effects K start r.entries in
      let us = effects K start (strike K start r.entries c) in
      let cs = hits K.order c [] ts in
      let steps : us ≡ keep cs ts = (struck_runs K total exact start r.entries c legal).steps in
      let marked : still_marked us o.0 ≡ true = ap (λ us. still_marked us o.0) steps ∙ fate_is K.order o.0 c (has c o.1) ts t.marked (t.own c is_open) ∙ ap not spared in
      let own : (g : ℕ) → has g r.undecided ≡ true → Owned o.0 (has g o.1) (hits K.order g [] us) us = λ g here.
      let flags : hits K.order g [] us ≡ keep cs (hits K.order g [] ts) = later K total exact start r.entries c g legal in
      subst (λ fs. Owned o.0 (has g o.1) fs us) (sym flags)
      (subst (λ us. Owned o.0 (has g o.1) (keep cs (hits K.order g [] ts)) us) (sym steps) (owned_cut K.order o.0 (has g o.1) g [] cs ts (t.own g here))) in
      record {
        marked = marked;
        own = λ g here. own g (within g here);
        known = λ g named.
            let there = t.known g named in
            elim (still_marked us g) as (λ b. still_marked us g ≡ b → has g gs ≡ true) [
              | true ↦ λ still. back g there still
              | false ↦ λ gone. absurd (true≢false (sym named ∙ owns_clear K.order o.0 (has g o.1) g [] us marked (unmarked_hits K.order g us gone) (own g there)))
            ] refl;
      }

  all_cut : (r : Record N) (c : ℕ) (gs : List ℕ) → IsLegal K start r.entries → has c r.undecided ≡ true
      → ((g : ℕ) → has g gs ≡ true → has g r.undecided ≡ true)
      → ((g : ℕ) → has g r.undecided ≡ true → still_marked (effects K start (strike K start r.entries c)) g ≡ true → has g gs ≡ true)
      → (os : List Open) → AllOwnTagsExact K (effects K start r.entries) r.undecided os → AllOwnTagsExact K (effects K start (strike K start r.entries c)) gs (not_struck c os)
  all_cut r c gs legal is_open within back [] own_tags = tt
  all_cut r c gs legal is_open within back (o ∷ os) own_tags =
      let rest = all_cut r c gs legal is_open within back os own_tags.1 in
      elim (has c o.1) as (λ b. has c o.1 ≡ b → AllOwnTagsExact K (effects K start (strike K start r.entries c)) gs (cond (not b) (o ∷ not_struck c os) (not_struck c os))) [
        | true ↦ λ _. rest
        | false ↦ λ spared. (told_cut r c gs legal is_open within back o spared own_tags.0, rest)
      ] refl

  pub failed : (r : Record N) (a : UndoState E V) (c : ℕ) (b : UndoState E V) → Represents K start r a → has c r.undecided ≡ true → Failed a c b → Represents K start (recorded K start r (Fail c)) b
  failed r a c b s is_open t =
      let us = effects K start (strike K start r.entries c) in
      let guesses : numbers b.opens ≡ filter (still_marked us) r.undecided =
      ap numbers t.opens ∙ struck_numbers K total exact (effects K start r.entries) r.undecided c is_open a.opens s.own_tags
      ∙ (λ i. filter (still_marked (sym (struck_runs K total exact start r.entries c s.legal).steps i)) (s.guesses i)) in
      let inv = fails K total exact start r a c b (inv_of r a s) is_open t guesses in
      record {
        legal = inv.legal;
        guesses = guesses;
        look = inv.look;
        logs = inv.logs;
        own_tags = subst (λ os. AllOwnTagsExact K us (filter (still_marked us) r.undecided) os) (sym t.opens)
            (all_cut r c (filter (still_marked us) r.undecided) s.legal is_open
            (λ g here. (and_both (still_marked us g) (has g r.undecided) (sym (has_filter (still_marked us) g r.undecided) ∙ here)).1)
            (λ g there still. has_passed (still_marked us) g r.undecided still there)
            a.opens s.own_tags);
      }

  -- ---- a commit
  told_still : (ts : List (MarkedEffect E V W)) (gs : List ℕ) (c : ℕ) (o : Open) → OwnTagsExact K ts gs o → OwnTagsExact K ts (without c gs) (o.0, without c o.1)
  told_still ts gs c o t =
      let p : ℕ → Bool = λ t. not (t == c) in record {
        marked = t.marked;
        own = λ g here.
            let both = and_both (p g) (has g gs) (sym (has_filter p g gs) ∙ here) in
            subst (λ b. Owned o.0 b (hits K.order g [] ts) ts) (sym (has_filter p g o.1 ∙ ap (λ b. b && has g o.1) both.0)) (t.own g both.1);
        known = λ g named.
            let both = and_both (p g) (has g o.1) (sym (has_filter p g o.1) ∙ named) in
            has_passed p g gs both.0 (t.known g both.1);
      }

  all_still : (ts : List (MarkedEffect E V W)) (gs : List ℕ) (c : ℕ) (os : List Open) → AllOwnTagsExact K ts gs os → AllOwnTagsExact K ts (without c gs) (still_open c os)
  all_still ts gs c [] own_tags = tt
  all_still ts gs c (o ∷ os) own_tags =
      let rest = all_still ts gs c os own_tags.1 in
      elim (o.0 == c) as (λ b. AllOwnTagsExact K ts (without c gs) (map (λ o. (o.0, without c o.1)) (cond (not b) (o ∷ filter (λ o. not (o.0 == c)) os) (filter (λ o. not (o.0 == c)) os)))) [
        | true ↦ rest
        | false ↦ (told_still ts gs c o own_tags.0, rest)
      ]

  pub committed_still : (r : Record N) (a : UndoState E V) (c : ℕ) (b : UndoState E V) → Represents K start r a → Committed a c b → Represents K start (recorded K start r (Commit c)) b
  committed_still r a c b s t =
      let inv = commits K total exact start r a c b (inv_of r a s) t in
      record {
        legal = inv.legal;
        guesses = inv.guesses;
        look = inv.look;
        logs = inv.logs;
        own_tags = subst (λ os. AllOwnTagsExact K (effects K start r.entries) (without c r.undecided) os) (sym t.opens) (all_still (effects K start r.entries) r.undecided c a.opens s.own_tags);
      }

  pub begins : Represents K start (record { entries = []; undecided = [] }) (record { look = get start; logs = λ e. []; opens = [] })
  begins = record { legal = tt; guesses = refl; look = λ e. refl; logs = λ e. refl; own_tags = tt }
