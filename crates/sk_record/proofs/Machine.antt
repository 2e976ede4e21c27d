-- Values, logs and the numbers of the open guesses are what the plain kernel makes of the record, after every step, commit and failure.
use Rattle.sk_record.proofs.Names.{◌≡◌, ℕ, Bool, true, false, cond, not, ◌&&◌, ◌||◌, List, [], ◌∷◌, ◌++◌, map, Option}
use Rattle.sk_record.proofs.Names.{Some, None, Result, IsOk, Ok, inl, inr, refl, sym, ◌∙◌, ap, subst, ◌==◌, is_ok}
use Rattle.sk_record.proofs.Names.{list_any, filter, IsTotalOrder, FinMap, get, IsAntisymmetric, Ordering, or_parts}
use Rattle.sk_record.proofs.Names.{or_from, or_cases, true≢false, eqb-true, filter-append}
use Rattle.sk_record.proofs.Names.{list_any-append, any-filter_same, and-true, Effect, perform, MarkedEffect, is_in}
use Rattle.sk_record.proofs.Names.{is_marked, hit, hits, dirt, dirtied, writes, touches, written_value, value_after}
use Rattle.sk_record.proofs.Names.{System, outcome, after, marked_effect, run, IsLegal, effects, strike, has, without}
use Rattle.sk_record.proofs.Names.{noted, last_tags, cut, unwound, committed, rests, next_dirty, notes_of, Taken}
use Rattle.sk_record.proofs.Names.{Commit, Fail, marks, still_marked, Record, recorded, IsFresh, deps, Open, UndoState}
use Rattle.sk_record.proofs.Names.{numbers, opened, still_open, tags_at, is_tag, step_tags, Committed, Failed, Took}
use Rattle.sk_record.proofs.Lemmas.{any_no, filter_alike}
use Rattle.sk_record.proofs.Values.{get-put_all, get-run}
use Rattle.sk_record.proofs.Notes.{unwound_is, cut_is}
use Rattle.sk_record.proofs.Tags.{tags_are, notes_more, commit_is, fewer_guesses}
use Rattle.sk_record.proofs.Struck.{struck_runs}

filter_no : {A : Type 0} (xs : List A) → filter (λ x. false) xs ≡ []
filter_no [] = refl
filter_no (x ∷ xs) = filter_no xs

pub nil_right : {A : Type 0} (xs : List A) → xs ++ [] ≡ xs
nil_right [] = refl
nil_right (x ∷ xs) = ap (λ ys. x ∷ ys) (nil_right xs)

any_alike : {A : Type 0} (p q : A → Bool) → ((x : A) → p x ≡ q x) → (xs : List A) → list_any p xs ≡ list_any q xs
any_alike p q h xs = λ i. list_any (λ x. h x i) xs

pub has_filter : (p : ℕ → Bool) (g : ℕ) (gs : List ℕ) → has g (filter p gs) ≡ (p g && has g gs)
has_filter p g gs = any-filter_same (λ t. t == g) p (p g) (λ k is. ap p (eqb-true k g is)) gs

module _ {E : Type 0} (R : E → E → Ordering) {V W : Type 0} where
  -- nothing depends on a guess of which there is no mark
  pub unmarked_hits : (h : ℕ) (ts : List (MarkedEffect E V W)) → still_marked ts h ≡ false → list_any (λ b. b) (hits R h [] ts) ≡ false
  unmarked_hits h [] none = refl
  unmarked_hits h (f ∷ ts) none =
      let parts = or_parts _ _ none in
      let no_hit : hit R h [] f ≡ false = or_from _ _ parts.0 (any_no (touches f)) in
      let P : Bool → Type 0 = λ b. list_any (λ b. b) (b ∷ hits R h (dirtied b f []) ts) ≡ false in
      subst P (sym no_hit) (unmarked_hits h ts parts.1)

  unmarked_dirt : (h : ℕ) (ts : List (MarkedEffect E V W)) → still_marked ts h ≡ false → dirt R h [] ts ≡ []
  unmarked_dirt h [] none = refl
  unmarked_dirt h (f ∷ ts) none =
      let parts = or_parts _ _ none in
      let no_hit : hit R h [] f ≡ false = or_from _ _ parts.0 (any_no (touches f)) in
      let P : Bool → Type 0 = λ b. dirt R h (dirtied b f []) ts ≡ [] in
      subst P (sym no_hit) (unmarked_dirt h ts parts.1)

  -- a guess on which nothing depends may be added
  new_guess : (gs : List ℕ) (h : ℕ) (dirty : ℕ → List E) (ts : List (MarkedEffect E V W)) (e : E) (v : Option V) → list_any (λ b. b) (hits R h (dirty h) ts) ≡ false
      → notes_of R (gs ++ h ∷ []) dirty ts e v ≡ notes_of R gs dirty ts e v
  new_guess gs h dirty [] e v none = refl
  new_guess gs h dirty (f ∷ ts) e v none =
      let parts = or_parts _ _ none in
      let same : rests R (gs ++ h ∷ []) dirty f ≡ rests R gs dirty f =
      filter-append (λ g. hit R g (dirty g) f) gs (h ∷ []) ∙ ap (λ b. rests R gs dirty f ++ cond b (h ∷ []) []) parts.0 ∙ nil_right (rests R gs dirty f) in
      λ i. noted (is_in R (writes f) e) (same i) v (new_guess gs h (next_dirty R (gs ++ h ∷ []) dirty f) ts e (written_value R f.written e v) parts.1 i)

module _ {E V W F N : Type 0} (K : System E V W F N) where
  pub run_append : (s : FinMap K.order V) (ns ms : List N) → run K s (ns ++ ms) ≡ run K (run K s ns) ms
  run_append s [] ms = refl
  run_append s (n ∷ ns) ms = run_append (after K (outcome K s n) s) ns ms

  pub trail_append : (s : FinMap K.order V) (ns ms : List N) → effects K s (ns ++ ms) ≡ effects K s ns ++ effects K (run K s ns) ms
  trail_append s [] ms = refl
  trail_append s (n ∷ ns) ms = ap (λ fs. marked_effect K (K.mark n) (outcome K s n) ∷ fs) (trail_append (after K (outcome K s n) s) ns ms)

  pub legal_append : (s : FinMap K.order V) (ns ms : List N) → IsLegal K s ns → IsLegal K (run K s ns) ms → IsLegal K s (ns ++ ms)
  legal_append s [] ms h k = k
  legal_append s (n ∷ ns) ms h k = (h.0, legal_append (after K (outcome K s n) s) ns ms h.1 k)

  pub legal_last : (s : FinMap K.order V) (ns : List N) (n : N) → IsLegal K s (ns ++ n ∷ []) → IsOk (outcome K (run K s ns) n)
  legal_last s [] n h = h.0
  legal_last s (x ∷ ns) n h = legal_last (after K (outcome K s x) s) ns n h.1

module _ {E V W F N : Type 0} (K : System E V W F N) (total : IsTotalOrder K.order) (exact : IsAntisymmetric K.order) (start : FinMap K.order V) where
  -- what stands of a kernel, but for what the tags of its open guesses tell
  pub record Inv (r : Record N) (a : UndoState E V) : Type 0 where
    pub legal : IsLegal K start r.entries
    pub guesses : numbers a.opens ≡ r.undecided
    pub look : (e : E) → a.look e ≡ get (run K start r.entries) e
    pub logs : (e : E) → a.logs e ≡ notes_of K.order r.undecided (λ g. []) (effects K start r.entries) e (get start e)

  pub inv_tags : (r : Record N) (a : UndoState E V) → Inv r a → (e : E) → tags_at a e ≡ deps K start r e
  inv_tags r a inv e =
      ap (last_tags []) (inv.logs e)
      ∙ ap (λ t. last_tags t (notes_of K.order r.undecided (λ g. []) (effects K start r.entries) e (get start e))) (sym (filter_no r.undecided))
      ∙ tags_are total r.undecided (λ g. []) (effects K start r.entries) e (get start e)

  marks_new : (r : Record N) (own : Option ℕ) → IsFresh K start r own → (e : E) (v : Option V)
      → notes_of K.order (r.undecided ++ marks own) (λ g. []) (effects K start r.entries) e v ≡ notes_of K.order r.undecided (λ g. []) (effects K start r.entries) e v
  marks_new r None fresh e v = ap (λ gs. notes_of K.order gs (λ g. []) (effects K start r.entries) e v) (nil_right r.undecided)
  marks_new r (Some h) fresh e v = new_guess K.order r.undecided h (λ g. []) (effects K start r.entries) e v (unmarked_hits K.order h (effects K start r.entries) fresh.1)

  pub own_dirt : (r : Record N) (own : Option ℕ) → IsFresh K start r own → (g : ℕ) → has g (marks own) ≡ true → dirt K.order g [] (effects K start r.entries) ≡ []
  own_dirt r None fresh g here = absurd (true≢false (sym here))
  own_dirt r (Some h) fresh g here =
      elim (or_cases _ _ here) [
        | inl is ↦ unmarked_dirt K.order g (effects K start r.entries) (ap (still_marked (effects K start r.entries)) (sym (eqb-true h g is)) ∙ fresh.1)
        | inr none ↦ absurd (true≢false (sym none))
      ]

  -- whether a guess that is undecided after the step is among an entity's tags
  tag_is : (r : Record N) (a : UndoState E V) → Inv r a → (own : Option ℕ) → IsFresh K start r own → (g : ℕ) → has g (r.undecided ++ marks own) ≡ true
      → (e : E) → has g (tags_at a e) ≡ is_in K.order (dirt K.order g [] (effects K start r.entries)) e
  tag_is r a inv own fresh g there e =
      ap (has g) (inv_tags r a inv e)
      ∙ has_filter (λ h. is_in K.order (dirt K.order h [] (effects K start r.entries)) e) g r.undecided
      ∙ elim (or_cases _ _ (sym (list_any-append (λ t. t == g) r.undecided (marks own)) ∙ there)) [
        | inl before ↦ ap (λ b. is_in K.order (dirt K.order g [] (effects K start r.entries)) e && b) before ∙ and-true _
        | inr its_own ↦
            let clean : is_in K.order (dirt K.order g [] (effects K start r.entries)) e ≡ false = ap (λ d. is_in K.order d e) (own_dirt r own fresh g its_own) in
            ap (λ b. b && has g r.undecided) clean ∙ sym clean
      ]

  -- the union of the tags is the guesses that the step depends on
  pub union_is : (r : Record N) (a : UndoState E V) → Inv r a → (f : MarkedEffect E V W) → IsFresh K start r f.mark
      → step_tags a f ≡ rests K.order (r.undecided ++ marks f.mark) (λ g. dirt K.order g [] (effects K start r.entries)) f
  union_is r a inv f fresh =
      ap (λ gs. filter (is_tag a f) (gs ++ marks f.mark)) inv.guesses
      ∙ filter_alike (is_tag a f) (λ g. hit K.order g (dirt K.order g [] (effects K start r.entries)) f) (r.undecided ++ marks f.mark)
      (λ g there. λ i. is_marked f.mark g || list_any (λ e. tag_is r a inv f.mark fresh g there e i) (touches f))

  -- ---- a step
  pub numbers_more : (xs ys : List Open) → numbers (xs ++ ys) ≡ numbers xs ++ numbers ys
  numbers_more [] ys = refl
  numbers_more (x ∷ xs) ys = ap (λ ns. x.0 ∷ ns) (numbers_more xs ys)

  numbers_opened : (own : Option ℕ) (tags : List ℕ) → numbers (opened own tags) ≡ marks own
  numbers_opened None tags = refl
  numbers_opened (Some g) tags = refl

  pub accepted_run : (r : Record N) (a : UndoState E V) → Inv r a → (n : N) (o : Result (Effect E V W) F) → perform a.look (K.act n) ≡ o → outcome K (run K start r.entries) n ≡ o
  accepted_run r a inv n o is = (λ i. perform (λ e. sym (inv.look e) i) (K.act n)) ∙ is

  pub longer : (r : Record N) (n : N) (o : Result (Effect E V W) F) → outcome K (run K start r.entries) n ≡ o
      → effects K start (r.entries ++ n ∷ []) ≡ effects K start r.entries ++ marked_effect K (K.mark n) o ∷ []
  longer r n o is = trail_append K start r.entries (n ∷ []) ∙ ap (λ o. effects K start r.entries ++ marked_effect K (K.mark n) o ∷ []) is

  pub takes : (r : Record N) (a : UndoState E V) (n : N) (b : UndoState E V) → Inv r a → IsFresh K start r (K.mark n) → Took K a n b → Inv (recorded K start r (Taken n)) b
  takes r a n b inv fresh t =
      let now = run K start r.entries in
      let ts = effects K start r.entries in
      let f : MarkedEffect E V W = marked_effect K (K.mark n) (Ok t.effect) in
      let accepted : outcome K now n ≡ Ok t.effect = accepted_run r a inv n (Ok t.effect) t.accepted in
      record {
        legal = legal_append K start r.entries (n ∷ []) inv.legal (ap is_ok accepted, tt);
        guesses = ap numbers t.opens ∙ numbers_more a.opens (opened (K.mark n) (step_tags a f))
            ∙ (λ i. inv.guesses i ++ numbers_opened (K.mark n) (step_tags a f) i);
        look = λ e.
            t.look e
            ∙ ap (written_value K.order t.effect.written e) (inv.look e)
            ∙ sym (get-put_all K.order total t.effect.written now e)
            ∙ ap (λ o. get (after K o now) e) (sym accepted)
            ∙ ap (λ s. get s e) (sym (run_append K start r.entries (n ∷ [])));
        logs = λ e.
            t.logs e
            ∙ (λ i. inv.logs e i ++ noted (is_in K.order (writes f) e) (union_is r a inv f fresh i) (inv.look e i) [])
            ∙ (λ i. sym (marks_new r (K.mark n) fresh e (get start e)) i
            ++ noted (is_in K.order (writes f) e) (rests K.order (r.undecided ++ marks (K.mark n)) (λ g. dirt K.order g [] ts) f) (get-run K total start r.entries e i) [])
            ∙ sym (notes_more total (r.undecided ++ marks (K.mark n)) (λ g. []) ts f e (get start e))
            ∙ ap (λ fs. notes_of K.order (r.undecided ++ marks (K.mark n)) (λ g. []) fs e (get start e)) (sym (longer r n (Ok t.effect) accepted));
      }

  -- ---- a commit
  numbers_still : (g : ℕ) (os : List Open) → numbers (still_open g os) ≡ without g (numbers os)
  numbers_still g [] = refl
  numbers_still g (o ∷ os) =
      elim (o.0 == g) as (λ b. numbers (map (λ o. (o.0, without g o.1)) (cond (not b) (o ∷ filter (λ o. not (o.0 == g)) os) (filter (λ o. not (o.0 == g)) os))) ≡ cond (not b) (o.0 ∷ without g (numbers os)) (without g (numbers os))) [
        | true ↦ numbers_still g os
        | false ↦ ap (λ ns. o.0 ∷ ns) (numbers_still g os)
      ]

  pub commits : (r : Record N) (a : UndoState E V) (g : ℕ) (b : UndoState E V) → Inv r a → Committed a g b → Inv (recorded K start r (Commit g)) b
  commits r a g b inv t = record {
    legal = inv.legal;
    guesses = ap numbers t.opens ∙ numbers_still g a.opens ∙ ap (without g) inv.guesses;
    look = λ e. t.look e ∙ inv.look e;
    logs = λ e. t.logs e ∙ ap (committed g) (inv.logs e) ∙ sym (commit_is total r.undecided g (λ h. []) (effects K start r.entries) e (get start e));
  }

  -- ---- a failure
  -- the value that is unwound to is the struck run's
  pub unwound_run : (r : Record N) (a : UndoState E V) (g : ℕ) → Inv r a → has g r.undecided ≡ true → (e : E)
      → unwound g (a.logs e) (a.look e) ≡ get (run K start (strike K start r.entries g)) e
  unwound_run r a g inv is_open e =
      let ts = effects K start r.entries in
      (λ i. unwound g (inv.logs e i) (inv.look e i))
      ∙ ap (unwound g (notes_of K.order r.undecided (λ h. []) ts e (get start e))) (get-run K total start r.entries e)
      ∙ unwound_is total r.undecided g is_open (λ h. []) ts e (get start e) refl
      ∙ ap (λ fs. value_after K.order fs e (get start e)) (sym (struck_runs K total exact start r.entries g inv.legal).steps)
      ∙ sym (get-run K total start (strike K start r.entries g) e)

  -- the notes that are left are the struck run's
  pub cut_run : (r : Record N) (a : UndoState E V) (g : ℕ) → Inv r a → has g r.undecided ≡ true → (e : E)
      → cut g (a.logs e) ≡ notes_of K.order (recorded K start r (Fail g)).undecided (λ h. []) (effects K start (strike K start r.entries g)) e (get start e)
  cut_run r a g inv is_open e =
      let ts = effects K start r.entries in
      let us = effects K start (strike K start r.entries g) in
      ap (cut g) (inv.logs e)
      ∙ sym (cut_is total r.undecided g is_open (λ h. []) (λ h. []) (λ h x clean. refl) ts e (get start e) refl)
      ∙ ap (λ fs. notes_of K.order r.undecided (λ h. []) fs e (get start e)) (sym (struck_runs K total exact start r.entries g inv.legal).steps)
      ∙ sym (fewer_guesses total r.undecided (still_marked us) (λ h. []) us e (get start e) (λ h none. unmarked_hits K.order h us none))

  pub fails : (r : Record N) (a : UndoState E V) (g : ℕ) (b : UndoState E V) → Inv r a → has g r.undecided ≡ true → Failed a g b
      → numbers b.opens ≡ (recorded K start r (Fail g)).undecided → Inv (recorded K start r (Fail g)) b
  fails r a g b inv is_open t guesses = record {
    legal = (struck_runs K total exact start r.entries g inv.legal).legal;
    guesses = guesses;
    look = λ e. t.look e ∙ unwound_run r a g inv is_open e;
    logs = λ e. t.logs e ∙ cut_run r a g inv is_open e;
  }
