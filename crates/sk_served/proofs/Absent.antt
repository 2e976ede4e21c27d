-- A key that is absent and depends on no guess when an entry is taken is absent in each plain run of what is left, at that entry.
use Rattle.sk_served.proofs.Names.{◌≡◌, ℕ, Bool, true, false, ◌||◌, List, ◌∷◌, ◌++◌, map, Option, Some, None, Result}
use Rattle.sk_served.proofs.Names.{Ok, Err, IsOk, inl, inr, refl, sym, ap, subst, ◌∙◌, ◌==◌, list_any, IsTotalOrder}
use Rattle.sk_served.proofs.Names.{eq_by_cmp, FinMap, get, IsAntisymmetric, or_parts, or_from, or_cases, true≢false}
use Rattle.sk_served.proofs.Names.{false≢true, eqb-true, false_from_ne_true, append_assoc, list_any-append, Effect}
use Rattle.sk_served.proofs.Names.{MarkedEffect, is_in, is_marked, hit, hits, dirt, dirtied, keep, writes, touches}
use Rattle.sk_served.proofs.Names.{System, outcome, after, marked_effect, put_all, run, IsLegal, effects, strike, has}
use Rattle.sk_served.proofs.Names.{without, Event, Taken, Commit, Fail, IsTagOf, IsSound, record_of, marks}
use Rattle.sk_served.proofs.Names.{still_marked, Record, recorded, all_recorded, no_record, IsFresh, dirt_is, SameOff}
use Rattle.sk_served.proofs.Names.{any_same, dirtied_other, dirtied_same, has_filter, nil_right, own_dirt, AgreeOn}
use Rattle.sk_served.proofs.Names.{Alike, same_accepted, none_of_both, get-put_all_other, get-put_all_same, each_event}
use Rattle.sk_served.proofs.Names.{entries_are, fresh_from, sound_before, undecided_is, recorded_more, and_both}
use Rattle.std.proofs.Common.{[]}

none_in : {E : Type 0} (p : E → Bool) (es : List E) → ((e : E) → p e ≡ false) → list_any p es ≡ false
none_in p [] h = refl
none_in p (e ∷ es) h = or_from _ _ (h e) (none_in p es h)

module _ {E V W F N : Type 0} (K : System E V W F N) (total : IsTotalOrder K.order) (lacks : N → E → Bool) where
  -- the dirty entities of each guess after a step
  abbrev pub dirtier : (ℕ → List E) → MarkedEffect E V W → ℕ → List E
  dirtier dirty f g = dirtied (hit K.order g (dirty g) f) f (dirty g)

  -- The entity is absent, and none of these guesses has dirtied it.
  abbrev pub IsClean : List ℕ → (ℕ → List E) → FinMap K.order V → E → Type 0
  IsClean gs dirty s e = (get s e ≡ None) × ((g : ℕ) → has g gs ≡ true → is_in K.order (dirty g) e ≡ false)

  abbrev pub LacksClean : List ℕ → (ℕ → List E) → FinMap K.order V → N → Type 0
  LacksClean gs dirty s n = (e : E) → lacks n e ≡ true → IsClean gs dirty s e

  -- So is what each entry lacks, at that entry.
  abbrev pub AllClean : List ℕ → (ℕ → List E) → FinMap K.order V → List N → Type 0
  AllClean gs dirty s [] = Unit {0}
  AllClean gs dirty s (n ∷ ns) =
      LacksClean gs dirty s n × AllClean gs (dirtier dirty (marked_effect K (K.mark n) (outcome K s n))) (after K (outcome K s n) s) ns

  one_longer : (gs : List ℕ) (dirty : ℕ → List E) (s : FinMap K.order V) (ns : List N) (n : N) → AllClean gs dirty s ns
      → LacksClean gs (λ g. dirt K.order g (dirty g) (effects K s ns)) (run K s ns) n → AllClean gs dirty s (ns ++ n ∷ [])
  one_longer gs dirty s [] n h last = (last, tt)
  one_longer gs dirty s (m ∷ ns) n h last =
      (h.0, one_longer gs (dirtier dirty (marked_effect K (K.mark m) (outcome K s m))) (after K (outcome K s m) s) ns n h.1 last)

  fewer : (gs hs : List ℕ) → ((g : ℕ) → has g hs ≡ true → has g gs ≡ true)
      → (dirty : ℕ → List E) (s : FinMap K.order V) (ns : List N)
      → AllClean gs dirty s ns → AllClean hs dirty s ns
  fewer gs hs within dirty s [] h = tt
  fewer gs hs within dirty s (n ∷ ns) h = (
    λ e lacking. let clean = h.0 e lacking in (clean.0, λ g there. clean.1 g (within g there)),
    fewer gs hs within (dirtier dirty (marked_effect K (K.mark n) (outcome K s n))) (after K (outcome K s n) s) ns h.1,
  )

  -- a guess of which there is no mark dirties nothing
  one_guess_more : (gs : List ℕ) (c : ℕ) (dirty : ℕ → List E) (s : FinMap K.order V) (ns : List N) → dirty c ≡ []
      → still_marked (effects K s ns) c ≡ false
      → AllClean gs dirty s ns → AllClean (gs ++ c ∷ []) dirty s ns
  one_guess_more gs c dirty s [] clear unmarked h = tt
  one_guess_more gs c dirty s (n ∷ ns) clear unmarked h =
      let f = marked_effect K (K.mark n) (outcome K s n) in
      let parts = or_parts _ _ unmarked in
      let no_hit : hit K.order c (dirty c) f ≡ false =
      ap (λ d. hit K.order c d f) clear ∙ or_from _ _ parts.0 (none_in (is_in K.order []) (touches f) (λ e. refl)) in
      let clear_then : dirtier dirty f c ≡ [] = ap (λ b. dirtied b f (dirty c)) no_hit ∙ clear in (
        λ e lacking.
            let clean = h.0 e lacking in (
              clean.0,
              λ g there.
                  elim (or_cases _ _ (sym (list_any-append (λ t. t == g) gs (c ∷ [])) ∙ there)) [
                    | inl before ↦ clean.1 g before
                    | inr own ↦
                        elim (or_cases _ _ own) [
                          | inl is ↦ ap (λ d. is_in K.order d e) (ap dirty (sym (eqb-true c g is)) ∙ clear)
                          | inr none ↦ absurd (true≢false (sym none))
                        ]
                  ],
            ),
        one_guess_more gs c (dirtier dirty f) (after K (outcome K s n) s) ns clear_then parts.1 h.1,
      )

  marks_more : (gs : List ℕ) (mark : Option ℕ) (dirty : ℕ → List E) (s : FinMap K.order V) (ns : List N)
      → ((c : ℕ) → mark ≡ Some c → (dirty c ≡ []) × (still_marked (effects K s ns) c ≡ false)) → AllClean gs dirty s ns → AllClean (gs ++ marks mark) dirty s ns
  marks_more gs None dirty s ns fresh h = subst (λ gs. AllClean gs dirty s ns) (sym (nil_right gs)) h
  marks_more gs (Some c) dirty s ns fresh h = one_guess_more gs c dirty s ns (fresh c refl).0 (fresh c refl).1 h

  -- ---- a failure
  agree : (d : List E) (s t : FinMap K.order V) → Alike d s t → (es : List E)
      → list_any (is_in K.order d) es ≡ false → AgreeOn (get s) (get t) es
  agree d s t h [] none = tt
  agree d s t h (e ∷ es) none = let parts = or_parts _ _ none in (h e parts.0, agree d s t h es parts.1)

  module _ (c : ℕ) (gs : List ℕ) (undecided : has c gs ≡ true) where
    -- what is left of the entries, where t runs those that are left and s runs all
    LeftClean : (ℕ → List E) → FinMap K.order V → FinMap K.order V → (ℕ → List E) → List N → Type 0
    LeftClean dirty s t left ns = AllClean gs left t (keep (hits K.order c (dirty c) (effects K s ns)) ns)

    abbrev LeftBy : (ℕ → List E) → FinMap K.order V → FinMap K.order V → (ℕ → List E) → N → List N
        → Result (Effect E V W) F → Bool → Type 0
    LeftBy dirty s t left n ns o b =
        AllClean gs left t (keep (b ∷ hits K.order c (dirtied b (marked_effect K (K.mark n) o) (dirty c)) (effects K (after K o s) ns)) (n ∷ ns))

    one_more : (dirty : ℕ → List E) (s t : FinMap K.order V) (left : ℕ → List E) → Alike (dirty c) s t
        → ((h : ℕ) → SameOff K.order (dirty c) (dirty h) (left h))
        → (n : N) (ns : List N)
        → ((dirty : ℕ → List E) (s t : FinMap K.order V) (left : ℕ → List E) → Alike (dirty c) s t → ((h : ℕ) → SameOff K.order (dirty c) (dirty h) (left h)) → IsLegal K s ns → AllClean gs dirty s ns → LeftClean dirty s t left ns)
        → (o : Result (Effect E V W) F) → outcome K s n ≡ o → IsOk o → IsLegal K (after K o s) ns
        → LacksClean gs dirty s n → AllClean gs (dirtier dirty (marked_effect K (K.mark n) o)) (after K o s) ns
        → (b : Bool) → hit K.order c (dirty c) (marked_effect K (K.mark n) o) ≡ b → LeftBy dirty s t left n ns o b
    unfolding LeftClean
    one_more dirty s t left alike same n ns more (Err why) is ok legal clean rest b hit_is = absurd (false≢true ok)
    one_more dirty s t left alike same n ns more (Ok f) is ok legal clean rest true hit_is =
        let marked = marked_effect K (K.mark n) (Ok f) in
        let P : Bool → Type 0 = λ b. AllClean gs left t (keep (hits K.order c (dirtied b marked (dirty c)) (effects K (put_all f.written s) ns)) ns) in
        subst P hit_is
        (more (dirtier dirty marked) (put_all f.written s) t left
        (λ e clean.
        let parts = none_of_both (eq_by_cmp K.order e) (map (λ w. w.0) f.written) (dirty c) (subst (λ b. is_in K.order (dirtied b marked (dirty c)) e ≡ false) hit_is clean) in
        get-put_all_other total f.written s e parts.0 ∙ alike e parts.1)
        (λ h e clean.
        let parts = none_of_both (eq_by_cmp K.order e) (writes marked) (dirty c) (subst (λ b. is_in K.order (dirtied b marked (dirty c)) e ≡ false) hit_is clean) in
        dirtied_other K.order (hit K.order h (dirty h) marked) marked (dirty h) e parts.0 ∙ same h e parts.1)
        legal rest)
    one_more dirty s t left alike same n ns more (Ok f) is ok legal clean rest false hit_is =
        let marked = marked_effect K (K.mark n) (Ok f) in
        let untouched = (or_parts _ _ hit_is).1 in
        let parts = none_of_both (is_in K.order (dirty c)) (map (λ r. r.0) f.read) (map (λ w. w.0) f.written) untouched in
        let accepted : outcome K t n ≡ Ok f = same_accepted (get s) (get t) (K.act n) f is (agree (dirty c) s t alike _ parts.0) in
        let hit_same : (h : ℕ) → hit K.order h (left h) marked ≡ hit K.order h (dirty h) marked =
        λ h. ap (λ b. is_marked marked.mark h || b) (sym (any_same K.order (dirty c) (dirty h) (left h) (same h) (touches marked) untouched)) in
        let P : Bool → Type 0 = λ b. AllClean gs (dirtier left marked) (put_all f.written t) (keep (hits K.order c (dirtied b marked (dirty c)) (effects K (put_all f.written s) ns)) ns) in
        let Q : Result (Effect E V W) F → Type 0 = λ o. AllClean gs (dirtier left (marked_effect K (K.mark n) o)) (after K o t) (keep (hits K.order c (dirty c) (effects K (put_all f.written s) ns)) ns) in (
          λ e lacking.
              let was = clean e lacking in (
                sym (alike e (was.1 c undecided)) ∙ was.0,
                λ g there. sym (same g e (was.1 c undecided)) ∙ was.1 g there,
              ),
          subst Q (sym accepted)
              (subst P hit_is
              (more (dirtier dirty marked) (put_all f.written s) (put_all f.written t) (dirtier left marked)
              (λ e clean. get-put_all_same total f.written s t e (alike e (subst (λ b. is_in K.order (dirtied b marked (dirty c)) e ≡ false) hit_is clean)))
              (λ h e clean.
              ap (λ b. is_in K.order (dirtied b marked (dirty h)) e) (sym (hit_same h))
              ∙ dirtied_same K.order (hit K.order h (left h) marked) marked (dirty h) (left h) e
              (same h e (subst (λ b. is_in K.order (dirtied b marked (dirty c)) e ≡ false) hit_is clean)))
              legal rest)),
        )

    left_clean : (dirty : ℕ → List E) (s t : FinMap K.order V) (left : ℕ → List E) → Alike (dirty c) s t
        → ((h : ℕ) → SameOff K.order (dirty c) (dirty h) (left h)) → (ns : List N)
        → IsLegal K s ns → AllClean gs dirty s ns → LeftClean dirty s t left ns
    unfolding LeftClean
    left_clean dirty s t left alike same [] legal h = tt
    left_clean dirty s t left alike same (n ∷ ns) legal h =
        one_more dirty s t left alike same n ns (λ dirty s t left alike same legal h. left_clean dirty s t left alike same ns legal h)
        (outcome K s n) refl legal.0 legal.1 h.0 h.1 (hit K.order c (dirty c) (marked_effect K (K.mark n) (outcome K s n))) refl

    struck_clean : (s : FinMap K.order V) (ns : List N) → IsLegal K s ns → AllClean gs (λ g. []) s ns
        → AllClean gs (λ g. []) s (strike K s ns c)
    unfolding LeftClean
    struck_clean s ns legal h = left_clean (λ g. []) s s (λ g. []) (λ e clean. refl) (λ h e clean. refl) ns legal h

  -- ---- a trace
  module _ (exact : IsAntisymmetric K.order) (start : FinMap K.order V) where
    -- What each entry lacks is absent and depends on no guess when the entry is taken.
    abbrev pub TakenClean : List (Event N) → Type 0
    TakenClean es = (before later : List (Event N)) (n : N) → es ≡ before ++ Taken n ∷ later → (e : E) → lacks n e ≡ true
        → (get (run K start (record_of K start before)) e ≡ None) × ((g : ℕ) → ¬ (IsTagOf K start before e g))

    -- So it is with one event more.
    abbrev pub CleanAt : List (Event N) → Event N → Type 0
    CleanAt es (Taken n) = (e : E) → lacks n e ≡ true → (get (run K start (record_of K start es)) e ≡ None) × ((g : ℕ) → ¬ (IsTagOf K start es e g))
    CleanAt es s = Unit {0}

    abbrev pub StandsClean : Record N → Type 0
    StandsClean r = AllClean r.undecided (λ g. []) start r.entries

    clean_before : (es : List (Event N)) (e : Event N) → TakenClean (es ++ e ∷ []) → TakenClean es
    clean_before es e h before later n is =
        h before (later ++ e ∷ []) n (ap (λ xs. xs ++ e ∷ []) is ∙ append_assoc before (Taken n ∷ later) (e ∷ []))

    clean_here : (es : List (Event N)) (e : Event N) → TakenClean (es ++ e ∷ []) → CleanAt es e
    clean_here es (Taken n) h = λ e lacking. h es [] n refl e lacking
    clean_here es s h = tt

    mark_fresh : (r : Record N) (mark : Option ℕ) → IsFresh K start r mark → (c : ℕ) → mark ≡ Some c
        → still_marked (effects K start r.entries) c ≡ false
    mark_fresh r None fresh c is = cc
    mark_fresh r (Some h) fresh c is =
        ap (still_marked (effects K start r.entries)) (let same : h ≡ c = cc in sym same) ∙ fresh.1

    after_taken : (es : List (Event N)) (n : N) → IsSound K start (es ++ Taken n ∷ []) → CleanAt es (Taken n)
        → StandsClean (all_recorded K start no_record es)
        → StandsClean (recorded K start (all_recorded K start no_record es) (Taken n))
    after_taken es n sound here h =
        let r = all_recorded K start no_record es in
        let fresh = fresh_from K start es n sound in
        let was = sound_before K start es (Taken n ∷ []) sound in
        let same = entries_are K start es in
        one_longer (r.undecided ++ marks (K.mark n)) (λ g. []) start r.entries n
        (marks_more r.undecided (K.mark n) (λ g. []) start r.entries (λ c is. (refl, mark_fresh r (K.mark n) fresh c is)) h)
        (λ e lacking.
        let at = here e lacking in (
          ap (λ ns. get (run K start ns) e) same ∙ at.0,
          λ g there.
              elim (or_cases _ _ (sym (list_any-append (λ t. t == g) r.undecided (marks (K.mark n))) ∙ there)) [
                | inl before ↦
                    false_from_ne_true _
                    (λ dirty.
                    let is = (dirt_is total g exact (effects K start (record_of K start es)) e).0
                    (subst (λ ns. is_in K.order (dirt K.order g [] (effects K start ns)) e ≡ true) same dirty) in
                    at.1 g ((undecided_is K start es was g).0 before, is))
                | inr own ↦ ap (λ d. is_in K.order d e) (own_dirt K total exact start r (K.mark n) fresh g own)
              ],
        ))

    after_failed : (es : List (Event N)) (c : ℕ) → IsSound K start (es ++ Fail c ∷ [])
        → StandsClean (all_recorded K start no_record es)
        → StandsClean (recorded K start (all_recorded K start no_record es) (Fail c))
    after_failed es c sound h =
        let r = all_recorded K start no_record es in
        let was = sound_before K start es (Fail c ∷ []) sound in
        let undecided : has c r.undecided ≡ true = (undecided_is K start es was c).1 (sound.allowed es [] (Fail c) refl) in
        let legal : IsLegal K start r.entries = subst (IsLegal K start) (sym (entries_are K start es)) (was.legal es [] (sym (nil_right es))) in
        let test = still_marked (effects K start (strike K start r.entries c)) in
        fewer r.undecided (recorded K start r (Fail c)).undecided (λ g there. (and_both _ _ (sym (has_filter test g r.undecided) ∙ there)).1)
        (λ g. []) start (strike K start r.entries c) (struck_clean c r.undecided undecided start r.entries legal h)

    after_committed : (r : Record N) (c : ℕ) → StandsClean r → StandsClean (recorded K start r (Commit c))
    after_committed r c h =
        fewer r.undecided (without c r.undecided) (λ g there. (and_both _ _ (sym (has_filter _ g r.undecided) ∙ there)).1) (λ g. []) start r.entries h

    one_event : (es : List (Event N)) (e : Event N) → IsSound K start (es ++ e ∷ []) → CleanAt es e
        → StandsClean (all_recorded K start no_record es)
        → StandsClean (recorded K start (all_recorded K start no_record es) e)
    one_event es (Taken n) sound here h = after_taken es n sound here h
    one_event es (Commit c) sound here h = after_committed (all_recorded K start no_record es) c h
    one_event es (Fail c) sound here h = after_failed es c sound h

    pub after_event : (es : List (Event N)) (e : Event N) → IsSound K start (es ++ e ∷ []) → CleanAt es e
        → StandsClean (all_recorded K start no_record es)
        → StandsClean (all_recorded K start no_record (es ++ e ∷ []))
    after_event es e sound here h = subst StandsClean (sym (recorded_more K start no_record es e)) (one_event es e sound here h)

    stands_clean : (es : List (Event N)) → IsSound K start es → TakenClean es
        → StandsClean (all_recorded K start no_record es)
    stands_clean es sound =
        each_event K start (λ es. TakenClean es → StandsClean (all_recorded K start no_record es)) (λ taken. tt)
        (λ es e sound before taken. after_event es e sound (clean_here es e taken) (before (clean_before es e taken)))
        es sound

    pub clean_record : (es : List (Event N)) → StandsClean (all_recorded K start no_record es)
        → (gs : List ℕ) × AllClean gs (λ g. []) start (record_of K start es)
    clean_record es h =
        let r = all_recorded K start no_record es in
        (r.undecided, subst (AllClean r.undecided (λ g. []) start) (entries_are K start es) h)

    pub left_absent : (es : List (Event N)) → IsSound K start es → TakenClean es
        → (gs : List ℕ) × AllClean gs (λ g. []) start (record_of K start es)
    left_absent es sound taken = clean_record es (stands_clean es sound taken)
