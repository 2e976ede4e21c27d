-- The machine's statuses are those of the trace: both follow the same tests, event by event.
use Rattle.sk_record.proofs.Names.{◌≡◌, ℕ, Bool, true, false, cond, not, ◌&&◌, ◌||◌, List, [], ◌∷◌, ◌++◌, Option, Some}
use Rattle.sk_record.proofs.Names.{None, refl, sym, ◌∙◌, ap, subst, ◌==◌, ◌↔◌, list_any, FinMap, true≢false}
use Rattle.sk_record.proofs.Names.{false_from_ne_true, true_from_ne_false, eqb-true, list_any-append, MarkedEffect}
use Rattle.sk_record.proofs.Names.{is_marked, hits, keep, System, strike, has, Event, Taken, Commit, Fail, Undecided}
use Rattle.sk_record.proofs.Names.{Struck, HasEntry, IsDrawn, StatusIs, IsSound, record_of, still_marked, all_recorded}
use Rattle.sk_record.proofs.Names.{no_record, Open, numbers, AllOwnTagsExact, with_status, with_drawn, with_failure}
use Rattle.sk_record.proofs.Names.{rests_on}
use Rattle.sk_record.specs.Trace.{Status, Committed, Failed}
use Rattle.sk_record.proofs.UndoStates.{fate_is}
use Rattle.sk_record.proofs.Sound.{is_commit, is_fail, draws, in_entries, tests, undrawn_before, undecided_parts, left_within, more_any, record_more, sound_before, sound_first, eqb_turned, or_no, has_commit, has_fail, has_entry, is_drawn, marked_is}

-- the status by the tests: committed, failed, its entry in the record, drawn
abbrev pub status_by : Bool → Bool → Bool → Bool → Option Status
status_by c f h d = cond c (Some Committed) (cond f (Some Failed) (cond h (Some Undecided) (cond d (Some Struck) None)))

-- what a status says of the tests
abbrev Says : Bool → Bool → Bool → Bool → Status → Type 0
Says c f h d Undecided = (c ≡ false) × (f ≡ false) × (h ≡ true)
Says c f h d Committed = c ≡ true
Says c f h d Failed = f ≡ true
Says c f h d Struck = (d ≡ true) × (c ≡ false) × (f ≡ false) × (h ≡ false)

says : (c f h d : Bool) (s : Status) → status_by c f h d ≡ Some s → Says c f h d s
says true f h d Committed is = refl
says true f h d Undecided is = cc
says true f h d Failed is = cc
says true f h d Struck is = cc
says false true h d Failed is = refl
says false true h d Committed is = cc
says false true h d Undecided is = cc
says false true h d Struck is = cc
says false false true d Undecided is = (refl, refl, refl)
says false false true d Committed is = cc
says false false true d Failed is = cc
says false false true d Struck is = cc
says false false false true Struck is = (refl, refl, refl, refl)
says false false false true Undecided is = cc
says false false false true Committed is = cc
says false false false true Failed is = cc
says false false false false s is = cc

said_so : (c f h d : Bool) (s : Status) → (c && f) ≡ false → Says c f h d s → status_by c f h d ≡ Some s
said_so c f h d Undecided apart is = λ i. cond (is.0 i) (Some Committed) (cond (is.1 i) (Some Failed) (cond (is.2 i) (Some Undecided) (cond d (Some Struck) None)))
said_so c f h d Committed apart is = ap (λ c. cond c (Some Committed) (cond f (Some Failed) (cond h (Some Undecided) (cond d (Some Struck) None)))) is
said_so true f h d Failed apart is = absurd (true≢false (sym is ∙ apart))
said_so false f h d Failed apart is = ap (λ f. cond f (Some Failed) (cond h (Some Undecided) (cond d (Some Struck) None))) is
said_so c f h d Struck apart is = λ i. cond (is.1 i) (Some Committed) (cond (is.2 i) (Some Failed) (cond (is.3 i) (Some Undecided) (cond (is.0 i) (Some Struck) None)))

-- ---- one event more, by the tests
by_taken : (c f h d m : Bool) → (m ≡ true → (c ≡ false) × (f ≡ false) × (h ≡ false)) → cond m (Some Undecided) (status_by c f h d) ≡ status_by c f (h || m) (d || m)
by_taken true f h d true new = absurd (true≢false (new refl).0)
by_taken false true h d true new = absurd (true≢false (new refl).1)
by_taken false false true d true new = refl
by_taken false false false d true new = refl
by_taken true f h d false new = refl
by_taken false true h d false new = refl
by_taken false false true d false new = refl
by_taken false false false true false new = refl
by_taken false false false false false new = refl

by_commit : (c f h d x : Bool) → cond x (Some Committed) (status_by c f h d) ≡ status_by (c || x) f h d
by_commit true f h d true = refl
by_commit true f h d false = refl
by_commit false f h d true = refl
by_commit false f h d false = refl

by_fail : (c f h d left x : Bool) → (x ≡ true → c ≡ false) → (left ≡ true → h ≡ true) → (h ≡ true → d ≡ true)
    → cond x (Some Failed) (cond ((not c && (not f && h)) && not left) (Some Struck) (status_by c f h d)) ≡ status_by c (f || x) left d
by_fail true f h d left true own within drawn = absurd (true≢false (own refl))
by_fail true f h d left false own within drawn = refl
by_fail false true h d left true own within drawn = refl
by_fail false true h d left false own within drawn = refl
by_fail false false h d left true own within drawn = refl
by_fail false false true d true false own within drawn = refl
by_fail false false true true false false own within drawn = refl
by_fail false false true false false false own within drawn = absurd (true≢false (sym (drawn refl)))
by_fail false false false d true false own within drawn = absurd (true≢false (sym (within refl)))
by_fail false false false d false false own within drawn = refl

-- ---- what the machine does
drawn_is : (own : Option ℕ) (status : ℕ → Option Status) (g : ℕ) → with_drawn own status g ≡ cond (is_marked own g) (Some Undecided) (status g)
drawn_is None status g = refl
drawn_is (Some x) status g = ap (λ b. cond b (Some Undecided) (status g)) (eqb_turned g x)

absorbed : (a b : Bool) → (a || (b && not (not a))) ≡ not (not a)
absorbed true b = refl
absorbed false true = refl
absorbed false false = refl

-- the open guesses that depend on the failed one are those whose entries are struck
pub rests_are : {E V W F N : Type 0} (K : System E V W F N) (ts : List (MarkedEffect E V W)) (gs : List ℕ) (c : ℕ) → has c gs ≡ true → (g : ℕ) (os : List Open) → AllOwnTagsExact K ts gs os
    → rests_on c os g ≡ (has g (numbers os) && not (still_marked (keep (hits K.order c [] ts) ts) g))
rests_are K ts gs c is_open g [] own_tags = refl
rests_are K ts gs c is_open g (o ∷ os) own_tags =
    let rest = rests_are K ts gs c is_open g os own_tags.1 in
    let left : Bool = still_marked (keep (hits K.order c [] ts) ts) g in
    elim (o.0 == g) as (λ b. (o.0 == g) ≡ b → ((b && has c o.1) || rests_on c os g) ≡ ((b || has g (numbers os)) && not left)) [
      | true ↦ λ is.
          let fate : left ≡ not (has c o.1) = ap (still_marked (keep (hits K.order c [] ts) ts)) (sym (eqb-true o.0 g is)) ∙ fate_is K.order o.0 c (has c o.1) ts own_tags.0.marked (own_tags.0.own c is_open) in
          ap (λ b. has c o.1 || b) rest ∙ ap (λ x. has c o.1 || (has g (numbers os) && not x)) fate ∙ absorbed (has c o.1) (has g (numbers os)) ∙ ap not (sym fate)
      | false ↦ λ _. rest
    ] refl

nothing : (s : Status) → Some s ≡ None → ⊥
nothing s is = cc

same_answers : (a b : Option Status) → ((s : Status) → (a ≡ Some s) ↔ (b ≡ Some s)) → a ≡ b
same_answers None None h = refl
same_answers None (Some s) h = (h s).1 refl
same_answers (Some s) b h = sym ((h s).0 refl)

module _ {E V W F N : Type 0} (K : System E V W F N) (start : FinMap K.order V) where
  abbrev pub status_of : List (Event N) → ℕ → Option Status
  status_of es g = status_by (list_any (is_commit g) es) (list_any (is_fail g) es) (in_entries K start g (record_of K start es)) (list_any (draws K g) es)

  entry_in : (ns : List N) (g : ℕ) → (in_entries K start g ns ≡ true) ↔ HasEntry K ns g
  entry_in ns g = (λ h. (has_entry K start ns g).0 (marked_is K start start ns g ∙ h), λ h. sym (marked_is K start start ns g) ∙ (has_entry K start ns g).1 h)

  -- the status by the tests is the status
  pub status_is : (es : List (Event N)) → IsSound K start es → (g : ℕ) (s : Status) → (status_of es g ≡ Some s) ↔ StatusIs K start es g s
  status_is es sound g s =
      let c = list_any (is_commit g) es in
      let f = list_any (is_fail g) es in
      let h = in_entries K start g (record_of K start es) in
      let d = list_any (draws K g) es in
      let off : (b : Bool) (A : Type 0) → ((b ≡ true) ↔ A) → (b ≡ false) ↔ (¬ A) = λ b A is. ((λ no_b a. true≢false (sym (is.1 a) ∙ no_b)), λ no_a. false_from_ne_true _ (λ b. no_a (is.0 b))) in
      let cs = has_commit es g in
      let fs = has_fail es g in
      let hs = entry_in (record_of K start es) g in
      let ds = is_drawn K es g in
      let to : (s : Status) → Says c f h d s → StatusIs K start es g s =
      λ s. elim s as (λ s. Says c f h d s → StatusIs K start es g s) [
        | Undecided ↦ λ x. ((off _ _ cs).0 x.0, (off _ _ fs).0 x.1, hs.0 x.2)
        | Committed ↦ λ x. cs.0 x
        | Failed ↦ λ x. fs.0 x
        | Struck ↦ λ x. (ds.0 x.0, (off _ _ cs).0 x.1, (off _ _ fs).0 x.2, (off _ _ hs).0 x.3)
      ] in
      let from : (s : Status) → StatusIs K start es g s → Says c f h d s =
      λ s. elim s as (λ s. StatusIs K start es g s → Says c f h d s) [
        | Undecided ↦ λ x. ((off _ _ cs).1 x.0, (off _ _ fs).1 x.1, hs.1 x.2)
        | Committed ↦ λ x. cs.1 x
        | Failed ↦ λ x. fs.1 x
        | Struck ↦ λ x. (ds.1 x.0, (off _ _ cs).1 x.1, (off _ _ fs).1 x.2, (off _ _ hs).1 x.3)
      ] in
      (λ is. to s (says c f h d s is), λ is. said_so c f h d s (tests K start g es sound).apart (from s is))

  -- the machine's statuses are the trace's
  abbrev pub Statuses : List (Event N) → (ℕ → Option Status) → Type 0
  Statuses es status = (g : ℕ) (s : Status) → (status g ≡ Some s) ↔ StatusIs K start es g s

  by_tests : (es : List (Event N)) → IsSound K start es → (status : ℕ → Option Status) → Statuses es status → (g : ℕ) → status g ≡ status_of es g
  by_tests es sound status are g =
      same_answers (status g) (status_of es g) (λ s. ((λ is. (status_is es sound g s).1 ((are g s).0 is)), λ is. (are g s).1 ((status_is es sound g s).0 is)))

  from_tests : (es : List (Event N)) → IsSound K start es → (status : ℕ → Option Status) → ((g : ℕ) → status g ≡ status_of es g) → Statuses es status
  from_tests es sound status are g s =
      ((λ is. (status_is es sound g s).0 (sym (are g) ∙ is)), λ is. are g ∙ (status_is es sound g s).1 is)

  pub status_taken : (es : List (Event N)) (n : N) → IsSound K start (es ++ Taken n ∷ []) → (status after : ℕ → Option Status) → Statuses es status
      → ((g : ℕ) → after g ≡ with_drawn (K.mark n) status g) → Statuses (es ++ Taken n ∷ []) after
  status_taken es n sound status after are does =
      let before = sound_before K start es (Taken n ∷ []) sound in
      from_tests (es ++ Taken n ∷ []) sound after (λ g.
      let m = is_marked (K.mark n) g in
      let new : m ≡ true → list_any (draws K g) es ≡ false = λ is. undrawn_before K start es n sound g is in
      does g ∙ drawn_is (K.mark n) status g ∙ ap (cond m (Some Undecided)) (by_tests es before status are g)
      ∙ by_taken _ _ _ _ m (λ is. (tests K start g es before).undrawn (new is))
      ∙ (λ i. status_by
      (sym (more_any K start (is_commit g) es (Taken n) ∙ or_no _) i)
      (sym (more_any K start (is_fail g) es (Taken n) ∙ or_no _) i)
      (sym (ap (in_entries K start g) (record_more K start es (Taken n)) ∙ list_any-append (λ n. is_marked (K.mark n) g) (record_of K start es) (n ∷ []) ∙ ap (λ b. in_entries K start g (record_of K start es) || b) (or_no m)) i)
      (sym (more_any K start (draws K g) es (Taken n)) i)))

  pub status_commit : (es : List (Event N)) (c : ℕ) → IsSound K start (es ++ Commit c ∷ []) → (status after : ℕ → Option Status) → Statuses es status
      → ((g : ℕ) → after g ≡ with_status c Committed status g) → Statuses (es ++ Commit c ∷ []) after
  status_commit es c sound status after are does =
      from_tests (es ++ Commit c ∷ []) sound after (λ g.
      does g ∙ (λ i. cond (eqb_turned g c i) (Some Committed) (by_tests es (sound_before K start es (Commit c ∷ []) sound) status are g i))
      ∙ by_commit _ _ _ _ (c == g)
      ∙ (λ i. status_by
      (sym (more_any K start (is_commit g) es (Commit c)) i)
      (sym (more_any K start (is_fail g) es (Commit c) ∙ or_no _) i)
      (sym (ap (in_entries K start g) (record_more K start es (Commit c))) i)
      (sym (more_any K start (draws K g) es (Commit c) ∙ or_no _) i)))

  pub status_fail : (es : List (Event N)) (c : ℕ) → IsSound K start (es ++ Fail c ∷ []) → (status after : ℕ → Option Status) → Statuses es status
      → (opens : List Open) → numbers opens ≡ (all_recorded K start no_record es).undecided
      → ((g : ℕ) → rests_on c opens g ≡ (has g (numbers opens) && not (in_entries K start g (strike K start (record_of K start es) c))))
      → ((g : ℕ) → after g ≡ with_failure c opens status g) → Statuses (es ++ Fail c ∷ []) after
  status_fail es c sound status after are opens open_are rests does =
      let before = sound_before K start es (Fail c ∷ []) sound in
      from_tests (es ++ Fail c ∷ []) sound after (λ g.
      let t = tests K start g es before in
      let left = in_entries K start g (strike K start (record_of K start es) c) in
      does g
      ∙ (λ i. cond (eqb_turned g c i) (Some Failed) (cond ((rests g ∙ (λ i. has g (open_are i) && not left) ∙ ap (λ b. b && not left) t.is_open) i) (Some Struck) (by_tests es before status are g i)))
      ∙ by_fail _ _ _ _ left (c == g)
      (λ is. (undecided_parts K start es g (subst (λ y. StatusIs K start es y Undecided) (eqb-true c g is) (sound.allowed es [] (Fail c) refl))).0)
      (left_within K start g c (record_of K start es))
      (λ there. true_from_ne_false _ (λ none. true≢false (sym there ∙ (t.undrawn none).2)))
      ∙ (λ i. status_by
      (sym (more_any K start (is_commit g) es (Fail c) ∙ or_no _) i)
      (sym (more_any K start (is_fail g) es (Fail c)) i)
      (sym (ap (in_entries K start g) (record_more K start es (Fail c))) i)
      (sym (more_any K start (draws K g) es (Fail c) ∙ or_no _) i)))

  pub none_yet : Statuses [] (λ g. None)
  none_yet = from_tests [] (sound_first K start) (λ g. None) (λ g. refl)

  some_status : (c f h d : Bool) → d ≡ true → (s : Status) × (status_by c f h d ≡ Some s)
  some_status true f h d drawn = (Committed, refl)
  some_status false true h d drawn = (Failed, refl)
  some_status false false true d drawn = (Undecided, refl)
  some_status false false false true drawn = (Struck, refl)
  some_status false false false false drawn = absurd (true≢false (sym drawn))

  not_both : (o : Option Status) (s t : Status) → o ≡ Some s → o ≡ Some t → s ≡ t
  not_both o s t is is2 = let same : Some s ≡ Some t = sym is ∙ is2 in cc

  pub one_status : (es : List (Event N)) → IsSound K start es → (g : ℕ)
      → (IsDrawn K es g ↔ ((s : Status) × StatusIs K start es g s)) × ((s t : Status) → StatusIs K start es g s → StatusIs K start es g t → s ≡ t)
  one_status es sound g =
      let drawn : (s : Status) → StatusIs K start es g s → list_any (draws K g) es ≡ true =
      λ s is. true_from_ne_false _ (λ none.
      let off = (tests K start g es sound).undrawn none in
      nothing s (sym ((status_is es sound g s).1 is) ∙ (λ i. status_by (off.0 i) (off.1 i) (off.2 i) (none i)))) in (
        (
          (λ d. let s = some_status _ _ _ _ ((is_drawn K es g).1 d) in (s.0, (status_is es sound g s.0).0 s.1)),
          (λ s. (is_drawn K es g).0 (drawn s.0 s.1)),
        ),
        λ s t is is2. not_both (status_of es g) s t ((status_is es sound g s).1 is) ((status_is es sound g t).1 is2),
      )
