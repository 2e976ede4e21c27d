-- Sound traces: what holds at each prefix, and the status of a guess as tests of the trace and its record.
use Rattle.sk_record.proofs.Names.{◌≡◌, ℕ, suc, ◌<◌, Bool, true, false, not, ◌&&◌, ◌||◌, List, [], ◌∷◌, ◌++◌, Option}
use Rattle.sk_record.proofs.Names.{Some, None, Ok, Err, IsOk, inl, inr, refl, sym, ◌∙◌, ap, subst, arith, append_assoc}
use Rattle.sk_record.proofs.Names.{◌==◌, ◌⊎◌, ◌↔◌, list_any, fold, Contains, both_ways, IsTotalOrder, FinMap}
use Rattle.sk_record.proofs.Names.{IsAntisymmetric, or_parts, or_cases, or_from, true≢false, eq-eqb, eqb-true}
use Rattle.sk_record.proofs.Names.{true_from_ne_false, false_from_ne_true, list_any-append, fold-append}
use Rattle.sk_record.proofs.Names.{Contains-push_cases, is_marked, hit, hits, dirtied, keep, System, outcome, after}
use Rattle.sk_record.proofs.Names.{marked_effect, run, IsLegal, effects, strike, has, Event, Taken, Commit, Fail}
use Rattle.sk_record.proofs.Names.{Undecided, HasEntry, IsDrawn, record_after, record_of, StatusIs, IsAllowed, IsSound}
use Rattle.sk_record.proofs.Names.{marks, still_marked, Record, no_record, recorded, all_recorded, IsFresh}
use Rattle.sk_record.proofs.Machine.{nil_right, has_filter, legal_append, legal_last}
use Rattle.sk_record.proofs.UndoStates.{any_at}
use Rattle.sk_record.proofs.Struck.{struck_runs}
use Rattle.sk_record.proofs.Tidy.{any_keep, recorded_more}

-- ---- membership as a test
pub any_from : {A : Type 0} (p : A → Bool) (xs : List A) → list_any p xs ≡ true → (x : A) × Contains xs x × (p x ≡ true)
any_from p [] h = absurd (true≢false (sym h))
any_from p (y ∷ xs) h =
    elim (or_cases _ _ h) [
      | inl here ↦ (y, (0, omega arith, refl), here)
      | inr later ↦ let x = any_from p xs later in (x.0, (suc x.1.0, omega arith, x.1.2), x.2)
    ]

abbrev pub is_commit : {N : Type 0} → ℕ → Event N → Bool
is_commit g (Taken n) = false
is_commit g (Commit h) = h == g
is_commit g (Fail h) = false

abbrev pub is_fail : {N : Type 0} → ℕ → Event N → Bool
is_fail g (Taken n) = false
is_fail g (Commit h) = false
is_fail g (Fail h) = h == g

commit_is_event : {N : Type 0} (g : ℕ) (e : Event N) → is_commit g e ≡ true → e ≡ Commit g
commit_is_event g (Taken n) h = absurd (true≢false (sym h))
commit_is_event g (Commit x) h = ap Commit (eqb-true x g h)
commit_is_event g (Fail x) h = absurd (true≢false (sym h))

fail_is_event : {N : Type 0} (g : ℕ) (e : Event N) → is_fail g e ≡ true → e ≡ Fail g
fail_is_event g (Taken n) h = absurd (true≢false (sym h))
fail_is_event g (Commit x) h = absurd (true≢false (sym h))
fail_is_event g (Fail x) h = ap Fail (eqb-true x g h)

contained_as : {A : Type 0} (xs : List A) (x y : A) → x ≡ y → Contains xs x → Contains xs y
contained_as xs x y same there = subst (Contains xs) same there

module _ {N : Type 0} where
  pub has_commit : (es : List (Event N)) (g : ℕ) → (list_any (is_commit g) es ≡ true) ↔ Contains es (Commit g)
  has_commit es g = (
    λ h. let x = any_from (is_commit g) es h in contained_as es x.0 (Commit g) (commit_is_event g x.0 x.2) x.1,
    λ there. any_at (is_commit g) es (Commit g) there (eq-eqb g g refl),
  )

  pub has_fail : (es : List (Event N)) (g : ℕ) → (list_any (is_fail g) es ≡ true) ↔ Contains es (Fail g)
  has_fail es g = (
    λ h. let x = any_from (is_fail g) es h in contained_as es x.0 (Fail g) (fail_is_event g x.0 x.2) x.1,
    λ there. any_at (is_fail g) es (Fail g) there (eq-eqb g g refl),
  )

pub mark_is : (m : Option ℕ) (g : ℕ) → is_marked m g ≡ true → m ≡ Some g
mark_is None g h = absurd (true≢false (sym h))
mark_is (Some x) g h = ap Some (eqb-true x g h)

pub is_mark : (m : Option ℕ) (g : ℕ) → m ≡ Some g → is_marked m g ≡ true
is_mark m g h = subst (λ m. is_marked m g ≡ true) (sym h) (eq-eqb g g refl)

module _ {E V W F N : Type 0} (K : System E V W F N) where
  abbrev pub draws : ℕ → Event N → Bool
  draws g (Taken n) = is_marked (K.mark n) g
  draws g (Commit h) = false
  draws g (Fail h) = false

  drawn_event : (g : ℕ) (e : Event N) → draws g e ≡ true → (n : N) × (e ≡ Taken n) × (K.mark n ≡ Some g)
  drawn_event g (Taken n) h = (n, refl, mark_is (K.mark n) g h)
  drawn_event g (Commit x) h = absurd (true≢false (sym h))
  drawn_event g (Fail x) h = absurd (true≢false (sym h))

  pub is_drawn : (es : List (Event N)) (g : ℕ) → (list_any (draws g) es ≡ true) ↔ IsDrawn K es g
  is_drawn es g = (
    λ h.
        let x = any_from (draws g) es h in
        let is = drawn_event g x.0 x.2 in
        (is.0, contained_as es x.0 (Taken is.0) is.1 x.1, is.2),
    λ d. any_at (draws g) es (Taken d.0) d.1 (is_mark (K.mark d.0) g d.2),
  )

  foot_mark : (own : Option ℕ) (s : FinMap K.order V) (n : N) → (marked_effect K own (outcome K s n)).mark ≡ own
  foot_mark own s n = elim (outcome K s n) as (λ o. (marked_effect K own o).mark ≡ own) [ Ok f ↦ refl | Err why ↦ refl ]

  marked_trail : (s : FinMap K.order V) (ns : List N) (g : ℕ) → still_marked (effects K s ns) g ≡ list_any (λ n. is_marked (K.mark n) g) ns
  marked_trail s [] g = refl
  marked_trail s (n ∷ ns) g = λ i. is_marked (foot_mark (K.mark n) s n i) g || marked_trail (after K (outcome K s n) s) ns g i

  pub has_entry : (s : FinMap K.order V) (ns : List N) (g : ℕ) → (still_marked (effects K s ns) g ≡ true) ↔ HasEntry K ns g
  has_entry s ns g = (
    λ h.
        let x = any_from (λ n. is_marked (K.mark n) g) ns (sym (marked_trail s ns g) ∙ h) in
        (x.0, x.1, mark_is (K.mark x.0) g x.2),
    λ d. marked_trail s ns g ∙ any_at (λ n. is_marked (K.mark n) g) ns d.0 d.1 (is_mark (K.mark d.0) g d.2),
  )

module _ {E V W F N : Type 0} (K : System E V W F N) (start : FinMap K.order V) where
  -- the entries are those of the record
  entries_from : (r : Record N) (es : List (Event N)) → (all_recorded K start r es).entries ≡ fold (record_after K start) r.entries es
  entries_from r [] = refl
  entries_from r (Taken n ∷ es) = entries_from (recorded K start r (Taken n)) es
  entries_from r (Commit g ∷ es) = entries_from (recorded K start r (Commit g)) es
  entries_from r (Fail g ∷ es) = entries_from (recorded K start r (Fail g)) es

  pub entries_are : (es : List (Event N)) → (all_recorded K start no_record es).entries ≡ record_of K start es
  entries_are es = entries_from no_record es

  pub record_more : (es : List (Event N)) (e : Event N) → record_of K start (es ++ e ∷ []) ≡ record_after K start (record_of K start es) e
  record_more es e = fold-append (record_after K start) [] es (e ∷ [])

  -- ---- prefixes
  longer_split : (es more before later : List (Event N)) → es ≡ before ++ later → es ++ more ≡ before ++ (later ++ more)
  longer_split es more before later is = ap (λ xs. xs ++ more) is ∙ append_assoc before later more

  pub sound_before : (es more : List (Event N)) → IsSound K start (es ++ more) → IsSound K start es
  sound_before es more s = record {
    legal = λ before later is. s.legal before (later ++ more) (longer_split es more before later is);
    allowed = λ before later e is. s.allowed before (later ++ more) e (longer_split es more before (e ∷ later) is);
  }

  -- by the events in turn
  each_from : (P : List (Event N) → Type 0) → ((es : List (Event N)) (e : Event N) → IsSound K start (es ++ e ∷ []) → P es → P (es ++ e ∷ []))
      → (es later : List (Event N)) → IsSound K start (es ++ later) → P es → P (es ++ later)
  each_from P step es [] sound p = subst P (sym (nil_right es)) p
  each_from P step es (e ∷ later) sound p =
      let same : es ++ e ∷ later ≡ (es ++ e ∷ []) ++ later = sym (append_assoc es (e ∷ []) later) in
      let whole = subst (IsSound K start) same sound in
      subst P (sym same) (each_from P step (es ++ e ∷ []) later whole (step es e (sound_before (es ++ e ∷ []) later whole) p))

  pub each_event : (P : List (Event N) → Type 0) → P [] → ((es : List (Event N)) (e : Event N) → IsSound K start (es ++ e ∷ []) → P es → P (es ++ e ∷ []))
      → (es : List (Event N)) → IsSound K start es → P es
  each_event P none step es sound = each_from P step [] es sound none

-- ---- tests of booleans, by cases
open_taken : (c f h m : Bool) → (m ≡ true → (c ≡ false) × (f ≡ false) × (h ≡ false)) → ((not c && (not f && h)) || m) ≡ (not c && (not f && (h || m)))
open_taken true f h true new = absurd (true≢false (new refl).0)
open_taken false true h true new = absurd (true≢false (new refl).1)
open_taken false false h true new = ap (λ b. b || true) (new refl).2 ∙ ap (λ b. b || true) (sym (new refl).2)
open_taken true f h false new = refl
open_taken false true h false new = refl
open_taken false false true false new = refl
open_taken false false false false new = refl

open_commit : (c f h x : Bool) → (not x && (not c && (not f && h))) ≡ (not (c || x) && (not f && h))
open_commit true f h true = refl
open_commit true f h false = refl
open_commit false f h true = refl
open_commit false f h false = refl

open_fail : (c f h left x : Bool) → (x ≡ true → left ≡ false) → (left ≡ true → h ≡ true) → (left && (not c && (not f && h))) ≡ (not c && (not (f || x) && left))
open_fail true f h true x own within = refl
open_fail true f h false x own within = refl
open_fail false true h true x own within = refl
open_fail false true h false x own within = refl
open_fail false false h true true own within = absurd (true≢false (own refl))
open_fail false false h true false own within = within refl
open_fail false false h false true own within = refl
open_fail false false h false false own within = refl

open_parts : (c f h : Bool) → (not c && (not f && h)) ≡ true → (c ≡ false) × (f ≡ false) × (h ≡ true)
open_parts true f h is = absurd (true≢false (sym is))
open_parts false true h is = absurd (true≢false (sym is))
open_parts false false h is = (refl, refl, is)

apart_more : (c f x : Bool) → (c && f) ≡ false → (x ≡ true → f ≡ false) → ((c || x) && f) ≡ false
apart_more true f x apart none = apart
apart_more false f true apart none = none refl
apart_more false f false apart none = refl

apart_other : (c f x : Bool) → (c && f) ≡ false → (x ≡ true → c ≡ false) → (c && (f || x)) ≡ false
apart_other true true x apart none = apart
apart_other true false true apart none = none refl
apart_other true false false apart none = refl
apart_other false f x apart none = refl

pub eqb_turned : (a b : ℕ) → (a == b) ≡ (b == a)
eqb_turned a b = both_ways (a == b) (b == a) (λ is. ap (λ x. b == x) (eqb-true a b is) ∙ eq-eqb b b refl) (λ is. ap (λ x. a == x) (eqb-true b a is) ∙ eq-eqb a a refl)

pub or_no : (b : Bool) → (b || false) ≡ b
or_no true = refl
or_no false = refl

marks_has : (own : Option ℕ) (g : ℕ) → has g (marks own) ≡ is_marked own g
marks_has None g = refl
marks_has (Some h) g = or_no (h == g)

module _ {E V W F N : Type 0} (K : System E V W F N) (start : FinMap K.order V) where
  abbrev pub in_entries : ℕ → List N → Bool
  in_entries g ns = list_any (λ n. is_marked (K.mark n) g) ns

  pub marked_is : (s : FinMap K.order V) (ns : List N) (g : ℕ) → still_marked (effects K s ns) g ≡ in_entries g ns
  marked_is s ns g = marked_trail K s ns g

  -- a failure takes its own guess's entry
  own_struck : (g : ℕ) (s : FinMap K.order V) (dirty : List E) (ns : List N) → in_entries g (keep (hits K.order g dirty (effects K s ns)) ns) ≡ false
  own_struck g s dirty [] = refl
  own_struck g s dirty (n ∷ ns) =
      let f = marked_effect K (K.mark n) (outcome K s n) in
      let rest = effects K (after K (outcome K s n) s) ns in
      elim (hit K.order g dirty f) as (λ b. hit K.order g dirty f ≡ b → in_entries g (keep (b ∷ hits K.order g (dirtied b f dirty) rest) (n ∷ ns)) ≡ false) [
        | true ↦ λ _. own_struck g (after K (outcome K s n) s) (dirtied true f dirty) ns
        | false ↦ λ is. or_from _ _ (ap (λ m. is_marked m g) (sym (foot_mark K (K.mark n) s n)) ∙ (or_parts _ _ is).0) (own_struck g (after K (outcome K s n) s) dirty ns)
      ] refl

  pub left_within : (g c : ℕ) (ns : List N) → in_entries g (strike K start ns c) ≡ true → in_entries g ns ≡ true
  left_within g c ns left = true_from_ne_false _ (λ none. true≢false (sym left ∙ any_keep (λ n. is_marked (K.mark n) g) _ ns none))

  -- what the tests of a sound trace say of one another
  pub record Tests (es : List (Event N)) (g : ℕ) : Type 0 where
    pub is_open : has g (all_recorded K start no_record es).undecided ≡ (not (list_any (is_commit g) es) && (not (list_any (is_fail g) es) && in_entries g (record_of K start es)))
    pub undrawn : list_any (draws K g) es ≡ false → (list_any (is_commit g) es ≡ false) × (list_any (is_fail g) es ≡ false) × (in_entries g (record_of K start es) ≡ false)
    pub apart : (list_any (is_commit g) es && list_any (is_fail g) es) ≡ false

  -- what is undecided by the tests
  pub undecided_parts : (es : List (Event N)) (g : ℕ) → StatusIs K start es g Undecided → (list_any (is_commit g) es ≡ false) × (list_any (is_fail g) es ≡ false) × (in_entries g (record_of K start es) ≡ true)
  undecided_parts es g s = (
    false_from_ne_true _ (λ h. s.0 ((has_commit es g).0 h)),
    false_from_ne_true _ (λ h. s.1 ((has_fail es g).0 h)),
    sym (marked_is start (record_of K start es) g) ∙ (has_entry K start (record_of K start es) g).1 s.2,
  )

  pub more_any : (p : Event N → Bool) (es : List (Event N)) (e : Event N) → list_any p (es ++ e ∷ []) ≡ (list_any p es || p e)
  more_any p es e = list_any-append p es (e ∷ []) ∙ ap (λ b. list_any p es || b) (or_no (p e))

  undecided_more : (es : List (Event N)) (e : Event N) (g : ℕ) → has g (all_recorded K start no_record (es ++ e ∷ [])).undecided ≡ has g (recorded K start (all_recorded K start no_record es) e).undecided
  undecided_more es e g = ap (λ (r : Record N). has g r.undecided) (recorded_more K start no_record es e)

  pub undrawn_before : (es : List (Event N)) (n : N) → IsSound K start (es ++ Taken n ∷ []) → (g : ℕ) → is_marked (K.mark n) g ≡ true → list_any (draws K g) es ≡ false
  undrawn_before es n sound g is =
      false_from_ne_true _ (λ drawn. let lt : g < g = sound.allowed es [] (Taken n) refl g g (mark_is (K.mark n) g is) ((is_drawn K es g).0 drawn) in absurd (omega arith))

  one_more : (g : ℕ) (es : List (Event N)) (e : Event N) → IsSound K start (es ++ e ∷ []) → Tests es g → Tests (es ++ e ∷ []) g
  one_more g es (Taken n) sound t =
      let c = list_any (is_commit g) es in
      let f = list_any (is_fail g) es in
      let m = is_marked (K.mark n) g in
      let h = in_entries g (record_of K start es) in
      let c_is : list_any (is_commit g) (es ++ Taken n ∷ []) ≡ c = more_any (is_commit g) es (Taken n) ∙ or_no c in
      let f_is : list_any (is_fail g) (es ++ Taken n ∷ []) ≡ f = more_any (is_fail g) es (Taken n) ∙ or_no f in
      let h_is : in_entries g (record_of K start (es ++ Taken n ∷ [])) ≡ (h || m) =
      ap (in_entries g) (record_more K start es (Taken n)) ∙ list_any-append (λ n. is_marked (K.mark n) g) (record_of K start es) (n ∷ []) ∙ ap (λ b. h || b) (or_no m) in
      record {
        is_open =
            undecided_more es (Taken n) g
            ∙ list_any-append (λ t. t == g) (all_recorded K start no_record es).undecided (marks (K.mark n))
            ∙ (λ i. t.is_open i || marks_has (K.mark n) g i)
            ∙ open_taken c f h m (λ is. t.undrawn (undrawn_before es n sound g is))
            ∙ (λ i. not (sym c_is i) && (not (sym f_is i) && sym h_is i));
        undrawn = λ none.
            let parts = or_parts _ _ (sym (more_any (draws K g) es (Taken n)) ∙ none) in
            let before = t.undrawn parts.0 in
            (c_is ∙ before.0, f_is ∙ before.1, h_is ∙ or_from _ _ before.2 parts.1);
        apart = (λ i. c_is i && f_is i) ∙ t.apart;
      }
  one_more g es (Commit x) sound t =
      let c = list_any (is_commit g) es in
      let f = list_any (is_fail g) es in
      let h = in_entries g (record_of K start es) in
      let c_is : list_any (is_commit g) (es ++ Commit x ∷ []) ≡ (c || (x == g)) = more_any (is_commit g) es (Commit x) in
      let f_is : list_any (is_fail g) (es ++ Commit x ∷ []) ≡ f = more_any (is_fail g) es (Commit x) ∙ or_no f in
      let h_is : in_entries g (record_of K start (es ++ Commit x ∷ [])) ≡ h = ap (in_entries g) (record_more K start es (Commit x)) in
      let was : (x == g) ≡ true → (c ≡ false) × (f ≡ false) × (h ≡ true) =
      λ is. undecided_parts es g (subst (λ y. StatusIs K start es y Undecided) (eqb-true x g is) (sound.allowed es [] (Commit x) refl)) in
      record {
        is_open =
            undecided_more es (Commit x) g
            ∙ has_filter (λ t. not (t == x)) g (all_recorded K start no_record es).undecided
            ∙ (λ i. not (eqb_turned g x i) && t.is_open i)
            ∙ open_commit c f h (x == g)
            ∙ (λ i. not (sym c_is i) && (not (sym f_is i) && sym h_is i));
        undrawn = λ none.
            let before = t.undrawn ((or_parts _ _ (sym (more_any (draws K g) es (Commit x)) ∙ none)).0) in
            (c_is ∙ or_from _ _ before.0 (false_from_ne_true _ (λ is. true≢false (sym (was is).2 ∙ before.2))), f_is ∙ before.1, h_is ∙ before.2);
        apart = (λ i. c_is i && f_is i) ∙ apart_more c f (x == g) t.apart (λ is. (was is).1);
      }
  one_more g es (Fail x) sound t =
      let c = list_any (is_commit g) es in
      let f = list_any (is_fail g) es in
      let ns = record_of K start es in
      let h = in_entries g ns in
      let left = in_entries g (strike K start ns x) in
      let c_is : list_any (is_commit g) (es ++ Fail x ∷ []) ≡ c = more_any (is_commit g) es (Fail x) ∙ or_no c in
      let f_is : list_any (is_fail g) (es ++ Fail x ∷ []) ≡ (f || (x == g)) = more_any (is_fail g) es (Fail x) in
      let h_is : in_entries g (record_of K start (es ++ Fail x ∷ [])) ≡ left = ap (in_entries g) (record_more K start es (Fail x)) in
      let own : (x == g) ≡ true → left ≡ false = λ is. ap (λ y. in_entries g (strike K start ns y)) (eqb-true x g is) ∙ own_struck g start [] ns in
      let was : (x == g) ≡ true → (c ≡ false) × (f ≡ false) × (h ≡ true) =
      λ is. undecided_parts es g (subst (λ y. StatusIs K start es y Undecided) (eqb-true x g is) (sound.allowed es [] (Fail x) refl)) in
      record {
        is_open =
            undecided_more es (Fail x) g
            ∙ has_filter (still_marked (effects K start (strike K start (all_recorded K start no_record es).entries x))) g (all_recorded K start no_record es).undecided
            ∙ (λ i. still_marked (effects K start (strike K start (entries_are K start es i) x)) g && t.is_open i)
            ∙ ap (λ b. b && (not c && (not f && h))) (marked_is start (strike K start ns x) g)
            ∙ open_fail c f h left (x == g) own (left_within g x ns)
            ∙ (λ i. not (sym c_is i) && (not (sym f_is i) && sym h_is i));
        undrawn = λ none.
            let before = t.undrawn ((or_parts _ _ (sym (more_any (draws K g) es (Fail x)) ∙ none)).0) in (
              c_is ∙ before.0,
              f_is ∙ or_from _ _ before.1 (false_from_ne_true _ (λ is. true≢false (sym (was is).2 ∙ before.2))),
              h_is ∙ false_from_ne_true _ (λ there. true≢false (sym (left_within g x ns there) ∙ before.2)),
            );
        apart = (λ i. c_is i && f_is i) ∙ apart_other c f (x == g) t.apart (λ is. (was is).0);
      }

  pub tests : (g : ℕ) (es : List (Event N)) → IsSound K start es → Tests es g
  tests g = each_event K start (λ es. Tests es g) (record { is_open = refl; undrawn = λ none. (refl, refl, refl); apart = refl }) (one_more g)

  -- the computed list has the undecided guesses
  pub undecided_is : (es : List (Event N)) → IsSound K start es → (g : ℕ) → (has g (all_recorded K start no_record es).undecided ≡ true) ↔ StatusIs K start es g Undecided
  undecided_is es sound g =
      let t = tests g es sound in (
        λ here.
            let parts = open_parts _ _ _ (sym t.is_open ∙ here) in (
              (λ there. true≢false (sym ((has_commit es g).1 there) ∙ parts.0)),
              (λ there. true≢false (sym ((has_fail es g).1 there) ∙ parts.1)),
              (has_entry K start (record_of K start es) g).0 (marked_is start (record_of K start es) g ∙ parts.2),
            ),
        λ s.
            let parts = undecided_parts es g s in
            t.is_open ∙ (λ i. not (parts.0 i) && (not (parts.1 i) && parts.2 i)),
      )

  -- the number of a new guess is fresh
  pub fresh_from : (es : List (Event N)) (n : N) → IsSound K start (es ++ Taken n ∷ []) → IsFresh K start (all_recorded K start no_record es) (K.mark n)
  fresh_from es n sound =
      elim (K.mark n) as (λ own. K.mark n ≡ own → IsFresh K start (all_recorded K start no_record es) own) [
        | None ↦ λ _. tt
        | Some g ↦ λ is.
            let t = tests g es (sound_before K start es (Taken n ∷ []) sound) in
            let none = t.undrawn (undrawn_before es n sound g (is_mark (K.mark n) g is)) in (
              t.is_open ∙ (λ i. not (none.0 i) && (not (none.1 i) && none.2 i)),
              marked_is start (all_recorded K start no_record es).entries g ∙ ap (in_entries g) (entries_are K start es) ∙ none.2,
            )
      ] refl

-- ---- one event more
abbrev pub tail_of : {A : Type 0} → List A → List A
tail_of [] = []
tail_of (x ∷ xs) = xs

abbrev pub first_or : {A : Type 0} → A → List A → A
first_or d [] = d
first_or d (x ∷ xs) = x

module _ {A : Type 0} where
  empty_front : (xs ys : List A) → [] ≡ xs ++ ys → (xs ≡ []) × (ys ≡ [])
  empty_front [] ys is = (refl, sym is)
  empty_front (x ∷ xs) ys is = cc

  -- where a list with one part more is split
  more_split : (es : List A) (e : A) (before later : List A) → es ++ e ∷ [] ≡ before ++ later
      → ((later ≡ []) × (before ≡ es ++ e ∷ [])) ⊎ ((rest : List A) × (later ≡ rest ++ e ∷ []) × (es ≡ before ++ rest))
  more_split es e [] later is = inr (es, sym is, refl)
  more_split [] e (b ∷ before) later is =
      let none = empty_front before later (ap tail_of is) in
      inl (none.1, (λ i. first_or e (sym is i) ∷ none.0 i))
  more_split (x ∷ es) e (b ∷ before) later is =
      elim (more_split es e before later (ap tail_of is)) [
        | inl all ↦ inl (all.0, (λ i. first_or x (sym is i) ∷ all.1 i))
        | inr part ↦ inr (part.0, part.1, (λ i. first_or x (is i) ∷ part.2 i))
      ]

module _ {E V W F N : Type 0} (K : System E V W F N) (start : FinMap K.order V) where
  no_events : (before : List (Event N)) (e : Event N) (later : List (Event N)) → [] ≡ before ++ e ∷ later → ⊥
  no_events [] e later is = cc
  no_events (x ∷ before) e later is = cc

  allowed_at : (es : List (Event N)) (e : Event N) → IsSound K start es → IsAllowed K start es e
      → (before : List (Event N)) (x : Event N) (later rest : List (Event N)) → x ∷ later ≡ rest ++ e ∷ [] → es ≡ before ++ rest → IsAllowed K start before x
  allowed_at es e sound allowed before x later [] one is =
      let P : List (Event N) → Event N → Type 0 = λ es e. IsAllowed K start es e in
      subst (λ e. P before e) (ap (first_or e) (sym one)) (subst (λ es. P es e) (is ∙ nil_right before) allowed)
  allowed_at es e sound allowed before x later (y ∷ rest) more is =
      sound.allowed before rest x (is ∙ ap (λ y. before ++ y ∷ rest) (sym (ap (first_or x) more)))

  pub sound_first : IsSound K start []
  sound_first = record {
    legal = λ before later is. subst (λ es. IsLegal K start (record_of K start es)) (sym (empty_front before later is).0) tt;
    allowed = λ before later e is. absurd (no_events before e later is);
  }

  pub sound_more : (es : List (Event N)) (e : Event N) → IsSound K start es → IsAllowed K start es e → IsLegal K start (record_of K start (es ++ e ∷ [])) → IsSound K start (es ++ e ∷ [])
  sound_more es e sound allowed legal = record {
    legal = λ before later is.
        elim (more_split es e before later is) [
          | inl all ↦ subst (λ es. IsLegal K start (record_of K start es)) (sym all.1) legal
          | inr part ↦ sound.legal before part.0 part.2
        ];
    allowed = λ before later x is.
        elim (more_split es e before (x ∷ later) is) [
          | inl all ↦ cc
          | inr part ↦ allowed_at es e sound allowed before x later part.0 part.1 part.2
        ];
  }

  -- a step may follow where its guess's number is above each one before it and it is accepted
  pub sound_taken : (es : List (Event N)) (n : N) → IsSound K start es → IsAllowed K start es (Taken n) → IsOk (outcome K (run K start (record_of K start es)) n) → IsSound K start (es ++ Taken n ∷ [])
  sound_taken es n sound allowed accepted =
      sound_more es (Taken n) sound allowed
      (subst (IsLegal K start) (sym (record_more K start es (Taken n)))
      (legal_append K start (record_of K start es) (n ∷ []) (sound.legal es [] (sym (nil_right es))) (accepted, tt)))

  -- and a commit and a failure, where the guess is undecided
  pub sound_commit : (es : List (Event N)) (g : ℕ) → IsSound K start es → StatusIs K start es g Undecided → IsSound K start (es ++ Commit g ∷ [])
  sound_commit es g sound is_open =
      sound_more es (Commit g) sound is_open
      (subst (IsLegal K start) (sym (record_more K start es (Commit g))) (sound.legal es [] (sym (nil_right es))))

  pub sound_fail : IsTotalOrder K.order → IsAntisymmetric K.order → (es : List (Event N)) (g : ℕ) → IsSound K start es → StatusIs K start es g Undecided → IsSound K start (es ++ Fail g ∷ [])
  sound_fail total exact es g sound is_open =
      sound_more es (Fail g) sound is_open
      (subst (IsLegal K start) (sym (record_more K start es (Fail g)))
      (struck_runs K total exact start (record_of K start es) g (sound.legal es [] (sym (nil_right es)))).legal)

  -- the last step of a sound trace is accepted
  pub accepted_last : (es : List (Event N)) (n : N) → IsSound K start (es ++ Taken n ∷ []) → IsOk (outcome K (run K start (record_of K start es)) n)
  accepted_last es n sound =
      legal_last K start (record_of K start es) n
      (subst (IsLegal K start) (record_more K start es (Taken n)) (sound.legal (es ++ Taken n ∷ []) [] (sym (nil_right (es ++ Taken n ∷ [])))))

  -- a guess that is drawn after one more event was drawn before, or is drawn by it
  pub drawn_more : (es : List (Event N)) (e : Event N) (g : ℕ) → IsDrawn K (es ++ e ∷ []) g → IsDrawn K es g ⊎ ((n : N) × (e ≡ Taken n) × (K.mark n ≡ Some g))
  drawn_more es e g d =
      elim (Contains-push_cases es e (Taken d.0) d.1) [
        | inl before ↦ inl (d.0, before, d.2)
        | inr is ↦ inr (d.0, is, d.2)
      ]
