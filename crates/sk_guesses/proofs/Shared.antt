-- Passes over the guesses, many of which share a list, and what is seen of them.
use Rattle.sk_guesses.proofs.Names.{◌≡◌, ℕ, suc, ◌<◌, ◌≤◌, ◌+◌, length, length-set, Bool, true, false, cond, List}
use Rattle.sk_guesses.proofs.Names.{[], ◌∷◌, ◌++◌, map, inl, inr, refl, sym, ◌∙◌, ap, subst, arith, slice_set}
use Rattle.sk_guesses.proofs.Names.{slice_index_or, AllByRecursion, AllZip, true≢false, relieved_beyond, remove, OpenGuess, Listing, left_to}
use Rattle.sk_guesses.proofs.Names.{zero, Ordering, without_entity, with_entity, without_tag, get_or-set_same}
use Rattle.std.proofs.lemmas.Bool.{cases_Bool, cases_lt}
use Rattle.std.proofs.lemmas.List.{get_or_default, get_or-map, get_or-set_other, map-set}
use Rattle.std.proofs.Math.Seq.{map-set_same}
use Rattle.std.specs.Prelude.{Result, Ok, Err, OnErr}
use Rattle.sk_guesses.specs.Shared.{Sharing, seen, IsReady, AreReady, is_named, changing, HasPlace, IsRoomier}
use Rattle.sk_guesses.specs.Shared.{IsPlaced, IsParted, Agrees, IsChanged, IsRelieved, WillChange, is_beyond}
use Rattle.sk_guesses.proofs.Opens.{guess_of}
use Rattle.std.proofs.lemmas.Bool.Decides.{nat_tests}

-- ---- a pass
module _ {A : Type 0} (P : A → A → Type 0) where
  pub record IsPassed (os ls : List A) (i : ℕ) : Type 0 where
    pub as_many : length ls ≡ length os
    pub done : (k : ℕ) (d : A) → k < i → k < length os → P (slice_index_or os k d) (slice_index_or ls k d)
    pub left : (k : ℕ) (d : A) → i ≤ k → slice_index_or ls k d ≡ slice_index_or os k d

  pub none_passed : (os : List A) → IsPassed os os 0
  none_passed os = record { as_many = refl; done = λ k d lt. absurd (omega arith); left = λ k d le. refl }

  pub all_pairs : (os ls : List A) → length ls ≡ length os
      → ((k : ℕ) (d : A) → k < length os → P (slice_index_or os k d) (slice_index_or ls k d)) → AllZip P os ls
  all_pairs [] [] many is = tt
  all_pairs [] (y ∷ ys) many is = absurd (omega (arith, many))
  all_pairs (x ∷ xs) [] many is = absurd (omega (arith, many))
  all_pairs (x ∷ xs) (y ∷ ys) many is =
      (is 0 x (omega arith), all_pairs xs ys (omega (arith, many)) (λ k d lt. is (suc k) d (omega arith)))

-- a statement of all holds at each
pub all_at : {A : Type 0} (P : A → Type 0) (xs : List A) (k : ℕ) (d : A) → AllByRecursion P xs → k < length xs → P (slice_index_or xs k d)
all_at P [] k d all lt = absurd (omega arith)
all_at P (x ∷ xs) zero d all lt = all.0
all_at P (x ∷ xs) (suc k) d all lt = all_at P xs k d all.1 (omega arith)

module _ {A : Type 0} {P : A → A → Type 0} {os ls : List A} {i : ℕ} (so : IsPassed P os ls i) where
  -- what held of each holds of the next
  pub at_next : (S : A → Type 0) (l : A) → AllByRecursion S os → i < length os → l ≡ slice_index_or ls i l → S l
  at_next S l all lt at = subst S (sym (at ∙ so.left i l (omega arith))) (all_at S os i l all lt)

  pub one_passed : (l new : A) → i < length os → l ≡ slice_index_or ls i l → P l new → IsPassed P os (slice_set ls i new) (i + 1)
  one_passed l new lt at is =
      let other = λ (k : ℕ) (d : A). get_or-set_other ls i k new d in
      let now = λ (d : A). get_or-set_same ls i new d in
      let old = λ (k : ℕ) (d : A). get_or_default ls k d l in
      grind (arith, nat_tests, length-set {A = A}, other, now, old)

  pub all_passed : length os ≤ i → AllZip P os ls
  all_passed le = all_pairs P os ls so.as_many (λ k d lt. so.done k d (omega (arith, lt, le)) lt)

-- what stops in the middle is a pass of what all are
pub stopped : {A : Type 0} {P : A → A → Type 0} {os ls : List A} {i : ℕ} → IsPassed P os ls i → (Q : A → A → Type 0) (l new : A) → ((x y : A) → P x y → Q x y) → ((x : A) → Q x x)
    → i < length os → l ≡ slice_index_or ls i l → Q l new → AllZip Q os (slice_set ls i new)
stopped {os = os} {ls = ls} {i = i} so Q l new weaker same lt at is =
    let weak : IsPassed Q os ls i = record { as_many = so.as_many; done = λ k d less within. weaker _ _ (so.done k d less within); left = so.left } in
    let more = one_passed weak l new lt at is in
    all_pairs Q os (slice_set ls i new) more.as_many (λ k d within. elim (cases_lt k (i + 1)) [
      | inl less ↦ more.done k d less within
      | inr le ↦ subst (Q (slice_index_or os k d)) (sym (more.left k d le)) (same (slice_index_or os k d))
    ])

pub more_at : {A : Type 0} (P : A → Type 0) (xs : List A) (i : ℕ) (x : A) → ((k : ℕ) (d : A) → k < i → P (slice_index_or xs k d)) → i < length xs → x ≡ slice_index_or xs i x → P x
    → (k : ℕ) (d : A) → k < i + 1 → P (slice_index_or xs k d)
more_at P xs i x so lt at is = λ k d less. grind (arith, so k d, get_or_default xs i x d lt)

pub all_from : {A : Type 0} (P : A → Type 0) (xs : List A) → ((k : ℕ) (d : A) → k < length xs → P (slice_index_or xs k d)) → AllByRecursion P xs
all_from P [] is = tt
all_from P (x ∷ xs) is = (is 0 x (omega arith), all_from P xs (λ k d lt. is (suc k) d (omega arith)))

pub on_err : {A B : Type 0} (r : Result A B) (P : Type 0) → P → OnErr r P
on_err (Ok a) P p = tt
on_err (Err e) P p = p

-- ---- what pairs tell
pub pairs_map : {A B : Type 0} (P : A → A → Type 0) (f g : A → B) (xs ys : List A) → ((x y : A) → P x y → f y ≡ g x) → AllZip P xs ys → map f ys ≡ map g xs
pairs_map P f g [] [] each ps = refl
pairs_map P f g (x ∷ xs) (y ∷ ys) each ps = let first = each x y ps.0 in let rest = pairs_map P f g xs ys each ps.1 in λ j. first j ∷ rest j
pairs_map P f g _ _ each ps = absurd ps

pub pairs_all : {A : Type 0} (P : A → A → Type 0) (Q S : A → Type 0) (xs ys : List A) → ((x y : A) → Q x → P x y → S y) → AllByRecursion Q xs → AllZip P xs ys → AllByRecursion S ys
pairs_all P Q S [] [] each all ps = tt
pairs_all P Q S (x ∷ xs) (y ∷ ys) each all ps = (each x y all.0 ps.0, pairs_all P Q S xs ys each all.1 ps.1)
pairs_all P Q S _ _ each all ps = absurd ps

pub weaker_pairs : {A : Type 0} (P Q : A → A → Type 0) (xs ys : List A) → ((x y : A) → P x y → Q x y) → AllZip P xs ys → AllZip Q xs ys
weaker_pairs P Q [] [] weaker ps = tt
weaker_pairs P Q (x ∷ xs) (y ∷ ys) weaker ps = (weaker x y ps.0, weaker_pairs P Q xs ys weaker ps.1)
weaker_pairs P Q _ _ weaker ps = absurd ps

pub pairs_self : {A : Type 0} (Q : A → Type 0) (P : A → A → Type 0) (xs : List A) → ((x : A) → Q x → P x x) → AllByRecursion Q xs → AllZip P xs xs
pairs_self Q P [] each all = tt
pairs_self Q P (x ∷ xs) each all = (each x all.0, pairs_self Q P xs each all.1)

pub all_of : {A : Type 0} (P Q S : A → Type 0) (xs : List A) → ((x : A) → P x → Q x → S x) → AllByRecursion P xs → AllByRecursion Q xs → AllByRecursion S xs
all_of P Q S [] each ps qs = tt
all_of P Q S (x ∷ xs) each ps qs = (each x ps.0 qs.0, all_of P Q S xs each ps.1 qs.1)

-- ---- what is seen
module _ {E : Type 0} where
  pub seen_remove : (es : List E) (os : List (Sharing E)) (i : ℕ) → i < length os → map (seen es) (remove os i) ≡ remove (map (seen es) os) i
  seen_remove es [] i lt = absurd (omega arith)
  seen_remove es (o ∷ os) zero lt = refl
  seen_remove es (o ∷ os) (suc i) lt = ap (λ xs. seen es o ∷ xs) (seen_remove es os i (omega arith))

  without_its_list : (es : List E) (o : Sharing E) → record o.guess { dependents = [] } ≡ record (seen es o).guess { dependents = [] }
  without_its_list es o = elim (o.shares) as (λ b. record o.guess { dependents = [] } ≡ record (cond b (record o.guess { dependents = es }) o.guess) { dependents = [] }) [ true ↦ refl | false ↦ refl ]

  retagged : (es : List E) (g : ℕ) (o : Sharing E) → seen es (record o { guess = without_tag g o.guess }) ≡ record { guess = without_tag g (seen es o).guess }
  retagged es g o = elim (o.shares) as (λ b. record { guess = cond b (record (without_tag g o.guess) { dependents = es }) (without_tag g o.guess) } ≡ record { guess = without_tag g (cond b (record o.guess { dependents = es }) o.guess) }) [ true ↦ refl | false ↦ refl ]

  -- one place of them
  module _ (es : List E) (os : List (Sharing E)) (i : ℕ) (l new : Sharing E) (d : Listing E) (lt : i < length os) (at : l ≡ slice_index_or os i l) where
    seen_new : (f : OpenGuess E → OpenGuess E) → seen es new ≡ record { guess = f (seen es l).guess }
        → map (seen es) (slice_set os i new) ≡ slice_set (map (seen es) os) i (record { guess = f (slice_index_or (map (seen es) os) i d).guess })
    seen_new f is =
        let there : seen es l ≡ slice_index_or (map (seen es) os) i d = ap (seen es) at ∙ sym (get_or-map (seen es) os i l d lt) in
        map-set (seen es) os i new ∙ ap (slice_set (map (seen es) os) i) (is ∙ (λ j. record { guess = f (there j).guess }))

    pub seen_taken : new.guess ≡ record l.guess { dependents = [] } → new.shares ≡ false
        → map (seen es) (slice_set os i new) ≡ slice_set (map (seen es) os) i (record { guess = record (slice_index_or (map (seen es) os) i d).guess { dependents = [] } })
    seen_taken guess shares =
        let left = guess ∙ without_its_list es l in
        seen_new (λ o. record o { dependents = [] })
        (ap (λ b. record { guess = cond b (record new.guess { dependents = es }) new.guess }) shares ∙ (λ j. record { guess = left j }))

    pub seen_retagged : (g : ℕ) → new ≡ record l { guess = without_tag g l.guess }
        → map (seen es) (slice_set os i new) ≡ slice_set (map (seen es) os) i (record { guess = without_tag g (slice_index_or (map (seen es) os) i d).guess })
    seen_retagged g is = seen_new (without_tag g) (ap (seen es) is ∙ retagged es g l)

  -- ---- whether they are ready
  pub ready_more : (n : ℕ) (os : List (Sharing E)) (o : Sharing E) → AreReady n os → IsReady n o → AreReady n (os ++ o ∷ [])
  ready_more n [] o all is = (is, tt)
  ready_more n (x ∷ os) o all is = (all.0, ready_more n os o all.1 is)

  pub ready_remove : (n : ℕ) (os : List (Sharing E)) (i : ℕ) → i < length os → AreReady n os → AreReady n (remove os i)
  ready_remove n [] i lt all = absurd (omega arith)
  ready_remove n (o ∷ os) zero lt all = all.1
  ready_remove n (o ∷ os) (suc i) lt all = (all.0, ready_remove n os i (omega arith) all.1)

  -- ---- where none shares the list, it is no matter what it has
  alone : (es fs : List E) (o : Sharing E) → o.shares ≡ false → seen es o ≡ seen fs o
  alone es fs o is = ap (λ b. record { guess = cond b (record o.guess { dependents = es }) o.guess }) is ∙ sym (ap (λ b. record { guess = cond b (record o.guess { dependents = fs }) o.guess }) is)

  -- the first to share has the list that it had
  pub founded : (es xs : List E) (os : List (Sharing E)) (i : ℕ) (l new : Sharing E) → AllByRecursion (λ o. o.shares ≡ false) os → i < length os → l ≡ slice_index_or os i l
      → l.guess.dependents ≡ xs → new.guess ≡ record l.guess { dependents = [] } → new.shares ≡ true → map (seen xs) (slice_set os i new) ≡ map (seen es) os
  founded es xs os i l new all lt at these guess shares =
      let own : l.shares ≡ false = ap (λ (o : Sharing E). o.shares) at ∙ all_at (λ (o : Sharing E). o.shares ≡ false) os i l all lt in
      map-set_same (seen xs) os i new l
      ((λ j. record { guess = cond (shares j) (record (guess j) { dependents = xs }) (guess j) })
      ∙ ap (λ ys. record { guess = record l.guess { dependents = ys } }) (sym these)
      ∙ sym (ap (λ b. record { guess = cond b (record l.guess { dependents = xs }) l.guess }) own) ∙ ap (seen xs) at)
      ∙ all_alone os all where
        all_alone : (os : List (Sharing E)) → AllByRecursion (λ o. o.shares ≡ false) os → map (seen xs) os ≡ map (seen es) os
        all_alone [] all = refl
        all_alone (o ∷ os) all = let first = alone xs es o all.0 in let rest = all_alone os all.1 in λ j. first j ∷ rest j

  -- ---- room for one entity more
  -- where these were shared, and still are
  pub record IsReserved (was xs es : List E) (os ls : List (Sharing E)) : Type 0 where
    pub same : es ≡ was
    pub count : xs ≡ es
    pub ready : AreReady (length was) os
    pub roomier : AllZip (IsRoomier (length xs)) os ls

  module _ {was xs es : List E} {os ls : List (Sharing E)} (is : IsReserved was xs es os ls) where
    pub reserved_ready : AreReady (length es) ls
    reserved_ready =
        let ready : AreReady (length xs) os = subst (λ ys. AreReady (length ys) os) (sym (is.count ∙ is.same)) is.ready in
        subst (λ ys. AreReady (length ys) ls) is.count
        (pairs_all (IsRoomier (length xs)) (IsReady (length xs)) (IsReady (length xs)) os ls (λ o l was more. more.ready was) ready is.roomier)

    pub reserved_seen : map (seen es) ls ≡ map (seen was) os
    reserved_seen =
        pairs_map (IsRoomier (length xs)) (seen es) (seen es) os ls
        (λ o l more j. record { guess = cond (more.shares j) (record (more.guess j) { dependents = es }) (more.guess j) }) is.roomier
        ∙ ap (λ ys. map (seen ys) os) is.same

  -- ---- those that share agree
  parted_seen : (es : List E) (o new : Sharing E) → IsParted es o new → seen es new ≡ seen es o
  parted_seen es o new is = grind (arith, nat_tests, is.shares, is.guess, is.shared)

  agrees_seen : (es : List E) (c : ℕ → Bool) (b : Bool) (o new : Sharing E) → Agrees es c b o new → seen es new ≡ seen es o
  agrees_seen es c b o new (inl is) = ap (seen es) is.0
  agrees_seen es c b o new (inr is) = parted_seen es o new is.0

  -- what is known once they agree
  pub record IsAgreed (c : ℕ → Bool) (b : Bool) (n : ℕ) (o : Sharing E) : Type 0 where
    pub agrees : o.shares ≡ true → c o.guess.id ≡ b
    pub ready : IsReady n o

  agreed : (es : List E) (c : ℕ → Bool) (b : Bool) (n : ℕ) (o new : Sharing E) → IsReady n o → Agrees es c b o new → IsAgreed c b n new
  agreed es c b n o new ready (inl is) = subst (IsAgreed c b n) (sym is.0) (record { agrees = is.1; ready = ready })
  agreed es c b n o new ready (inr is) = record { agrees = λ e. absurd (true≢false (sym e ∙ is.0.shares)); ready = λ e. absurd (true≢false (sym e ∙ is.0.shares)) }

  place_stays : (es : List E) (c : ℕ → Bool) (b : Bool) (n : ℕ) (o new : Sharing E) → HasPlace c n o → Agrees es c b o new → HasPlace c n new
  place_stays es c b n o new place (inl is) = subst (HasPlace c n) (sym is.0) place
  place_stays es c b n o new place (inr is) = λ e. absurd (true≢false (sym e ∙ ap (λ (g : OpenGuess E). c g.id) is.0.guess ∙ is.1))

  -- where room was made for those before they agree
  pub places_stay : (c : ℕ → Bool) (b : Bool) (n : ℕ) (es : List E) (os ls ms : List (Sharing E)) → AllZip (IsPlaced c n) os ls → AllZip (Agrees es c b) ls ms → AllByRecursion (HasPlace c n) ms
  places_stay c b n es os ls ms placed agree = pairs_all (Agrees es c b) (HasPlace c n) (HasPlace c n) ls ms (place_stays es c b n) (all_placed os ls placed) agree where
    all_placed : (os ls : List (Sharing E)) → AllZip (IsPlaced c n) os ls → AllByRecursion (HasPlace c n) ls
    all_placed [] [] ps = tt
    all_placed [] (l ∷ ls) ps = absurd ps
    all_placed (o ∷ os) [] ps = absurd ps
    all_placed (o ∷ os) (l ∷ ls) ps = (ps.0.place, all_placed os ls ps.1)

  -- ---- a change of all
  -- what the shared list becomes
  abbrev pub shared_after : (List E → List E) → Bool → List E → List E
  shared_after f b es = cond b (f es) es

  changed_one : (f : List E → List E) (c : ℕ → Bool) (b : Bool) (es : List E) (o new : Sharing E) → (o.shares ≡ true → c o.guess.id ≡ b) → IsChanged f c o new
      → (seen (shared_after f b es) new).guess ≡ changing f c (seen es o).guess
  changed_one f c b es o new agrees is = grind (arith, nat_tests, is.sharing, is.alone, is.shares)

  changed_all : (f : List E → List E) (c : ℕ → Bool) (b : Bool) (n : ℕ) (es : List E) (os ls : List (Sharing E)) → AllByRecursion (IsAgreed c b n) os → AllZip (IsChanged f c) os ls
      → map guess_of (map (seen (shared_after f b es)) ls) ≡ map (changing f c) (map guess_of (map (seen es) os))
  changed_all f c b n es [] [] all ps = refl
  changed_all f c b n es [] (l ∷ ls) all ps = absurd ps
  changed_all f c b n es (o ∷ os) [] all ps = absurd ps
  changed_all f c b n es (o ∷ os) (l ∷ ls) all ps =
      grind (arith, nat_tests, changed_one f c b es o l all.0.agrees ps.0, changed_all f c b n es os ls all.1 ps.1)

  still_ready : (f : List E → List E) (c : ℕ → Bool) (m : ℕ) (o new : Sharing E) → IsReady m o → IsChanged f c o new → IsReady m new
  still_ready f c m o new ready is = λ shares. let shared = sym is.shares ∙ shares in subst (IsReady m) (sym (is.sharing shared)) ready shares

  -- the guesses agree, and then each list is changed, among them the shared one
  pub record IsTurned (f : List E → List E) (c : ℕ → Bool) (b : Bool) (es : List E) (os ms ns : List (Sharing E)) : Type 0 where
    pub ready : AreReady (length es) os
    pub agree : AllZip (Agrees es c b) os ms
    pub change : AllZip (IsChanged f c) ms ns

  module _ {f : List E → List E} {c : ℕ → Bool} {b : Bool} {es : List E} {os ms ns : List (Sharing E)} (is : IsTurned f c b es os ms ns) where
    all_agreed : AllByRecursion (IsAgreed c b (length es)) ms
    all_agreed = pairs_all (Agrees es c b) (IsReady (length es)) (IsAgreed c b (length es)) os ms (agreed es c b (length es)) is.ready is.agree

    pub turned_seen : map guess_of (map (seen (shared_after f b es)) ns) ≡ map (changing f c) (map guess_of (map (seen es) os))
    turned_seen =
        changed_all f c b (length es) es ms ns all_agreed is.change
        ∙ ap (λ xs. map (changing f c) (map guess_of xs)) (pairs_map (Agrees es c b) (seen es) (seen es) os ms (agrees_seen es c b) is.agree)

    turned_ready : (m : ℕ) (Q : Sharing E → Type 0) → AllByRecursion Q ms → ((o : Sharing E) → IsAgreed c b (length es) o → Q o → o.shares ≡ true → m ≤ o.room) → AreReady m ns
    turned_ready m Q all fits =
        pairs_all (IsChanged f c) (IsReady m) (IsReady m) ms ns (still_ready f c m)
        (all_of (IsAgreed c b (length es)) Q (IsReady m) ms (λ o is q shares. ((is.ready shares).0, fits o is q shares)) all_agreed all) is.change

  one_longer : (R : E → E → Ordering) (e : E) (xs : List E) → length (with_entity R xs e) ≤ suc (length xs)
  one_longer R e [] = omega arith
  one_longer R e (x ∷ xs) = grind (arith, nat_tests, one_longer R e xs)

  more_fits : (R : E → E → Ordering) (e : E) (es : List E) (b : Bool) (room : ℕ) → length es ≤ room → (b ≡ true → length es < room) → length (shared_after (λ xs. with_entity R xs e) b es) ≤ room
  more_fits R e es b room le place = grind (arith, nat_tests, one_longer R e es)

  -- one more fits where there is a place
  pub more_ready : (R : E → E → Ordering) (e : E) {c : ℕ → Bool} {b : Bool} {es : List E} {os ms ns : List (Sharing E)} → IsTurned (λ xs. with_entity R xs e) c b es os ms ns
      → AllByRecursion (HasPlace c (length es)) ms → AreReady (length (shared_after (λ xs. with_entity R xs e) b es)) ns
  more_ready R e {c} {b} {es} is places =
      turned_ready is (length (shared_after (λ xs. with_entity R xs e) b es)) (HasPlace c (length es)) places
      (λ o was place shares. more_fits R e es b o.room (was.ready shares).1 (λ turns. (place (was.agrees shares ∙ turns)).0 shares))

  no_longer : (R : E → E → Ordering) (e : E) (xs : List E) → length (without_entity R xs e) ≤ length xs
  no_longer R e [] = omega arith
  no_longer R e (x ∷ xs) = grind (arith, nat_tests, no_longer R e xs)

  less_fits : (R : E → E → Ordering) (e : E) (es : List E) (b : Bool) (room : ℕ) → length es ≤ room → length (shared_after (λ xs. without_entity R xs e) b es) ≤ room
  less_fits R e es b room le = grind (arith, nat_tests, no_longer R e es)

  -- no more fit anyway
  pub less_ready : (R : E → E → Ordering) (e : E) {c : ℕ → Bool} {b : Bool} {es : List E} {os ms ns : List (Sharing E)} → IsTurned (λ xs. without_entity R xs e) c b es os ms ns
      → AreReady (length (shared_after (λ xs. without_entity R xs e) b es)) ns
  less_ready R e {c} {b} {es} is =
      turned_ready is (length (shared_after (λ xs. without_entity R xs e) b es)) (IsAgreed c b (length es)) (all_agreed is)
      (λ o was _ shares. less_fits R e es b o.room (was.ready shares).1)

  -- ---- where each that changes has a list of its own
  pub relieved_ready : (es : List E) (f : List E → List E) (c : ℕ → Bool) (n : ℕ) (os ls : List (Sharing E)) → AreReady n os → AllZip (IsRelieved es f c) os ls → AreReady n ls
  relieved_ready es f c n os ls = pairs_all (IsRelieved es f c) (IsReady n) (IsReady n) os ls (λ o l ready is. elim (cases_Bool (c o.guess.id)) [
    | inl here ↦ λ shares. absurd (true≢false (sym shares ∙ is.shares here))
    | inr none ↦ subst (IsReady n) (sym (is.others none)) ready
  ])

  relieved_one : (R : E → E → Ordering) (e : E) (es : List E) (tags own : List ℕ) (o l : Sharing E) → IsRelieved es (λ xs. without_entity R xs e) (is_beyond tags own) o l
      → (seen es l).guess ≡ relieved_beyond R tags own e (seen es o).guess
  relieved_one R e es tags own o l is = grind (arith, nat_tests, is.others, is.guess, is.shares)

  pub relieved_seen : (R : E → E → Ordering) (e : E) (es : List E) (tags own : List ℕ) (os ls : List (Sharing E)) → AllZip (IsRelieved es (λ xs. without_entity R xs e) (is_beyond tags own)) os ls
      → map guess_of (map (seen es) ls) ≡ map (relieved_beyond R tags own e) (map guess_of (map (seen es) os))
  relieved_seen R e es tags own [] [] ps = refl
  relieved_seen R e es tags own [] (l ∷ ls) ps = absurd ps
  relieved_seen R e es tags own (o ∷ os) [] ps = absurd ps
  relieved_seen R e es tags own (o ∷ os) (l ∷ ls) ps =
      let first = relieved_one R e es tags own o l ps.0 in let rest = relieved_seen R e es tags own os ls ps.1 in λ j. first j ∷ rest j

  -- ---- where all share and change
  pub will_turn : (f : List E → List E) (c : ℕ → Bool) (n : ℕ) (es : List E) (os : List (Sharing E)) → AllByRecursion (WillChange c n) os → AreReady (length es) os → IsTurned f c true es os os os
  will_turn f c n es os all ready = record {
    ready = ready;
    agree = pairs_self (WillChange c n) (Agrees es c true) os (λ o is. inl (refl, λ _. is.1)) all;
    change = pairs_self (WillChange c n) (IsChanged f c) os (λ o is. record { sharing = λ _. refl; alone = λ own. absurd (true≢false (sym is.0 ∙ own)); shares = refl }) all;
  }

  pub will_fit : (c : ℕ → Bool) (n : ℕ) (os : List (Sharing E)) → AllByRecursion (WillChange c n) os → AreReady n os → AllByRecursion (HasPlace c n) os
  will_fit c n os = all_of (WillChange c n) (IsReady n) (HasPlace c n) os (λ o will ready here.
      let none = ap length (ready will.0).0 in
      ((λ is. omega (arith, will.2, none)), (λ own. absurd (true≢false (sym will.0 ∙ own)))))

  -- ---- those that are among some, or are not
  pub left_all : (R : E → E → Ordering) (tags : List ℕ) (e : E) (os : List (OpenGuess E)) → map (changing (λ es. without_entity R es e) (is_named false tags)) os ≡ map (left_to R tags e) os
  left_all R tags e [] = refl
  left_all R tags e (o ∷ os) = grind (arith, nat_tests, left_all R tags e os)

  pub nothing : Listing E
  nothing = record { guess = record { id = 0; tags = []; dependents = [] } }
