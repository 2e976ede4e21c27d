-- Numbers that go and come one after another, and a step that is handed over with them.
use Rattle.sk_bytes.proofs.Names.{◌≡◌, ℕ, zero, suc, ◌<◌, ◌≤◌, ◌+◌, arith, true, false, List, [], ◌∷◌, ◌++◌, map}
use Rattle.sk_bytes.proofs.Names.{length, get_or, Option, Some, None, cond, refl, sym, ◌∙◌, ap, subst, inl, inr, ◌==◌}
use Rattle.sk_bytes.proofs.Names.{◌⊎◌, ◌&&◌, ◌||◌, Bool, Result, Err, IfOk, IfSome, nat_lt, not, is_none, is_some}
use Rattle.sk_bytes.proofs.Names.{slice_get, slice_set, nat_cmp, eq_by_cmp, unsigned_tied, option_map, vec_items, Vec}
use Rattle.sk_bytes.proofs.Names.{eqb-true, eqb-false, eq-eqb, ltb-true, ltb-false, ne_eqb, or_left, or_right, or_cases}
use Rattle.sk_bytes.proofs.Names.{true≢false, false≢true, list_any-append, is_in, Note, last_tags, at_key, keys_of}
use Rattle.sk_bytes.proofs.Names.{AreWrites, SlotView, look_at, Numbered, number_of, string_of, Adds, Removes}
use Rattle.sk_bytes.proofs.Names.{some_none, same_bytes, shown, slot_shown, AllRest, IsTwoWay, LetsGo, Gains, AreNames}
use Rattle.sk_bytes.proofs.Names.{names, exchanged}
use Rattle.std.specs.Prelude.{Ok}
use Rattle.sk_bytes.proofs.Told.{two_way_more, two_way_less, nat_same, nat_other}

-- ---- numbers go

module _ {V : Type 0} (slots : List (ℕ × SlotView V)) where
  pub none_goes : (es : Numbered) → IsTwoWay es → LetsGo es (is_in nat_cmp []) slots es
  none_goes es two = record { two_way = two; strings = λ n. refl }

  after_both : (s m x : Bool) (o p q : Option (List ℕ)) → p ≡ cond (s && x) None o → q ≡ cond (m && x) None p → q ≡ cond ((s || m) && x) None o
  after_both true true true o p q first second = second
  after_both true true false o p q first second = second ∙ first
  after_both true false x o p q first second = second ∙ first
  after_both false true true o p q first second = second
  after_both false true false o p q first second = second ∙ first
  after_both false false x o p q first second = second ∙ first

  pub both_go : (es fs gs : Numbered) (some more : ℕ → Bool) → LetsGo es some slots fs → LetsGo fs more slots gs → LetsGo es (λ n. some n || more n) slots gs
  both_go es fs gs some more first second = record {
    two_way = second.two_way;
    strings = λ n. after_both (some n) (more n) (is_none (slot_shown slots n)) (string_of es n) (string_of fs n) (string_of gs n) (first.strings n) (second.strings n);
  }

  pub goes_as : (es fs : Numbered) (some other : ℕ → Bool) → ((n : ℕ) → some n ≡ other n) → LetsGo es some slots fs → LetsGo es other slots fs
  goes_as es fs some other same goes = record {
    two_way = goes.two_way;
    strings = λ n. goes.strings n ∙ ap (λ b. cond (b && is_none (slot_shown slots n)) None (string_of es n)) (same n);
  }

  pub one_more_goes : (es fs gs : Numbered) (ns : List ℕ) (n : ℕ) → LetsGo es (is_in nat_cmp ns) slots fs → LetsGo fs (is_in nat_cmp (n ∷ [])) slots gs → LetsGo es (is_in nat_cmp (ns ++ n ∷ [])) slots gs
  one_more_goes es fs gs ns n first second =
      goes_as es gs (λ m. is_in nat_cmp ns m || is_in nat_cmp (n ∷ []) m) (is_in nat_cmp (ns ++ n ∷ [])) (λ m. sym (list_any-append (eq_by_cmp nat_cmp m) ns (n ∷ [])))
      (both_go es fs gs (is_in nat_cmp ns) (is_in nat_cmp (n ∷ [])) first second)

  -- where none of the others has a string, all go that are not used
  one_of_all : (es : Numbered) (n : ℕ) (x y : Bool) (q : Option (List ℕ)) → (x ≡ false → string_of es n ≡ None) → q ≡ cond (x && y) None (string_of es n) → q ≡ cond y None (string_of es n)
  one_of_all es n true y q free is = is
  one_of_all es n false true q free is = is ∙ free refl
  one_of_all es n false false q free is = is

  pub all_go : (es fs : Numbered) (some : ℕ → Bool) (end : ℕ) → LetsGo es some slots fs → ((n : ℕ) → n < end → some n ≡ true) → ((n : ℕ) → end ≤ n → string_of es n ≡ None) → LetsGo es (λ n. true) slots fs
  all_go es fs some end goes first free = record {
    two_way = goes.two_way;
    strings = λ n. one_of_all es n (some n) (is_none (slot_shown slots n)) (string_of fs n) (λ out. free n (above n out (nat_lt n end) refl)) (goes.strings n);
  }
    where
      above : (n : ℕ) → some n ≡ false → (x : Bool) → nat_lt n end ≡ x → end ≤ n
      above n out true is = absurd (true≢false (sym (first n (ltb-true n end is)) ∙ out))
      above n out false is = ltb-false n end is

  -- a number whose key is not bare stays
  kept_one : (es : Numbered) (n m : ℕ) (x : Bool) → is_none (slot_shown slots n) ≡ false → eq_by_cmp nat_cmp m n ≡ x → string_of es m ≡ cond ((x || false) && is_none (slot_shown slots m)) None (string_of es m)
  kept_one es n m false there is = refl
  kept_one es n m true there is = ap (λ b. cond b None (string_of es m)) (sym (ap (λ k. is_none (slot_shown slots k)) (same_of m n is) ∙ there)) where
    same_of : (m n : ℕ) → eq_by_cmp nat_cmp m n ≡ true → m ≡ n
    same_of m n is = eqb-true m n (sym (unsigned_tied m n) ∙ is)

  pub one_kept : (es : Numbered) (n : ℕ) → IsTwoWay es → is_none (slot_shown slots n) ≡ false → LetsGo es (is_in nat_cmp (n ∷ [])) slots es
  one_kept es n two there = record { two_way = two; strings = λ m. kept_one es n m (eq_by_cmp nat_cmp m n) there refl }

  -- one that has no string stays without one
  free_one : (es : Numbered) (n m : ℕ) (x : Bool) → string_of es n ≡ None → eq_by_cmp nat_cmp m n ≡ x → (y : Bool) → string_of es m ≡ cond ((x || false) && y) None (string_of es m)
  free_one es n m false none is y = refl
  free_one es n m true none is true = ap (string_of es) (eqb-true m n (sym (unsigned_tied m n) ∙ is)) ∙ none
  free_one es n m true none is false = refl

  pub one_free : (es : Numbered) (n : ℕ) → IsTwoWay es → string_of es n ≡ None → LetsGo es (is_in nat_cmp (n ∷ [])) slots es
  one_free es n two none = record { two_way = two; strings = λ m. free_one es n m (eq_by_cmp nat_cmp m n) none refl (is_none (slot_shown slots m)) }

  -- one that is bare goes
  gone_one : (es : Numbered) (n m : ℕ) (x : Bool) → is_none (slot_shown slots n) ≡ true → (n == m) ≡ x → cond x None (string_of es m) ≡ cond ((eq_by_cmp nat_cmp m n || false) && is_none (slot_shown slots m)) None (string_of es m)
  gone_one es n m true bare is =
      ap (λ b. cond b None (string_of es m)) (sym (
      (λ i. (nat_same m n (sym (eqb-true n m is)) i || false) && is_none (slot_shown slots m))
      ∙ ap (λ k. is_none (slot_shown slots k)) (sym (eqb-true n m is)) ∙ bare))
  gone_one es n m false bare is =
      ap (λ b. cond ((b || false) && is_none (slot_shown slots m)) None (string_of es m)) (sym (nat_other m n (λ same. eqb-false n m is (sym same))))

  pub one_gone : (es fs : Numbered) (s : List ℕ) (n : ℕ) → IsTwoWay es → is_none (slot_shown slots n) ≡ true → Removes es s n fs → LetsGo es (is_in nat_cmp (n ∷ [])) slots fs
  one_gone es fs s n two bare gone = record {
    two_way = two_way_less es fs s n two gone;
    strings = λ m. gone.strings m ∙ gone_one es n m (n == m) bare refl;
  }

  -- what is taken out of an index
  pub removed : (es fs : Numbered) (n : ℕ) → IsTwoWay es → is_none (slot_shown slots n) ≡ true → (r : Option (Vec ℕ)) → IfSome r (λ s. Removes es s.items n fs) → (r ≡ None → string_of es n ≡ None) → (r ≡ None → fs ≡ es) → LetsGo es (is_in nat_cmp (n ∷ [])) slots fs
  removed es fs n two bare None some none same = subst (LetsGo es (is_in nat_cmp (n ∷ [])) slots) (sym (same refl)) (one_free es n two (none refl))
  removed es fs n two bare (Some s) some none same = one_gone es fs s.items n two bare some

-- of the first numbers one more is among these
pub first_more : (some : ℕ → Bool) (place k : ℕ) → k ≡ place → ((n : ℕ) → n < place → some n ≡ true) → (n : ℕ) → n < place + 1 → (some n || is_in nat_cmp (k ∷ []) n) ≡ true
first_more some place k is first n below =
    elim (nat_lt n place) as (λ x. nat_lt n place ≡ x → (some n || is_in nat_cmp (k ∷ []) n) ≡ true) [
      | true ↦ λ before. or_left _ _ (first n (ltb-true n place before))
      | false ↦ λ behind.
          let above = ltb-false n place behind in
          let last : n ≡ k = omega (arith, below, above, is) in
          or_right _ _ (or_left _ _ (unsigned_tied n k ∙ eq-eqb n k last))
    ] refl

-- ---- absent keys are listed

-- those of these that are absent are among the others
abbrev pub AbsentIn : {V : Type 0} → List (ℕ × SlotView V) → List ℕ → List ℕ → Type 0
AbsentIn slots ks ns = (n : ℕ) → is_in nat_cmp ks n ≡ true → look_at nat_cmp slots n ≡ None → is_in nat_cmp ns n ≡ true

pub one_more_absent : {V : Type 0} (slots : List (ℕ × SlotView V)) (ks old new : List ℕ) (k : ℕ) → AbsentIn slots ks old → ((n : ℕ) → is_in nat_cmp old n ≡ true → is_in nat_cmp new n ≡ true)
    → (look_at nat_cmp slots k ≡ None → is_in nat_cmp new k ≡ true) → AbsentIn slots (ks ++ k ∷ []) new
one_more_absent slots ks old new k first kept added n here absent =
    elim (or_cases _ _ (sym (list_any-append (eq_by_cmp nat_cmp n) ks (k ∷ [])) ∙ here)) [
      | inl before ↦ kept n (first n before absent)
      | inr last ↦
          let same : n ≡ k = elim (or_cases _ _ last) [ inl is ↦ eqb-true n k (sym (unsigned_tied n k) ∙ is) | inr never ↦ absurd (false≢true never) ] in
          subst (λ m. is_in nat_cmp new m ≡ true) (sym same) (added (ap (look_at nat_cmp slots) (sym same) ∙ absent))
    ]

-- ---- a key is bare

abbrev pub is_nil : List ℕ → Bool
is_nil tags = length tags == 0

pub map_none : {A B : Type 0} (f : A → B) (r : Option A) (b : Bool) → is_some r ≡ not b → b ≡ true → option_map f r ≡ None
map_none f None b is set = refl
map_none f (Some x) b is set = absurd (cc)

module _ {V : Type 0} where
  some_tags : (t : List ℕ) (log : List (Note V)) → (t ≡ [] → ⊥) → AllRest log → is_nil (last_tags t log) ≡ false
  some_tags [] [] some rests = absurd (some refl)
  some_tags (g ∷ t) [] some rests = ne_eqb (suc (length t)) 0 (λ e. omega (arith, e))
  some_tags t (n ∷ ns) some rests = some_tags n.tags ns rests.0 rests.1

  pub bare_told : (log : List (Note V)) → AllRest log → is_nil (last_tags [] log) ≡ is_none (shown None log)
  bare_told [] rests = refl
  bare_told (n ∷ ns) rests = some_tags n.tags ns rests.0 rests.1

-- ---- numbers come

pub none_comes : (es : Numbered) (loose : List ℕ) → IsTwoWay es → Gains es loose es
none_comes es loose two = record { two_way = two; strings = λ n. inl refl }

module _ (es fs gs : Numbered) (loose : List ℕ) (k : ℕ) where
  join : (n : ℕ) → ((string_of fs n ≡ string_of es n) ⊎ ((string_of es n ≡ None) × (is_in nat_cmp loose n ≡ true))) → ((string_of gs n ≡ string_of fs n) ⊎ ((string_of fs n ≡ None) × (is_in nat_cmp (k ∷ []) n ≡ true)))
      → (string_of gs n ≡ string_of es n) ⊎ ((string_of es n ≡ None) × (is_in nat_cmp (loose ++ k ∷ []) n ≡ true))
  join n (inl a) (inl b) = inl (b ∙ a)
  join n (inr a) (inl b) = inr (a.0, list_any-append (eq_by_cmp nat_cmp n) loose (k ∷ []) ∙ or_left _ _ a.1)
  join n (inl a) (inr b) = inr (sym a ∙ b.0, list_any-append (eq_by_cmp nat_cmp n) loose (k ∷ []) ∙ or_right _ _ b.1)
  join n (inr a) (inr b) = inr (a.0, list_any-append (eq_by_cmp nat_cmp n) loose (k ∷ []) ∙ or_left _ _ a.1)

  pub one_more_comes : Gains es loose fs → Gains fs (k ∷ []) gs → Gains es (loose ++ k ∷ []) gs
  one_more_comes first second = record { two_way = second.two_way; strings = λ n. join n (first.strings n) (second.strings n) }

module _ (es fs : Numbered) where
  pub one_comes : (s : List ℕ) (n : ℕ) → IsTwoWay es → Adds es s n fs → Gains es (n ∷ []) fs
  one_comes s n two adds = record { two_way = two_way_more es fs s n two adds; strings = λ m. at m (n == m) refl (adds.strings m) } where
    at : (m : ℕ) (x : Bool) → (n == m) ≡ x → string_of fs m ≡ cond x (Some s) (string_of es m) → (string_of fs m ≡ string_of es m) ⊎ ((string_of es m ≡ None) × (is_in nat_cmp (n ∷ []) m ≡ true))
    at m true is string = inr (ap (string_of es) (sym (eqb-true n m is)) ∙ adds.free, or_left _ _ (unsigned_tied m n ∙ eq-eqb m n (sym (eqb-true n m is))))
    at m false is string = inl string

  kept : (q : List ℕ) (k : ℕ) (loose : List ℕ) → IsTwoWay es → IsTwoWay fs → ((string_of fs k ≡ string_of es k) ⊎ ((string_of es k ≡ None) × (is_in nat_cmp loose k ≡ true))) → number_of es q ≡ Some k → number_of fs q ≡ Some k
  kept q k loose one two (inl same) is = two.back q k (same ∙ one.there q k is)
  kept q k loose one two (inr new) is = some_none q (sym (one.there q k is) ∙ new.0)

  -- what has a number keeps it
  pub names_kept : (loose : List ℕ) → IsTwoWay es → Gains es loose fs → (bs : List (List ℕ)) (ks : List ℕ) → AreNames (number_of es) bs ks → AreNames (number_of fs) bs ks
  names_kept loose two gains [] [] are = tt
  names_kept loose two gains [] (k ∷ ks) are = absurd are
  names_kept loose two gains (b ∷ bs) [] are = absurd are
  names_kept loose two gains (b ∷ bs) (k ∷ ks) are = (kept b k loose two gains.two_way (gains.strings k) are.0, names_kept loose two gains bs ks are.1)

  -- a key that was given a number has it
  pub added_all : {E : Type 0} (s : List ℕ) → IsTwoWay es → (r : Result ℕ E) → IfOk r (λ n. Adds es s n fs) → IfOk r (λ n. number_of fs s ≡ Some n) × IfOk r (λ n. Gains es (n ∷ []) fs)
  added_all s two (Ok n) adds = (adds.numbers s ∙ ap (λ b. cond b (Some n) (number_of es s)) ((same_bytes s s).1 refl), one_comes s n two adds)
  added_all s two (Err why) adds = (tt, tt)

module _ {B K : Type 0} (key : B → Option K) where
  pub names_more : (bs : List B) (ks : List K) (b : B) (k : K) → AreNames key bs ks → key b ≡ Some k → AreNames key (bs ++ b ∷ []) (ks ++ k ∷ [])
  names_more [] [] b k are is = (is, tt)
  names_more [] (l ∷ ks) b k are is = absurd are
  names_more (c ∷ bs) [] b k are is = absurd are
  names_more (c ∷ bs) (l ∷ ks) b k are is = (are.0, names_more bs ks b k are.1 is)

  pub names_length : (bs : List B) (ks : List K) → AreNames key bs ks → length bs ≡ length ks
  names_length [] [] are = refl
  names_length [] (k ∷ ks) are = absurd are
  names_length (b ∷ bs) [] are = absurd are
  names_length (b ∷ bs) (k ∷ ks) are = ap suc (names_length bs ks are.1)

  -- the numbers of one name more
  pub keys_push : (bs : List B) (b : B) → keys_of key (bs ++ b ∷ []) ≡ keys_of key bs ++ at_key [] (λ k. k ∷ []) (key b)
  keys_push [] b = elim (key b) as (λ o. at_key [] (λ k. k ∷ []) o ≡ at_key [] (λ k. k ∷ []) o) [ None ↦ refl | Some k ↦ refl ]
  keys_push (c ∷ bs) b =
      elim (key c) as (λ o. at_key (keys_of key (bs ++ b ∷ [])) (λ k. k ∷ keys_of key (bs ++ b ∷ [])) o ≡ at_key (keys_of key bs) (λ k. k ∷ keys_of key bs) o ++ at_key [] (λ k. k ∷ []) (key b)) [
        | None ↦ keys_push bs b
        | Some k ↦ ap (λ ks. k ∷ ks) (keys_push bs b)
      ]

pub names_push : {A V : Type 0} (ws : List (A × V)) (a : A) (v : V) → names (ws ++ (a, v) ∷ []) ≡ names ws ++ a ∷ []
names_push [] a v = refl
names_push (w ∷ ws) a v = ap (λ ks. w.0 ∷ ks) (names_push ws a v)

-- ---- what stands behind names is exchanged

module _ {A B V : Type 0} where
  -- so far
  abbrev pub swapped : ℕ → List (A × V) → List (B × V) → List (A × V)
  swapped zero ls rs = ls
  swapped (suc i) [] rs = []
  swapped (suc i) (l ∷ ls) [] = l ∷ ls
  swapped (suc i) (l ∷ ls) (r ∷ rs) = (l.0, r.1) ∷ swapped i ls rs

  pub swapped_at : (i : ℕ) (ls : List (A × V)) (rs : List (B × V)) (d : A × V) → get_or (swapped i ls rs) i d ≡ get_or ls i d
  swapped_at zero ls rs d = refl
  swapped_at (suc i) [] rs d = refl
  swapped_at (suc i) (l ∷ ls) [] d = refl
  swapped_at (suc i) (l ∷ ls) (r ∷ rs) d = swapped_at i ls rs d

  swapped_set : (i : ℕ) (ls : List (A × V)) (rs : List (B × V)) (l : A × V) (r : B × V) → i < length ls → i < length rs → l ≡ get_or ls i l → r ≡ get_or rs i r → slice_set (swapped i ls rs) i (l.0, r.1) ≡ swapped (suc i) ls rs
  swapped_set zero [] rs l r near other is at = absurd (omega arith)
  swapped_set zero (x ∷ ls) [] l r near other is at = absurd (omega arith)
  swapped_set zero (x ∷ ls) (y ∷ rs) l r near other is at = λ j. ((is j).0, (at j).1) ∷ ls
  swapped_set (suc i) [] rs l r near other is at = absurd (omega arith)
  swapped_set (suc i) (x ∷ ls) [] l r near other is at = absurd (omega arith)
  swapped_set (suc i) (x ∷ ls) (y ∷ rs) l r near other is at = ap (λ ws. (x.0, y.1) ∷ ws) (swapped_set i ls rs l r (omega arith) (omega arith) is at)

  pub swapped_more : (i : ℕ) (ls : List (A × V)) (rs : List (B × V)) (l : A × V) (r : B × V) → i < length ls → i < length rs → l ≡ get_or ls i l → r ≡ get_or rs i r → slice_set (swapped i ls rs) i (l.0, r.1) ≡ swapped (i + 1) ls rs
  swapped_more i ls rs l r near other is at = let next : suc i ≡ i + 1 = omega arith in swapped_set i ls rs l r near other is at ∙ ap (λ k. swapped k ls rs) next

  pub swapped_all : (i : ℕ) (ls : List (A × V)) (rs : List (B × V)) → length ls ≤ i → swapped i ls rs ≡ exchanged ls rs
  swapped_all zero [] rs far = refl
  swapped_all zero (l ∷ ls) rs far = absurd (omega arith)
  swapped_all (suc i) [] rs far = refl
  swapped_all (suc i) (l ∷ ls) [] far = refl
  swapped_all (suc i) (l ∷ ls) (r ∷ rs) far = ap (λ ws. (l.0, r.1) ∷ ws) (swapped_all i ls rs (omega arith))

  pub exchanged_length : (ls : List (A × V)) (rs : List (B × V)) → length (exchanged ls rs) ≡ length ls
  exchanged_length [] rs = refl
  exchanged_length (l ∷ ls) [] = refl
  exchanged_length (l ∷ ls) (r ∷ rs) = ap suc (exchanged_length ls rs)

  pub exchanged_back : (ls : List (A × V)) (rs : List (B × V)) → length ls ≡ length rs → exchanged (exchanged ls rs) (exchanged rs ls) ≡ ls
  exchanged_back [] [] same = refl
  exchanged_back [] (r ∷ rs) same = refl
  exchanged_back (l ∷ ls) [] same = absurd (omega (arith, same))
  exchanged_back (l ∷ ls) (r ∷ rs) same = ap (λ ws. l ∷ ws) (exchanged_back ls rs (omega (arith, same)))

  pub exchanged_names : (ls : List (A × V)) (rs : List (B × V)) → names (exchanged ls rs) ≡ names ls
  exchanged_names [] rs = refl
  exchanged_names (l ∷ ls) [] = refl
  exchanged_names (l ∷ ls) (r ∷ rs) = ap (λ ks. l.0 ∷ ks) (exchanged_names ls rs)

-- ---- the step over numbers is the step

pub writes_named : {V : Type 0} (key : List ℕ → Option ℕ) (ws : List (Vec ℕ × Option V)) (ns : List (ℕ × Option V)) → AreNames key (map (λ w. vec_items w.0) ws) (names ns) → AreWrites key (map (λ w. (vec_items w.0, w.1)) ws) (exchanged ns ws)
writes_named key [] [] are = tt
writes_named key [] (n ∷ ns) are = absurd are
writes_named key (w ∷ ws) [] are = absurd are
writes_named key (w ∷ ws) (n ∷ ns) are = (are.0, refl, writes_named key ws ns are.1)

-- ---- one of a list

-- what is in a place of a list
pub get_some : {A : Type 0} (xs : List A) (i : ℕ) (x : A) → i < length xs → x ≡ get_or xs i x → Some x ≡ slice_get xs i
get_some [] i x near is = absurd (omega arith)
get_some (y ∷ xs) zero x near is = ap Some is
get_some (y ∷ xs) (suc i) x near is = get_some xs i x (omega arith) is

pub get_none : {A : Type 0} (xs : List A) (i : ℕ) → length xs ≤ i → None ≡ slice_get xs i
get_none [] i far = refl
get_none (y ∷ xs) zero far = absurd (omega arith)
get_none (y ∷ xs) (suc i) far = get_none xs i (omega arith)
