-- Writes, one after another, and the tags of keys.
use Rattle.sk_speculator.proofs.Names.{◌≡◌, ℕ, zero, suc, ◌+◌, ◌<◌, length, take, drop, arith, Bool, true, false, cond}
use Rattle.sk_speculator.proofs.Names.{◌||◌, List, [], ◌∷◌, ◌++◌, Option, refl, sym, ◌∙◌, ap, subst, get_or, slice_set}
use Rattle.sk_speculator.proofs.Names.{OnOk, OnErr, is_err, drop-cons, suc-eq-add-one, eq_by_cmp, Ordering}
use Rattle.sk_speculator.proofs.Names.{IsTotalOrder, eq_by_cmp_equiv, Equal-is, IsAntisymmetric, true≢false, or_left}
use Rattle.sk_speculator.proofs.Names.{or_right, append-nil, exact_bytes, is_in, written_value, Note, noted, last_tags}
use Rattle.sk_speculator.proofs.Names.{Merges, all_kept, left_out, SlotView, goes_unnoted, noted_on, look_at, log_at}
use Rattle.sk_speculator.proofs.Names.{IsReady, noted_again, keys_of, made_by, Performed, AllAlmostExact, OpenGuess}
use Rattle.std.specs.Prelude.{Result, Ok, Err}
use Rattle.sk_speculator.proofs.Names.{list_any-append, tags_by, with_tags, any_rests, first_tags, found, has, GoesOn}
use Rattle.sk_speculator.proofs.Names.{inl, inr, is_some, or_cases}

module _ {V : Type 0} where
  -- a note for a write, or what stands for it
  pub noted_merges : (b : Bool) (tags : List ℕ) (v : Option V) (log : List (Note V)) → (b ≡ true → tags ≡ [] → log ≡ [])
      → Merges [] (log ++ noted b tags v []) (cond b (noted_on tags v log) log)
  noted_merges false tags v log clean = subst (λ ns. Merges [] ns log) (sym (append-nil log)) (all_kept [] log)
  noted_merges true [] v log clean =
      subst (λ ns. Merges [] (ns ++ []) (noted_on [] v ns)) (sym (clean refl refl)) tt
  noted_merges true (t ∷ tags) v log clean =
      elim (goes_unnoted (t ∷ tags) log) as (λ b. goes_unnoted (t ∷ tags) log ≡ b → Merges [] (log ++ record { tags = t ∷ tags; before = v } ∷ []) (cond b log (log ++ record { tags = t ∷ tags; before = v } ∷ []))) [
        | true ↦ λ same. left_out [] log (record { tags = t ∷ tags; before = v }) (sym ((exact_bytes (t ∷ tags) (last_tags [] log)).0 same))
        | false ↦ λ _. all_kept [] (log ++ record { tags = t ∷ tags; before = v } ∷ [])
      ] refl

  -- a second write with these tags is not noted
  pub noted_twice : (tags : List ℕ) (v w : Option V) (log : List (Note V)) → noted_on tags w (noted_on tags v log) ≡ noted_on tags v log
  noted_twice tags v w log =
      elim (goes_unnoted tags log) as (λ b. goes_unnoted tags log ≡ b → noted_on tags w (cond b log (log ++ record { tags = tags; before = v } ∷ [])) ≡ cond b log (log ++ record { tags = tags; before = v } ∷ [])) [
        | true ↦ λ on. ap (λ b. cond b log (log ++ record { tags = tags; before = w } ∷ [])) on
        | false ↦ λ _.
            let more = log ++ record { tags = tags; before = v } ∷ [] in
            ap (λ b. cond b more (more ++ record { tags = tags; before = w } ∷ [])) (noted_again tags log (record { tags = tags; before = v }) refl)
      ] refl

  -- one write more: what is left gives the same from here
  pub write_more : (tags : List ℕ) (e rest : Bool) (v w value : Option V) (x y : List (Note V)) → w ≡ cond e value v → y ≡ cond e (noted_on tags v x) x
      → cond rest (noted_on tags w y) y ≡ cond (e || rest) (noted_on tags v x) x
  write_more tags true true v w value x y is log = (λ i. noted_on tags w (log i)) ∙ noted_twice tags v w x
  write_more tags true false v w value x y is log = log
  write_more tags false true v w value x y is log = λ i. noted_on tags (is i) (log i)
  write_more tags false false v w value x y is log = log

-- the keys of what writes make are theirs
pub keys_made : {K V W : Type 0} (R : K → K → Ordering) (written : W → Option V → Option V) (look : K → Option V) (ws : List (K × W)) → keys_of (made_by R written look ws) ≡ keys_of ws
keys_made R written look [] = refl
keys_made R written look (w ∷ ws) = ap (λ ks. w.0 ∷ ks) (keys_made R written (λ q. cond (eq_by_cmp R q w.0) (written w.1 (look q)) (look q)) ws)

-- whole values are what is written
pub made_whole : {K V : Type 0} (R : K → K → Ordering) (look : K → Option V) (ws : List (K × Option V)) → made_by R (λ value _. value) look ws ≡ ws
made_whole R look [] = refl
made_whole R look (w ∷ ws) = ap (λ vs. w ∷ vs) (made_whole R (λ q. cond (eq_by_cmp R q w.0) w.1 (look q)) ws)

-- what is left to write
pub record Writing {K V W : Type 0} (R : K → K → Ordering) (written : W → Option V → Option V) (tags : List ℕ) (old : List (K × SlotView V)) (all : List (K × W)) (now : List (K × SlotView V)) (rest : List (K × W)) : Type 0 where
  pub look : (q : K) → written_value R (made_by R written (look_at R now) rest) q (look_at R now q) ≡ written_value R (made_by R written (look_at R old) all) q (look_at R old q)
  pub logs : (q : K) → cond (is_in R (keys_of rest) q) (noted_on tags (look_at R now q) (log_at R now q)) (log_at R now q) ≡ cond (is_in R (keys_of all) q) (noted_on tags (look_at R old q) (log_at R old q)) (log_at R old q)
  pub ready : (q : K) → is_in R (keys_of rest) q ≡ true → IsReady R tags now q

module _ {K V W : Type 0} (R : K → K → Ordering) (written : W → Option V → Option V) (tags : List ℕ) (old : List (K × SlotView V)) (all : List (K × W)) where
  pub writing_done : (new : List (K × SlotView V)) → ((q : K) → is_in R (keys_of all) q ≡ true → tags ≡ [] → log_at R old q ≡ []) → Writing R written tags old all new [] → Performed R old tags (made_by R written (look_at R old) all) new
  writing_done new clean w = record {
    look = w.look;
    logs = λ q.
        subst (λ ks. Merges [] (log_at R old q ++ noted (is_in R ks q) tags (look_at R old q) []) (log_at R new q)) (sym (keys_made R written (look_at R old) all))
        (subst (Merges [] (log_at R old q ++ noted (is_in R (keys_of all) q) tags (look_at R old q) [])) (sym (w.logs q)) (noted_merges (is_in R (keys_of all) q) tags (look_at R old q) (log_at R old q) (clean q)));
  }

  pub writing_more : IsAntisymmetric R → (now new : List (K × SlotView V)) (k : K) (one : W) (rest : List (K × W)) → Writing R written tags old all now ((k, one) ∷ rest)
      → ((q : K) → look_at R new q ≡ cond (eq_by_cmp R q k) (written one (look_at R now q)) (look_at R now q)) → ((q : K) → log_at R new q ≡ cond (eq_by_cmp R q k) (noted_on tags (look_at R now q) (log_at R now q)) (log_at R now q))
      → ((q : K) → IsReady R tags now q → IsReady R tags new q) → Writing R written tags old all new rest
  writing_more exact now new k one rest w look log ready = record {
    look = λ q.
        let after : K → Option V = λ x. cond (eq_by_cmp R x k) (written one (look_at R now x)) (look_at R now x) in
        let own : after q ≡ cond (eq_by_cmp R q k) (written one (look_at R now k)) (look_at R now q) =
        elim (eq_by_cmp R q k) as (λ b. eq_by_cmp R q k ≡ b → cond b (written one (look_at R now q)) (look_at R now q) ≡ cond b (written one (look_at R now k)) (look_at R now q)) [
          | true ↦ λ e. ap (λ x. written one (look_at R now x)) (exact q k ((Equal-is (R q k)).0 e))
          | false ↦ λ _. refl
        ] refl in
        (λ i. written_value R (made_by R written (λ x. look x i) rest) q (look q i)) ∙ ap (written_value R (made_by R written after rest) q) own ∙ w.look q;
    logs = λ q. write_more tags (eq_by_cmp R q k) (is_in R (keys_of rest) q) (look_at R now q) (look_at R new q) (written one (look_at R now q)) (log_at R now q) (log_at R new q) (look q) (log q) ∙ w.logs q;
    ready = λ q here. ready q (w.ready q (or_right _ _ here));
  }

-- ---- writes of which none is noted
-- one write more: what is left makes the same from here
look_more : {K V W : Type 0} (R : K → K → Ordering) (written : W → Option V → Option V) → IsAntisymmetric R → (now new : List (K × SlotView V)) (k : K) (one : W) (rest : List (K × W))
    → ((q : K) → look_at R new q ≡ cond (eq_by_cmp R q k) (written one (look_at R now q)) (look_at R now q))
    → (q : K) → written_value R (made_by R written (look_at R new) rest) q (look_at R new q) ≡ written_value R (made_by R written (look_at R now) ((k, one) ∷ rest)) q (look_at R now q)
look_more {K} {V} R written exact now new k one rest look q =
    let after : K → Option V = λ x. cond (eq_by_cmp R x k) (written one (look_at R now x)) (look_at R now x) in
    let own : after q ≡ cond (eq_by_cmp R q k) (written one (look_at R now k)) (look_at R now q) =
    elim (eq_by_cmp R q k) as (λ b. eq_by_cmp R q k ≡ b → cond b (written one (look_at R now q)) (look_at R now q) ≡ cond b (written one (look_at R now k)) (look_at R now q)) [
      | true ↦ λ e. ap (λ x. written one (look_at R now x)) (exact q k ((Equal-is (R q k)).0 e))
      | false ↦ λ _. refl
    ] refl in
    (λ i. written_value R (made_by R written (λ x. look x i) rest) q (look q i)) ∙ ap (written_value R (made_by R written after rest) q) own

-- what is left to write
pub record WritingOn {K V W : Type 0} (R : K → K → Ordering) (written : W → Option V → Option V) (old : List (K × SlotView V)) (all : List (K × W)) (now : List (K × SlotView V)) (rest : List (K × W)) : Type 0 where
  pub look : (q : K) → written_value R (made_by R written (look_at R now) rest) q (look_at R now q) ≡ written_value R (made_by R written (look_at R old) all) q (look_at R old q)
  pub log : (q : K) → log_at R now q ≡ log_at R old q
  pub slots : (q : K) → is_in R (keys_of rest) q ≡ true → is_some (found R now q) ≡ true

module _ {K V W : Type 0} (R : K → K → Ordering) (written : W → Option V → Option V) (old : List (K × SlotView V)) (all : List (K × W)) where
  pub writing_on_more : IsAntisymmetric R → (now new : List (K × SlotView V)) (k : K) (one : W) (rest : List (K × W)) → WritingOn R written old all now ((k, one) ∷ rest)
      → ((q : K) → look_at R new q ≡ cond (eq_by_cmp R q k) (written one (look_at R now q)) (look_at R now q)) → ((q : K) → log_at R new q ≡ log_at R now q)
      → ((q : K) → is_some (found R now q) ≡ true → is_some (found R new q) ≡ true) → WritingOn R written old all new rest
  writing_on_more exact now new k one rest w look log slots = record {
    look = λ q. look_more R written exact now new k one rest look q ∙ w.look q;
    log = λ q. log q ∙ w.log q;
    slots = λ q here. slots q (w.slots q (or_right _ _ here));
  }

unnoted_as : {V : Type 0} (b : Bool) (tags : List ℕ) (v : Option V) (log : List (Note V)) → (b ≡ true → goes_unnoted tags log ≡ true) → cond b (noted_on tags v log) log ≡ log
unnoted_as true tags v log on = ap (λ c. cond c log (log ++ record { tags = tags; before = v } ∷ [])) (on refl)
unnoted_as false tags v log on = refl

-- what is written so is performed with the tags that the keys have
pub performed_on : {K V W : Type 0} (R : K → K → Ordering) (written : W → Option V → Option V) (old new : List (K × SlotView V)) (tags : List ℕ) (all : List (K × W))
    → ((q : K) → is_in R (keys_of all) q ≡ true → tags ≡ [] → log_at R old q ≡ []) → ((q : K) → is_in R (keys_of all) q ≡ true → goes_unnoted tags (log_at R old q) ≡ true)
    → ((q : K) → look_at R new q ≡ written_value R (made_by R written (look_at R old) all) q (look_at R old q)) → ((q : K) → log_at R new q ≡ log_at R old q)
    → Performed R old tags (made_by R written (look_at R old) all) new
performed_on R written old new tags all clean unnoted look log = record {
  look = look;
  logs = λ q.
      subst (λ ks. Merges [] (log_at R old q ++ noted (is_in R ks q) tags (look_at R old q) []) (log_at R new q)) (sym (keys_made R written (look_at R old) all))
      (subst (Merges [] (log_at R old q ++ noted (is_in R (keys_of all) q) tags (look_at R old q) [])) (unnoted_as (is_in R (keys_of all) q) tags (look_at R old q) (log_at R old q) (unnoted q) ∙ sym (log q))
      (noted_merges (is_in R (keys_of all) q) tags (look_at R old q) (log_at R old q) (clean q)));
}

-- keys that have just these tags depend on no other guess
pub rests_within : {K V : Type 0} {R : K → K → Ordering} → IsTotalOrder R → (m : List (K × SlotView V)) (tags : List ℕ) (g : ℕ) (ks : List K)
    → ((q : K) → is_in R ks q ≡ true → goes_unnoted tags (log_at R m q) ≡ true) → any_rests R m g ks ≡ true → has g tags ≡ true
rests_within total m tags g [] on rests = absurd (true≢false (sym rests))
rests_within {R = R} total m tags g (k ∷ ks) on rests =
    elim (or_cases _ _ rests) [
      | inl first ↦ ap (has g) ((exact_bytes tags (last_tags [] (log_at R m k))).0 (on k (or_left _ _ ((eq_by_cmp_equiv total).refl k)))) ∙ first
      | inr later ↦ rests_within {R = R} total m tags g ks (λ q here. on q (or_right _ _ here)) later
    ]

first_rests : {K V : Type 0} (R : K → K → Ordering) (m : List (K × SlotView V)) (g : ℕ) (ks : List K) → has g (first_tags R m ks) ≡ true → any_rests R m g ks ≡ true
first_rests R m g [] here = absurd (true≢false (sym here))
first_rests R m g (k ∷ ks) here = or_left _ _ here

all_three : (t l w : Bool) → (l ≡ true → t ≡ true) → (w ≡ true → t ≡ true) → (t ≡ true → w ≡ true) → t ≡ ((false || l) || w)
all_three true true w looked written back = refl
all_three true false w looked written back = sym (back refl)
all_three false true w looked written back = looked refl
all_three false false true looked written back = written refl
all_three false false false looked written back = refl

-- the tags of a step that goes on are those of the first key that it writes
pub goes_members : {K V : Type 0} {R : K → K → Ordering} → IsTotalOrder R → (m : List (K × SlotView V)) (looked written : List K) → GoesOn R m looked written
    → (g : ℕ) → has g (first_tags R m written) ≡ ((false || any_rests R m g looked) || any_rests R m g written)
goes_members {R = R} total m looked written goes g =
    all_three (has g (first_tags R m written)) (any_rests R m g looked) (any_rests R m g written) (goes.within g)
    (rests_within {R = R} total m (first_tags R m written) g written goes.unnoted) (first_rests R m g written)

-- what was written stays where what is seen does
pub performed_settled : {K V : Type 0} (R : K → K → Ordering) (old mid new : List (K × SlotView V)) (tags : List ℕ) (ws : List (K × Option V)) → ((q : K) → look_at R new q ≡ look_at R mid q) → ((q : K) → log_at R new q ≡ log_at R mid q)
    → Performed R old tags ws mid → Performed R old tags ws new
performed_settled R old mid new tags ws look log did = record {
  look = λ q. look q ∙ did.look q;
  logs = λ q. subst (Merges [] (log_at R old q ++ noted (is_in R (keys_of ws) q) tags (look_at R old q) [])) (sym (log q)) (did.logs q);
}

-- what was performed on what is seen the same was performed on what was there before
pub performed_before : {K V : Type 0} (R : K → K → Ordering) (old mid new : List (K × SlotView V)) (tags : List ℕ) (ws : List (K × Option V)) → ((q : K) → look_at R mid q ≡ look_at R old q) → ((q : K) → log_at R mid q ≡ log_at R old q)
    → Performed R mid tags ws new → Performed R old tags ws new
performed_before R old mid new tags ws look log did = record {
  look = λ q. did.look q ∙ ap (written_value R ws q) (look q);
  logs = λ q. subst (λ ns. Merges [] ns (log_at R new q)) (λ i. log q i ++ noted (is_in R (keys_of ws) q) tags (look q i) []) (did.logs q);
}

pub none_more : (b : Bool) → b ≡ (b || false)
none_more true = refl
none_more false = refl

-- what holds of the first and of one more holds of those
pub either_key : {K : Type 0} {R : K → K → Ordering} → IsAntisymmetric R → (P : K → Type 0) (b : Bool) (q e : K) → (b || eq_by_cmp R q e) ≡ true → (b ≡ true → P q) → P e → P q
either_key {R = R} exact P true q e is first last = first refl
either_key {R = R} exact P false q e is first last = subst P (sym (exact q e ((Equal-is (R q e)).0 is))) last

-- ---- one place of a list after another
pub take_next : {X : Type 0} (xs : List X) (i : ℕ) (x : X) → i < length xs → x ≡ get_or xs i x → take (i + 1) xs ≡ take i xs ++ x ∷ []
take_next {X} xs i x lt is = let next : i + 1 ≡ suc i = omega arith in ap (λ k. take k xs) next ∙ by_place xs i lt is where
  by_place : (xs : List X) (i : ℕ) → i < length xs → x ≡ get_or xs i x → take (suc i) xs ≡ take i xs ++ x ∷ []
  by_place [] i lt is = absurd (omega arith)
  by_place (y ∷ xs) zero lt is = ap (λ z. z ∷ []) (sym is)
  by_place (y ∷ xs) (suc i) lt is = ap (λ ys. y ∷ ys) (by_place xs i (omega arith) is)

pub drop_next : {X : Type 0} (xs : List X) (i : ℕ) (x : X) → i < length xs → x ≡ get_or xs i x → drop i xs ≡ x ∷ drop (i + 1) xs
drop_next xs i x lt is = drop-cons xs i x lt ∙ (λ k. sym is k ∷ drop (suc-eq-add-one i k) xs)

-- what stands behind a place that is set
pub drop_set : {X : Type 0} (xs : List X) (i : ℕ) (x : X) → drop (i + 1) (slice_set xs i x) ≡ drop (i + 1) xs
drop_set {X} xs i x = let next : i + 1 ≡ suc i = omega arith in ap (λ k. drop k (slice_set xs i x)) next ∙ by_place xs i ∙ ap (λ k. drop k xs) (sym next) where
  by_place : (xs : List X) (i : ℕ) → drop (suc i) (slice_set xs i x) ≡ drop (suc i) xs
  by_place [] i = refl
  by_place (y ∷ xs) zero = refl
  by_place (y ∷ xs) (suc i) = by_place xs i

pub set_length : {X : Type 0} (xs : List X) (i : ℕ) (x : X) → length (slice_set xs i x) ≡ length xs
set_length [] i x = refl
set_length (y ∷ xs) zero x = refl
set_length (y ∷ xs) (suc i) x = ap suc (set_length xs i x)

-- the keys of writes stay where one value is moved out
pub keys_set : {K A : Type 0} (ws : List (K × A)) (i : ℕ) (w v : K × A) → i < length ws → w ≡ get_or ws i w → v.0 ≡ w.0 → keys_of (slice_set ws i v) ≡ keys_of ws
keys_set [] i w v lt is same = refl
keys_set {K} {A} (x ∷ ws) zero w v lt is same = ap (λ k. k ∷ keys_of ws) (same ∙ ap (λ (p : K × A). p.0) is)
keys_set (x ∷ ws) (suc i) w v lt is same = ap (λ ks. x.0 ∷ ks) (keys_set ws i w v (omega arith) is same)

pub keys_more : {K A : Type 0} (ws vs : List (K × A)) → keys_of (ws ++ vs) ≡ keys_of ws ++ keys_of vs
keys_more [] vs = refl
keys_more (w ∷ ws) vs = ap (λ ks. w.0 ∷ ks) (keys_more ws vs)

pub in_front : {K A : Type 0} (R : K → K → Ordering) (ws : List (K × A)) (i : ℕ) (k : K) → is_in R (keys_of (take i ws)) k ≡ true → is_in R (keys_of ws) k ≡ true
in_front R [] zero k here = here
in_front R [] (suc i) k here = here
in_front R (w ∷ ws) zero k here = absurd (true≢false (sym here))
in_front R (w ∷ ws) (suc i) k here =
    elim (eq_by_cmp R k w.0) as (λ b. (b || is_in R (keys_of (take i ws)) k) ≡ true → (b || is_in R (keys_of ws) k) ≡ true) [ true ↦ λ _. refl | false ↦ λ later. in_front R ws i k later ] here

pub in_place : {K A : Type 0} {R : K → K → Ordering} → IsTotalOrder R → (ws : List (K × A)) (i : ℕ) (w : K × A) → i < length ws → w ≡ get_or ws i w → is_in R (keys_of ws) w.0 ≡ true
in_place total [] i w lt is = absurd (omega arith)
in_place {K} {A} {R} total (x ∷ ws) zero w lt is = or_left _ _ (ap (λ (y : K × A). eq_by_cmp R w.0 y.0) (sym is) ∙ (eq_by_cmp_equiv total).refl w.0)
in_place {K} {A} {R} total (x ∷ ws) (suc i) w lt is = or_right _ _ (in_place {R = R} total ws i w (omega arith) is)

-- ---- keys by themselves
pub among_first : {K : Type 0} (R : K → K → Ordering) (ks : List K) (i : ℕ) (k : K) → is_in R (take i ks) k ≡ true → is_in R ks k ≡ true
among_first R [] zero k here = here
among_first R [] (suc i) k here = here
among_first R (x ∷ ks) zero k here = absurd (true≢false (sym here))
among_first R (x ∷ ks) (suc i) k here =
    elim (eq_by_cmp R k x) as (λ b. (b || is_in R (take i ks) k) ≡ true → (b || is_in R ks k) ≡ true) [ true ↦ λ _. refl | false ↦ λ later. among_first R ks i k later ] here

pub among_them : {K : Type 0} {R : K → K → Ordering} → IsTotalOrder R → (ks : List K) (i : ℕ) (k : K) → i < length ks → k ≡ get_or ks i k → is_in R ks k ≡ true
among_them total [] i k lt is = absurd (omega arith)
among_them {K} {R} total (x ∷ ks) zero k lt is = or_left _ _ (ap (eq_by_cmp R k) (sym is) ∙ (eq_by_cmp_equiv total).refl k)
among_them {K} {R} total (x ∷ ks) (suc i) k lt is = or_right _ _ (among_them {R = R} total ks i k (omega arith) is)

-- lists that are almost exact for some keys are so for the same keys in another order
pub almost_as : {K : Type 0} (R : K → K → Ordering) (tags : K → List ℕ) (ks all : List K) → ((k : K) → is_in R ks k ≡ is_in R all k)
    → (os : List (OpenGuess K)) → AllAlmostExact R tags ks os → AllAlmostExact R tags all os
almost_as R tags ks all same [] almost = tt
almost_as R tags ks all same (o ∷ os) almost =
    (record { kept = almost.0.kept; others = λ k out. almost.0.others k (same k ∙ out) }, almost_as R tags ks all same os almost.1)

-- and so where the last of the first keys is told first
either_way : (a b : Bool) → (a || (b || false)) ≡ (b || a)
either_way true true = refl
either_way true false = refl
either_way false true = refl
either_way false false = refl

pub almost_last : {K : Type 0} (R : K → K → Ordering) (tags : K → List ℕ) (ks : List K) (i : ℕ) (k : K) → i < length ks
    → k ≡ get_or ks i k → (os : List (OpenGuess K)) → AllAlmostExact R tags (take (i + 1) ks) os
    → AllAlmostExact R tags (k ∷ take i ks) os
almost_last R tags ks i k lt is os almost =
    almost_as R tags (take (i + 1) ks) (k ∷ take i ks)
    (λ q.
    ap (λ xs. is_in R xs q) (take_next ks i k lt is) ∙ list_any-append (eq_by_cmp R q) (take i ks) (k ∷ [])
    ∙ either_way (is_in R (take i ks) q) (eq_by_cmp R q k))
    os almost

-- what is known to be there is not missed
pub or_known : (a b : Bool) → (b ≡ true → a ≡ true) → a ≡ (a || b)
or_known true b known = refl
or_known false true known = known refl
or_known false false known = refl

-- where keys have just these tags they depend on what they did
pub tags_same : {K V : Type 0} (R : K → K → Ordering) (logs : K → List (Note V)) (tags : List ℕ) (ks : List K)
    → ((q : K) → is_in R ks q ≡ true → goes_unnoted tags (logs q) ≡ true) → (k : K)
    → tags_by logs k ≡ with_tags R tags ks (tags_by logs) k
tags_same R logs tags ks same k =
    elim (is_in R ks k) as (λ b. is_in R ks k ≡ b → last_tags [] (logs k) ≡ cond b tags (last_tags [] (logs k))) [
      | true ↦ λ here. sym ((exact_bytes tags (last_tags [] (logs k))).0 (same k here))
      | false ↦ λ _. refl
    ] refl

pub only_one : (b : Bool) → (b || false) ≡ true → b ≡ true
only_one true is = refl
only_one false is = absurd (true≢false (sym is))

-- ---- answers
pub when_ok : {A E P Q : Type 0} (r : Result A E) → OnOk r P → (P → Q) → OnOk r Q
when_ok (Ok x) p f = f p
when_ok (Err why) p f = tt

pub from_ok : {A E P : Type 0} (r : Result A E) → false ≡ is_err r → OnOk r P → P
from_ok (Ok x) is p = p
from_ok (Err why) is p = absurd (true≢false (sym is))

pub from_err : {A E P : Type 0} (r : Result A E) → true ≡ is_err r → OnErr r P → P
from_err (Ok x) is p = absurd (true≢false is)
from_err (Err why) is p = p

pub always_ok : {A E P : Type 0} (r : Result A E) → P → OnOk r P
always_ok (Ok x) p = p
always_ok (Err why) p = tt

pub always_err : {A E P : Type 0} (r : Result A E) → P → OnErr r P
always_err (Ok x) p = tt
always_err (Err why) p = p
