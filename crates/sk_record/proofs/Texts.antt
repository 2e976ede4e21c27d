-- The texts that a machine keeps are those that the record says, each with its tags, after every step, commit and failure; and what it releases of them.
use Rattle.sk_record.proofs.Names.{◌≡◌, ℕ, zero, suc, Bool, true, false, cond, not, List, [], ◌∷◌, ◌++◌, map, length}
use Rattle.sk_record.proofs.Names.{Option, Some, None, Ok, refl, sym, ◌∙◌, ap, append_assoc, ◌==◌, slice_get, list_any}
use Rattle.sk_record.proofs.Names.{filter, Ordering, IsTotalOrder, FinMap, IsAntisymmetric, or_parts, filter-append}
use Rattle.sk_record.proofs.Names.{MarkedEffect, hit, hits, dirt, keep, System, IsLegal, marked_effect, effects, strike}
use Rattle.sk_record.proofs.Names.{has, without, rests, next_dirty, tags_along, Taken, Commit, Fail, Record, recorded}
use Rattle.sk_record.proofs.Names.{marks, still_marked, IsFresh, UndoState, Represents, Took, step_tags, said_by}
use Rattle.sk_record.proofs.Names.{said_with, Tagged, lightened, not_dropped, TextsRepresent}
use Rattle.sk_record.proofs.Tags.{filter_swap, filter_within}
use Rattle.sk_record.proofs.Output.{carries_is, kept_rests}
use Rattle.sk_record.proofs.Machine.{nil_right, has_filter, unmarked_hits, union_is, longer, accepted_run}
use Rattle.sk_record.proofs.Struck.{struck_runs}
use Rattle.sk_record.proofs.UndoStates.{inv_of, and_both}

-- ---- the tags of each position
module _ {E V W : Type 0} (R : E → E → Ordering) where
  along_new : (gs : List ℕ) (h : ℕ) (dirty : ℕ → List E) (ts : List (MarkedEffect E V W)) → list_any (λ b. b) (hits R h (dirty h) ts) ≡ false
      → tags_along R (gs ++ h ∷ []) dirty ts ≡ tags_along R gs dirty ts
  along_new gs h dirty [] none = refl
  along_new gs h dirty (f ∷ ts) none =
      let parts = or_parts _ _ none in
      let same : rests R (gs ++ h ∷ []) dirty f ≡ rests R gs dirty f =
      filter-append (λ g. hit R g (dirty g) f) gs (h ∷ []) ∙ ap (λ b. rests R gs dirty f ++ cond b (h ∷ []) []) parts.0 ∙ nil_right (rests R gs dirty f) in
      λ i. same i ∷ along_new gs h (next_dirty R (gs ++ h ∷ []) dirty f) ts parts.1 i

  along_commit : (gs : List ℕ) (g : ℕ) (dirty : ℕ → List E) (ts : List (MarkedEffect E V W)) → tags_along R (without g gs) dirty ts ≡ map (without g) (tags_along R gs dirty ts)
  along_commit gs g dirty [] = refl
  along_commit gs g dirty (f ∷ ts) =
      λ i. filter_swap (λ h. hit R h (dirty h) f) (λ h. not (h == g)) gs i ∷ along_commit gs g (next_dirty R gs dirty f) ts i

  along_fewer : (gs : List ℕ) (q : ℕ → Bool) (dirty : ℕ → List E) (ts : List (MarkedEffect E V W))
      → ((h : ℕ) → q h ≡ false → list_any (λ b. b) (hits R h (dirty h) ts) ≡ false) → tags_along R (filter q gs) dirty ts ≡ tags_along R gs dirty ts
  along_fewer gs q dirty [] none = refl
  along_fewer gs q dirty (f ∷ ts) none =
      λ i. filter_within (λ h. hit R h (dirty h) f) q (λ h no_q. (or_parts _ _ (none h no_q)).0) gs i
      ∷ along_fewer gs q (next_dirty R gs dirty f) ts (λ h no_q. (or_parts _ _ (none h no_q)).1) i

  pub along_length : (gs : List ℕ) (dirty : ℕ → List E) (ts : List (MarkedEffect E V W)) → length (tags_along R gs dirty ts) ≡ length ts
  along_length gs dirty [] = refl
  along_length gs dirty (f ∷ ts) = ap suc (along_length gs (next_dirty R gs dirty f) ts)

  pub along_within : (gs : List ℕ) (dirty : ℕ → List E) (ts : List (MarkedEffect E V W)) (i : ℕ) (tags : List ℕ) (h : ℕ)
      → slice_get (tags_along R gs dirty ts) i ≡ Some tags → has h tags ≡ true → has h gs ≡ true
  along_within gs dirty [] i tags h at here = cc
  along_within gs dirty (f ∷ ts) zero tags h at here =
      let is : rests R gs dirty f ≡ tags = cc in
      (and_both _ _ (sym (has_filter (λ g. hit R g (dirty g) f) h gs) ∙ ap (has h) is ∙ here)).1
  along_within gs dirty (f ∷ ts) (suc i) tags h at here = along_within gs (next_dirty R gs dirty f) ts i tags h at here

pub got_map : {A B : Type 0} (p : A → B) (xs : List A) (i : ℕ) (x : A) → slice_get xs i ≡ Some x → slice_get (map p xs) i ≡ Some (p x)
got_map p [] i x at = cc
got_map p (y ∷ xs) zero x at = let is : y ≡ x = cc in ap (λ y. Some (p y)) is
got_map p (y ∷ xs) (suc i) x at = got_map p xs i x at

-- ---- labelled texts
pub map_append : {A B : Type 0} (p : A → B) (xs ys : List A) → map p (xs ++ ys) ≡ map p xs ++ map p ys
map_append p [] ys = refl
map_append p (x ∷ xs) ys = ap (λ zs. p x ∷ zs) (map_append p xs ys)

module _ {E V W F N : Type 0} (K : System E V W F N) where
  texts_more : (gs : List ℕ) (dirty : ℕ → List E) (ts : List (MarkedEffect E V W)) (f : MarkedEffect E V W) (t : ℕ)
      → said_with K t (tags_along K.order gs dirty (ts ++ f ∷ [])) (ts ++ f ∷ [])
      ≡ said_with K t (tags_along K.order gs dirty ts) ts ++ said_by K t f.said (rests K.order gs (λ g. dirt K.order g (dirty g) ts) f)
  texts_more gs dirty [] f t = nil_right _
  texts_more gs dirty (x ∷ ts) f t =
      ap (λ xs. said_by K t x.said (rests K.order gs dirty x) ++ xs) (texts_more gs (next_dirty K.order gs dirty x) ts f t)
      ∙ sym (append_assoc (said_by K t x.said (rests K.order gs dirty x)) _ _)

  lightened_by : (g t : ℕ) (s : Option W) (tags : List ℕ) → lightened g (said_by K t s tags) ≡ said_by K t s (without g tags)
  lightened_by g t None tags = refl
  lightened_by g t (Some w) tags =
      elim (K.goes_to w == t) as (λ b. lightened g (cond b ((w, tags) ∷ []) []) ≡ cond b ((w, without g tags) ∷ []) []) [ true ↦ refl | false ↦ refl ]

  lightened_said : (g t : ℕ) (labels : List (List ℕ)) (ts : List (MarkedEffect E V W)) → lightened g (said_with K t labels ts) ≡ said_with K t (map (without g) labels) ts
  lightened_said g t [] ts = refl
  lightened_said g t (tags ∷ labels) [] = refl
  lightened_said g t (tags ∷ labels) (f ∷ ts) =
      map_append (λ (x : Tagged W). (x.0, without g x.1)) (said_by K t f.said tags) (said_with K t labels ts)
      ∙ (λ i. lightened_by g t f.said tags i ++ lightened_said g t labels ts i)

  dropped_by : (g t : ℕ) (s : Option W) (tags : List ℕ) (b : Bool) → has g tags ≡ b → not_dropped g (said_by K t s tags) ≡ cond b [] (said_by K t s tags)
  dropped_by g t None tags true is = refl
  dropped_by g t None tags false is = refl
  dropped_by g t (Some w) tags true is =
      elim (K.goes_to w == t) as (λ b. not_dropped g (cond b ((w, tags) ∷ []) []) ≡ []) [ true ↦ ap (λ x. cond (not x) ((w, tags) ∷ []) []) is | false ↦ refl ]
  dropped_by g t (Some w) tags false is =
      elim (K.goes_to w == t) as (λ b. not_dropped g (cond b ((w, tags) ∷ []) []) ≡ cond b ((w, tags) ∷ []) []) [ true ↦ ap (λ x. cond (not x) ((w, tags) ∷ []) []) is | false ↦ refl ]

  nothing_said : {A : Type 0} (t : ℕ) (labels : List A) → said_with K t labels [] ≡ []
  nothing_said t [] = refl
  nothing_said t (a ∷ labels) = refl

  -- what a failure leaves
  left_said : (g t : ℕ) (labels : List (List ℕ)) (ts : List (MarkedEffect E V W)) → not_dropped g (said_with K t labels ts) ≡ said_with K t (keep (map (has g) labels) labels) (keep (map (has g) labels) ts)
  left_said g t [] ts = refl
  left_said g t (tags ∷ labels) [] =
      elim (has g tags) as (λ b. [] ≡ said_with K t (keep (b ∷ map (has g) labels) (tags ∷ labels)) []) [
        | true ↦ sym (nothing_said t (keep (map (has g) labels) labels))
        | false ↦ refl
      ]
  left_said g t (tags ∷ labels) (f ∷ ts) =
      filter-append (λ (x : Tagged W). not (has g x.1)) (said_by K t f.said tags) (said_with K t labels ts)
      ∙ elim (has g tags) as (λ b. has g tags ≡ b → not_dropped g (said_by K t f.said tags) ++ not_dropped g (said_with K t labels ts)
      ≡ said_with K t (keep (b ∷ map (has g) labels) (tags ∷ labels)) (keep (b ∷ map (has g) labels) (f ∷ ts))) [
        | true ↦ λ is. λ i. dropped_by g t f.said tags true is i ++ left_said g t labels ts i
        | false ↦ λ is. λ i. dropped_by g t f.said tags false is i ++ left_said g t labels ts i
      ] refl

module _ {E V W F N : Type 0} (K : System E V W F N) (total : IsTotalOrder K.order) (exact : IsAntisymmetric K.order) (start : FinMap K.order V) where
  marks_new : (r : Record N) (own : Option ℕ) → IsFresh K start r own
      → tags_along K.order (r.undecided ++ marks own) (λ g. []) (effects K start r.entries) ≡ tags_along K.order r.undecided (λ g. []) (effects K start r.entries)
  marks_new r None fresh = ap (λ gs. tags_along K.order gs (λ g. []) (effects K start r.entries)) (nil_right r.undecided)
  marks_new r (Some h) fresh = along_new K.order r.undecided h (λ g. []) (effects K start r.entries) (unmarked_hits K.order h (effects K start r.entries) fresh.1)

  pub texts_took : (r : Record N) (a : UndoState E V) (n : N) (b : UndoState E V) → Represents K start r a → IsFresh K start r (K.mark n) → (took : Took K a n b) → (texts after : ℕ → List (Tagged W)) → TextsRepresent K start r texts
      → ((t : ℕ) → after t ≡ texts t ++ said_by K t took.effect.said (step_tags a (marked_effect K (K.mark n) (Ok took.effect)))) → TextsRepresent K start (recorded K start r (Taken n)) after
  texts_took r a n b s fresh took texts after are does t =
      let f : MarkedEffect E V W = marked_effect K (K.mark n) (Ok took.effect) in
      let ts = effects K start r.entries in
      let gs = r.undecided ++ marks (K.mark n) in
      let inv = inv_of K total exact start r a s in
      does t
      ∙ (λ i. are t i ++ said_by K t f.said (union_is K total exact start r a inv f fresh i))
      ∙ (λ i. said_with K t (sym (marks_new r (K.mark n) fresh) i) ts ++ said_by K t f.said (rests K.order gs (λ g. dirt K.order g [] ts) f))
      ∙ sym (texts_more K gs (λ g. []) ts f t)
      ∙ ap (λ ts. said_with K t (tags_along K.order gs (λ g. []) ts) ts) (sym (longer K total exact start r n (Ok took.effect) (accepted_run K total exact start r a inv n (Ok took.effect) took.accepted)))

  pub texts_committed : (r : Record N) (c : ℕ) (texts after : ℕ → List (Tagged W)) → TextsRepresent K start r texts → ((t : ℕ) → after t ≡ lightened c (texts t)) → TextsRepresent K start (recorded K start r (Commit c)) after
  texts_committed r c texts after are does t =
      let ts = effects K start r.entries in
      does t ∙ ap (lightened c) (are t)
      ∙ lightened_said K c t (tags_along K.order r.undecided (λ g. []) ts) ts
      ∙ ap (λ labels. said_with K t labels ts) (sym (along_commit K.order r.undecided c (λ g. []) ts))

  pub texts_failed : (r : Record N) (c : ℕ) → IsLegal K start r.entries → has c r.undecided ≡ true → (texts after : ℕ → List (Tagged W)) → TextsRepresent K start r texts → ((t : ℕ) → after t ≡ not_dropped c (texts t)) → TextsRepresent K start (recorded K start r (Fail c)) after
  texts_failed r c legal is_open texts after are does t =
      let ts = effects K start r.entries in
      let us = effects K start (strike K start r.entries c) in
      let along = tags_along K.order r.undecided (λ g. []) ts in
      does t ∙ ap (not_dropped c) (are t)
      ∙ left_said K c t along ts
      ∙ ap (λ flags. said_with K t (keep flags along) (keep flags ts)) (carries_is K.order r.undecided c is_open (λ g. []) ts)
      ∙ ap (λ labels. said_with K t labels (keep (hits K.order c [] ts) ts)) (sym (kept_rests K.order r.undecided c (λ g. []) (λ g. []) (λ h e clean. refl) ts))
      ∙ ap (λ us. said_with K t (tags_along K.order r.undecided (λ g. []) us) us) (sym (struck_runs K total exact start r.entries c legal).steps)
      ∙ ap (λ labels. said_with K t labels us) (sym (along_fewer K.order r.undecided (still_marked us) (λ g. []) us (λ h none. unmarked_hits K.order h us none)))
