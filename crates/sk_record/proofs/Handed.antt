-- Many private steps of one process at once, with one note, are these steps one after another.
use Rattle.sk_record.proofs.Names.{◌≡◌, ℕ, Bool, true, false, cond, ◌&&◌, ◌||◌, List, [], ◌∷◌, ◌++◌, map, Option, Some}
use Rattle.sk_record.proofs.Names.{None, Ok, refl, sym, ◌∙◌, ap, subst, append_assoc, list_any, filter, eq_by_cmp}
use Rattle.sk_record.proofs.Names.{IsTotalOrder, Equal-is, eq_by_cmp_equiv, FinMap, IsAntisymmetric, true≢false}
use Rattle.sk_record.proofs.Names.{or_left, or_right, or_parts, or_from, list_any-append, Effect, perform}
use Rattle.sk_record.proofs.Names.{is_marked, System, marked_effect, Note, has, noted, last_tags, Event, Taken}
use Rattle.sk_record.proofs.Names.{IsAllowed, marks, numbers, tags_at, step_tags, opened, Machine, with_drawn, Merges}
use Rattle.sk_record.proofs.Names.{MergedStands, HandsIn, StepsAlone, with_value, alone_tags, last_of, each}
use Rattle.sk_record.proofs.Names.{and-true, or-false}
use Rattle.sk_record.proofs.Lemmas.{filter_alike, last_more}
use Rattle.sk_record.proofs.Machine.{nil_right, has_filter}
use Rattle.sk_record.proofs.Merged.{all_kept, left_out, in_turn, merged_taken}

-- ---- lists
no_number : {A : Type 0} (x : A) → None ≡ Some x → ⊥
no_number x is = cc

none_where : {A : Type 0} (p q : A → Bool) (xs : List A) → ((x : A) → p x ≡ false → q x ≡ false) → list_any p xs ≡ false → list_any q xs ≡ false
none_where p q [] h none = refl
none_where p q (x ∷ xs) h none = let parts = or_parts _ _ none in or_from _ _ (h x parts.0) (none_where p q xs h parts.1)

module _ {V : Type 0} where
  named_last : (g : ℕ) (t tags : List ℕ) (v : Option V) (ns : List (Note V)) → has g tags ≡ true → has g (last_tags t (ns ++ noted true tags v [])) ≡ true
  named_last g t [] v ns here = absurd (true≢false (sym here))
  named_last g t (x ∷ tags) v ns here = ap (has g) (last_more t ns (record { tags = x ∷ tags; before = v })) ∙ here

  unnamed_last : (g : ℕ) (b : Bool) (t tags : List ℕ) (v : Option V) (ns : List (Note V)) → has g (last_tags t ns) ≡ false → has g tags ≡ false → has g (last_tags t (ns ++ noted b tags v [])) ≡ false
  unnamed_last g false t tags v ns none off = ap (λ ns. has g (last_tags t ns)) (nil_right ns) ∙ none
  unnamed_last g true t [] v ns none off = ap (λ ns. has g (last_tags t ns)) (nil_right ns) ∙ none
  unnamed_last g true t (x ∷ tags) v ns none off = ap (has g) (last_more t ns (record { tags = x ∷ tags; before = v })) ∙ off

  -- a second note with the same tags may be left out
  again : (b : Bool) (tags : List ℕ) (v w : Option V) (ns : List (Note V)) → Merges [] ((ns ++ noted b tags v []) ++ noted b tags w []) (ns ++ noted b tags v [])
  again false tags v w ns = subst (λ xs. Merges [] xs (ns ++ [])) (sym (nil_right (ns ++ []))) (all_kept [] (ns ++ []))
  again true [] v w ns = subst (λ xs. Merges [] xs (ns ++ [])) (sym (nil_right (ns ++ []))) (all_kept [] (ns ++ []))
  again true (t ∷ tags) v w ns =
      left_out [] (ns ++ record { tags = t ∷ tags; before = v } ∷ []) (record { tags = t ∷ tags; before = w }) (last_more [] ns (record { tags = t ∷ tags; before = v }))

module _ {E V W F N : Type 0} (K : System E V W F N) (total : IsTotalOrder K.order) (exact : IsAntisymmetric K.order) (start : FinMap K.order V) (n : N) (unmarked : K.mark n ≡ None) (own : E) (reads : List E) where
  allowed : (es : List (Event N)) → IsAllowed K start es (Taken n)
  allowed es g h is drawn = absurd (no_number g (sym unmarked ∙ is))

  abbrev effect_of : List (E × Option V) → V → Effect E V W
  effect_of read w = record { read = read; written = (own, Some w) ∷ []; said = None }

  -- the tags of such a step
  tags_are : (a : Machine E V W) (read : List (E × Option V)) (w : V) → map (λ r. r.0) read ≡ reads → step_tags a.state (marked_effect K (K.mark n) (Ok (effect_of read w))) ≡ alone_tags K a own reads
  tags_are a read w keys =
      (λ i. filter (λ g. is_marked (unmarked i) g || list_any (λ e. has g (tags_at a.state e)) (keys i ++ own ∷ [])) (numbers a.state.opens ++ marks (unmarked i)))
      ∙ ap (filter (λ g. list_any (λ e. has g (tags_at a.state e)) (reads ++ own ∷ []))) (nil_right (numbers a.state.opens))

  -- after the first of the steps, with the value w, and after any later one with its value
  abbrev mid : Machine E V W → V → Machine E V W
  mid a w = record {
    state = record {
      look = with_value K a.state.look own w;
      logs = λ e. a.state.logs e ++ noted (eq_by_cmp K.order e own) (alone_tags K a own reads) (a.state.look e) [];
      opens = a.state.opens;
    };
    status = a.status;
    texts = a.texts;
  }

  first : (es : List (Event N)) (a : Machine E V W) (read : List (E × Option V)) (w : V) → MergedStands K start es a → map (λ r. r.0) read ≡ reads
      → perform a.state.look (K.act n) ≡ Ok (effect_of read w) → MergedStands K start (es ++ Taken n ∷ []) (mid a w)
  first es a read w s keys accepted =
      let tags = tags_are a read w keys in
      merged_taken K total exact start es a n (mid a w) s (allowed es)
      (record {
        effect = effect_of read w;
        accepted = accepted;
        look = λ e. refl;
        logs = λ e. subst (λ xs. Merges [] (a.state.logs e ++ xs) ((mid a w).state.logs e)) (λ i. noted (sym (or-false (eq_by_cmp K.order e own)) i) (sym tags i) (a.state.look e) []) (all_kept [] ((mid a w).state.logs e));
        opens = sym (nil_right a.state.opens) ∙ (λ i. a.state.opens ++ opened (sym unmarked i) (sym tags i));
        status = λ g. λ i. with_drawn (sym unmarked i) a.status g;
        texts = λ t. sym (nil_right (a.texts t));
      })

  -- the later steps depend on the same guesses
  same_tags : (a : Machine E V W) (w : V) → alone_tags K (mid a w) own reads ≡ alone_tags K a own reads
  same_tags a w =
      let p : ℕ → Bool = λ g. list_any (λ e. has g (tags_at (mid a w).state e)) (reads ++ own ∷ []) in
      let q : ℕ → Bool = λ g. list_any (λ e. has g (tags_at a.state e)) (reads ++ own ∷ []) in
      let tags = alone_tags K a own reads in
      filter_alike p q (numbers a.state.opens) (λ g there.
      let is : has g tags ≡ q g = has_filter q g (numbers a.state.opens) ∙ ap (λ b. q g && b) there ∙ and-true (q g) in
      elim (q g) as (λ b. q g ≡ b → p g ≡ b) [
        | true ↦ λ here.
            let self : eq_by_cmp K.order own own ≡ true = (eq_by_cmp_equiv total).refl own in
            let last : has g (tags_at (mid a w).state own) ≡ true =
            subst (λ b. has g (last_tags [] (a.state.logs own ++ noted b tags (a.state.look own) [])) ≡ true) (sym self) (named_last g [] tags (a.state.look own) (a.state.logs own) (is ∙ here)) in
            list_any-append (λ e. has g (tags_at (mid a w).state e)) reads (own ∷ []) ∙ or_right _ _ (or_left _ _ last)
        | false ↦ λ none.
            none_where (λ e. has g (tags_at a.state e)) (λ e. has g (tags_at (mid a w).state e)) (reads ++ own ∷ [])
            (λ e off. unnamed_last g (eq_by_cmp K.order e own) [] tags (a.state.look e) (a.state.logs e) off (is ∙ none)) none
      ] refl)

  later : (es : List (Event N)) (a : Machine E V W) (read : List (E × Option V)) (v w : V) → MergedStands K start es (mid a v) → map (λ r. r.0) read ≡ reads
      → perform (with_value K a.state.look own v) (K.act n) ≡ Ok (effect_of read w) → MergedStands K start (es ++ Taken n ∷ []) (mid a w)
  later es a read v w s keys accepted =
      let tags = tags_are (mid a v) read w keys ∙ same_tags a v in
      let twice : (e : E) (b : Bool) → cond b (Some w) (cond b (Some v) (a.state.look e)) ≡ cond b (Some w) (a.state.look e) = λ e b. elim b as (λ b. cond b (Some w) (cond b (Some v) (a.state.look e)) ≡ cond b (Some w) (a.state.look e)) [ true ↦ refl | false ↦ refl ] in
      merged_taken K total exact start es (mid a v) n (mid a w) s (allowed es)
      (record {
        effect = effect_of read w;
        accepted = accepted;
        look = λ e. sym (twice e (eq_by_cmp K.order e own));
        logs = λ e. subst (λ xs. Merges [] ((mid a v).state.logs e ++ xs) ((mid a w).state.logs e)) (λ i. noted (sym (or-false (eq_by_cmp K.order e own)) i) (sym tags i) ((mid a v).state.look e) [])
            (again (eq_by_cmp K.order e own) (alone_tags K a own reads) (a.state.look e) ((mid a v).state.look e) (a.state.logs e));
        opens = sym (nil_right a.state.opens) ∙ (λ i. a.state.opens ++ opened (sym unmarked i) (sym tags i));
        status = λ g. λ i. with_drawn (sym unmarked i) a.status g;
        texts = λ t. sym (nil_right (a.texts t));
      })

  all_later : (ws : List V) (es : List (Event N)) (a : Machine E V W) (v : V) → MergedStands K start es (mid a v) → StepsAlone K a.state.look n own reads v ws
      → MergedStands K start (es ++ each (Taken n) ws) (mid a (last_of v ws))
  all_later [] es a v s steps = subst (λ xs. MergedStands K start xs (mid a v)) (sym (nil_right es)) s
  all_later (w ∷ ws) es a v s steps =
      subst (λ xs. MergedStands K start xs (mid a (last_of w ws))) (append_assoc es (Taken n ∷ []) (each (Taken n) ws))
      (all_later ws (es ++ Taken n ∷ []) a w (later es a steps.0.0 v w s steps.0.1 steps.0.2) steps.1)

  -- the machine is the last of these, but for notes that are left out
  closed : (es : List (Event N)) (a : Machine E V W) (w : V) (b : Machine E V W) → MergedStands K start es (mid a w) → HandsIn K a own reads w b → MergedStands K start es b
  closed es a w b s t = record {
    full = s.full;
    stands = s.stands;
    merged = record {
      look = λ e. t.look e ∙ s.merged.look e;
      logs = λ e. in_turn [] _ _ _ (s.merged.logs e) (t.logs e);
      opens = t.opens ∙ s.merged.opens;
      status = λ g. t.status g ∙ s.merged.status g;
      texts = λ x. t.texts x ∙ s.merged.texts x;
    };
  }

  pub handed_in : (es : List (Event N)) (a : Machine E V W) (v w : V) (ws : List V) (b : Machine E V W) → MergedStands K start es a → a.state.look own ≡ Some v
      → StepsAlone K a.state.look n own reads v (w ∷ ws) → HandsIn K a own reads (last_of w ws) b → MergedStands K start (es ++ each (Taken n) (w ∷ ws)) b
  handed_in es a v w ws b s there steps t =
      let same : (e : E) → a.state.look e ≡ with_value K a.state.look own v e = λ e.
      elim (eq_by_cmp K.order e own) as (λ b. eq_by_cmp K.order e own ≡ b → a.state.look e ≡ cond b (Some v) (a.state.look e)) [
        | true ↦ λ is. ap a.state.look (exact e own ((Equal-is (K.order e own)).0 is)) ∙ there
        | false ↦ λ _. refl
      ] refl in
      let accepted = (λ i. perform (λ e. same e i) (K.act n)) ∙ steps.0.2 in
      subst (λ xs. MergedStands K start xs b) (append_assoc es (Taken n ∷ []) (each (Taken n) ws))
      (closed ((es ++ Taken n ∷ []) ++ each (Taken n) ws) a (last_of w ws) b
      (all_later ws (es ++ Taken n ∷ []) a w (first es a steps.0.0 w s steps.0.1 accepted) steps.1) t)
