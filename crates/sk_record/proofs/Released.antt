-- What a machine releases is the longest prefix of what the record says whose positions are clear.
use Rattle.sk_record.proofs.Names.{◌≡◌, ℕ, suc, ◌+◌, Bool, true, false, cond, List, [], ◌∷◌, ◌++◌, map, length}
use Rattle.sk_record.proofs.Names.{Option, Some, None, inl, inr, refl, sym, ◌∙◌, ap, subst, arith, ◌==◌, ◌⊎◌, ◌↔◌}
use Rattle.sk_record.proofs.Names.{slice_get, Contains, IsTotalOrder, FinMap, IsAntisymmetric, true≢false, MarkedEffect}
use Rattle.sk_record.proofs.Names.{Dep, hits, System, effects, has, tags_along, Event, IsTagAt, IsSound, effects_of}
use Rattle.sk_record.proofs.Names.{all_recorded, no_record, said_by, said_from, said_with, said, IsClear, IsReleased}
use Rattle.sk_record.proofs.Names.{Tagged, released, TextsRepresent}
use Rattle.sk_record.proofs.Lemmas.{cons_cases, no_member}
use Rattle.sk_record.proofs.Chains.{flags_are_Dep}
use Rattle.sk_record.proofs.Output.{carries_is}
use Rattle.sk_record.proofs.UndoStates.{no_tags}
use Rattle.sk_record.proofs.Sound.{entries_are, undecided_is}
use Rattle.sk_record.proofs.Texts.{along_length, along_within, got_map, map_append}

-- a front part of what is said, and of what is kept
record Split {W : Type 0} (P : ℕ → Type 0) (said : List (W × ℕ)) (kept : List (Tagged W)) : Type 0 where
  out : List (W × ℕ)
  held : List (W × ℕ)
  split : said ≡ out ++ held
  texts : released kept ≡ map (λ x. x.0) out
  clear : (x : W × ℕ) → Contains out x → P x.1
  longest : (x : W × ℕ) (more : List (W × ℕ)) → held ≡ x ∷ more → ¬ (P x.1)

-- the label of the first part
abbrev place_of : {W : Type 0} → ℕ → List (W × ℕ) → ℕ
place_of d [] = d
place_of d (x ∷ xs) = x.1

some_tag : (x : ℕ) (tags : List ℕ) → x ∷ tags ≡ [] → ⊥
some_tag x tags is = cc

abbrev one : {W A : Type 0} → W → A → List (W × A)
one w a = (w, a) ∷ []

some_same : (b : Bool) → Some b ≡ Some true → b ≡ true
some_same b is = cc

module _ {E V W F N : Type 0} (K : System E V W F N) where
  -- a step says one text to the terminal, or none
  one_or_none : (t : ℕ) (s : Option W) (i : ℕ) (tags : List ℕ)
      → ((said_by K t s i ≡ []) × (said_by K t s tags ≡ [])) ⊎ ((w : W) × (said_by K t s i ≡ (w, i) ∷ []) × (said_by K t s tags ≡ (w, tags) ∷ []))
  one_or_none t None i tags = inl (refl, refl)
  one_or_none t (Some w) i tags =
      elim (K.goes_to w == t) as (λ b. ((cond b (one w i) [] ≡ []) × (cond b (one w tags) [] ≡ [])) ⊎ ((v : W) × (cond b (one w i) [] ≡ one v i) × (cond b (one w tags) [] ≡ one v tags))) [
        | true ↦ inr (w, refl, refl)
        | false ↦ inl (refl, refl)
      ]

  moved_by : (P : ℕ → Type 0) (i k : ℕ) (A : Type 0) → A ↔ P (i + suc k) → A ↔ P (suc i + k)
  moved_by P i k A h = subst (λ n. A ↔ P n) (omega arith) h

  -- a step that says nothing to the terminal is passed over
  passed_over : (P : ℕ → Type 0) (t i : ℕ) (label : List ℕ) (labels : List (List ℕ)) (f : MarkedEffect E V W) (ts : List (MarkedEffect E V W))
      → (said_by K t f.said i ≡ []) × (said_by K t f.said label ≡ [])
      → Split P (said_from K t (suc i) ts) (said_with K t labels ts) → Split P (said_from K t i (f ∷ ts)) (said_with K t (label ∷ labels) (f ∷ ts))
  passed_over P t i label labels f ts none rest = record {
    out = rest.out;
    held = rest.held;
    split = ap (λ xs. xs ++ said_from K t (suc i) ts) none.0 ∙ rest.split;
    texts = ap (λ xs. released (xs ++ said_with K t labels ts)) none.1 ∙ rest.texts;
    clear = rest.clear;
    longest = rest.longest;
  }

  front : (P : ℕ → Type 0) (t i : ℕ) (labels : List (List ℕ)) (ts : List (MarkedEffect E V W)) → length labels ≡ length ts
      → ((k : ℕ) (tags : List ℕ) → slice_get labels k ≡ Some tags → (tags ≡ []) ↔ P (i + k))
      → Split P (said_from K t i ts) (said_with K t labels ts)
  front P t i [] [] long clear = record { out = []; held = []; split = refl; texts = refl; clear = λ x there. absurd (no_member x there); longest = λ x more is. cc }
  front P t i [] (f ∷ ts) long clear = absurd (omega arith)
  front P t i (tags ∷ labels) [] long clear = absurd (omega arith)
  front P t i ([] ∷ labels) (f ∷ ts) long clear =
      let rest = front P t (suc i) labels ts (omega arith) (λ k tags at. moved_by P i k (tags ≡ []) (clear (suc k) tags at)) in
      elim (one_or_none t f.said i []) [
        | inl none ↦ passed_over P t i [] labels f ts none rest
        | inr one ↦ record {
          out = (one.0, i) ∷ rest.out;
          held = rest.held;
          split = ap (λ xs. xs ++ said_from K t (suc i) ts) one.1 ∙ ap (λ xs. (one.0, i) ∷ xs) rest.split;
          texts = ap (λ xs. released (xs ++ said_with K t labels ts)) one.2 ∙ ap (λ ws. one.0 ∷ ws) rest.texts;
          clear = λ x there. elim (cons_cases (one.0, i) rest.out x there) [
            | inl is ↦ subst (λ (x : W × ℕ). P x.1) is (subst P (omega arith) ((clear 0 [] refl).0 refl))
            | inr later ↦ rest.clear x later
          ];
          longest = rest.longest;
        }
      ]
  front P t i ((x ∷ tags) ∷ labels) (f ∷ ts) long clear =
      elim (one_or_none t f.said i (x ∷ tags)) [
        | inl none ↦
            let rest = front P t (suc i) labels ts (omega arith) (λ k tags at. moved_by P i k (tags ≡ []) (clear (suc k) tags at)) in
            passed_over P t i (x ∷ tags) labels f ts none rest
        | inr one ↦ record {
          out = [];
          held = (one.0, i) ∷ said_from K t (suc i) ts;
          split = ap (λ xs. xs ++ said_from K t (suc i) ts) one.1;
          texts = ap (λ xs. released (xs ++ said_with K t labels ts)) one.2;
          clear = λ y there. absurd (no_member y there);
          longest = λ y more is p.
              let same : i ≡ y.1 = ap (λ ys. place_of i ys) is in
              some_tag x tags ((clear 0 (x ∷ tags) refl).1 (subst P (sym same ∙ omega arith) p));
        }
      ]

  -- a text and its label
  text_by : {A B : Type 0} (t : ℕ) (s : Option W) (a : A) (b : B) → map (λ x. x.0) (said_by K t s a) ≡ map (λ x. x.0) (said_by K t s b)
  text_by t None a b = refl
  text_by t (Some w) a b = elim (K.goes_to w == t) as (λ c. map (λ x. x.0) (cond c (one w a) []) ≡ map (λ x. x.0) (cond c (one w b) [])) [ true ↦ refl | false ↦ refl ]

  same_texts : (t i : ℕ) (labels : List (List ℕ)) (ts : List (MarkedEffect E V W)) → length labels ≡ length ts → map (λ x. x.0) (said_with K t labels ts) ≡ map (λ x. x.0) (said_from K t i ts)
  same_texts t i [] [] long = refl
  same_texts t i [] (f ∷ ts) long = absurd (omega arith)
  same_texts t i (tags ∷ labels) [] long = absurd (omega arith)
  same_texts t i (tags ∷ labels) (f ∷ ts) long =
      map_append (λ (x : W × List ℕ). x.0) (said_by K t f.said tags) (said_with K t labels ts)
      ∙ (λ j. text_by t f.said tags i j ++ same_texts t (suc i) labels ts (omega arith) j)
      ∙ sym (map_append (λ (x : W × ℕ). x.0) (said_by K t f.said i) (said_from K t (suc i) ts))

module _ {E V W F N : Type 0} (K : System E V W F N) (total : IsTotalOrder K.order) (exact : IsAntisymmetric K.order) (start : FinMap K.order V) where
  -- the tags along the effects are the tags of its positions
  tag_in : (gs : List ℕ) (ts : List (MarkedEffect E V W)) (i : ℕ) (tags : List ℕ) → slice_get (tags_along K.order gs (λ g. []) ts) i ≡ Some tags
      → (g : ℕ) → (has g tags ≡ true) ↔ ((has g gs ≡ true) × Dep ts g i)
  tag_in gs ts i tags at g =
      let flag : has g gs ≡ true → slice_get (hits K.order g [] ts) i ≡ Some (has g tags) =
      λ is_open. ap (λ flags. slice_get flags i) (sym (carries_is K.order gs g is_open (λ h. []) ts)) ∙ got_map (has g) (tags_along K.order gs (λ h. []) ts) i tags at in (
        λ here.
            let is_open = along_within K.order gs (λ h. []) ts i tags g at here in
            (is_open, (flags_are_Dep total g exact ts i).0 (flag is_open ∙ ap Some here)),
        λ d.
            let is : slice_get (hits K.order g [] ts) i ≡ Some true = (flags_are_Dep total g exact ts i).1 d.1 in
            let same : Some (has g tags) ≡ Some true = sym (flag d.0) ∙ is in
            some_same (has g tags) same,
      )

  pub tag_at : (es : List (Event N)) → IsSound K start es → (i : ℕ) (tags : List ℕ)
      → slice_get (tags_along K.order (all_recorded K start no_record es).undecided (λ g. []) (effects_of K start es)) i ≡ Some tags
      → (g : ℕ) → (has g tags ≡ true) ↔ IsTagAt K start es i g
  tag_at es sound i tags at g =
      let is = tag_in (all_recorded K start no_record es).undecided (effects_of K start es) i tags at g in (
        λ here. let d = is.0 here in ((undecided_is K start es sound g).0 d.0, d.1),
        λ d. is.1 ((undecided_is K start es sound g).1 d.0, d.1),
      )

  clear_at : (es : List (Event N)) → IsSound K start es → (i : ℕ) (tags : List ℕ)
      → slice_get (tags_along K.order (all_recorded K start no_record es).undecided (λ g. []) (effects_of K start es)) i ≡ Some tags
      → (tags ≡ []) ↔ IsClear K start es i
  clear_at es sound i tags at = (
    λ none g d. true≢false (sym ((tag_at es sound i tags at g).1 d) ∙ ap (has g) none),
    λ clear. no_tags tags (λ g here. clear g ((tag_at es sound i tags at g).0 here)),
  )

  along_trace : (es : List (Event N)) (texts : ℕ → List (Tagged W)) → TextsRepresent K start (all_recorded K start no_record es) texts → (t : ℕ)
      → texts t ≡ said_with K t (tags_along K.order (all_recorded K start no_record es).undecided (λ g. []) (effects_of K start es)) (effects_of K start es)
  along_trace es texts are t =
      are t ∙ ap (λ ns. said_with K t (tags_along K.order (all_recorded K start no_record es).undecided (λ g. []) (effects K start ns)) (effects K start ns)) (entries_are K start es)

  pub release_is : (es : List (Event N)) → IsSound K start es → (texts : ℕ → List (Tagged W)) → TextsRepresent K start (all_recorded K start no_record es) texts → (t : ℕ) → IsReleased K start es t (released (texts t))
  release_is es sound texts are t =
      let labels = tags_along K.order (all_recorded K start no_record es).undecided (λ g. []) (effects_of K start es) in
      let is = front K (IsClear K start es) t 0 labels (effects_of K start es) (along_length K.order _ (λ g. []) (effects_of K start es))
      (λ k tags at. subst (λ n. (tags ≡ []) ↔ IsClear K start es n) (omega arith) (clear_at es sound k tags at)) in
      record { out = is.out; held = is.held; split = is.split; texts = ap released (along_trace es texts are t) ∙ is.texts; clear = is.clear; longest = is.longest }

  pub texts_are : (es : List (Event N)) (texts : ℕ → List (Tagged W)) → TextsRepresent K start (all_recorded K start no_record es) texts → (t : ℕ) → map (λ x. x.0) (texts t) ≡ map (λ x. x.0) (said K start es t)
  texts_are es texts are t =
      ap (map (λ x. x.0)) (along_trace es texts are t)
      ∙ same_texts K t 0 _ (effects_of K start es) (along_length K.order (all_recorded K start no_record es).undecided (λ g. []) (effects_of K start es))
