-- Notes that are there grow as those that are seen.
use Rattle.sk_undo.proofs.Cites.{◌≡◌, ℕ, true, false, cond, ◌&&◌, List, [], ◌∷◌, ◌++◌, Option, refl, ◌∙◌, sym, ap}
use Rattle.sk_undo.proofs.Cites.{subst, reverse, list_all, reverse_onto, has, carried, IsGrowing, and_both, RawNote}
use Rattle.sk_undo.proofs.Cites.{log_of, newest_tags, from_first, Grows, Covers}
use Rattle.sk_undo.proofs.Commits.{in_order, order_is}
use Rattle.sk_undo.proofs.SeenNotes.{all_more}

module _ {U V : Type 0} (undone : U → Option V → Option V) where
  same_all : (g : ℕ) (now : Option V) (ns : List (RawNote U)) → list_all (λ n. has g n.tags) (in_order undone now ns) ≡ list_all (λ n. has g n.tags) ns
  same_all g now [] = refl
  same_all g now (n ∷ ns) = ap (λ b. has g n.tags && b) (same_all g now ns)

  same_from : (g : ℕ) (now : Option V) (ns : List (RawNote U)) → list_all (λ n. has g n.tags) (carried g (in_order undone now ns)) ≡ list_all (λ n. has g n.tags) (from_first g ns)
  same_from g now [] = refl
  same_from g now (n ∷ ns) =
      let whole = same_all g now (n ∷ ns) in
      let rest = same_from g now ns in
      elim (has g n.tags) as (λ b. list_all (λ n. has g n.tags) (cond b (in_order undone now (n ∷ ns)) (carried g (in_order undone now ns))) ≡ list_all (λ n. has g n.tags) (cond b (n ∷ ns) (from_first g ns))) [
        | true ↦ whole
        | false ↦ rest
      ]

  pub grows_seen : (now : Option V) (ns : List (RawNote U)) → Grows ns → IsGrowing (log_of undone now ns)
  grows_seen now ns grows = subst IsGrowing (sym (order_is undone now ns)) (λ g. same_from g now ns ∙ grows g)

  pub grows_there : (now : Option V) (ns : List (RawNote U)) → IsGrowing (log_of undone now ns) → Grows ns
  grows_there now ns grows g = sym (same_from g now ns) ∙ subst IsGrowing (order_is undone now ns) grows g

-- ---- one more note
module _ {U : Type 0} where
  abbrev pub AllRest : ℕ → List (RawNote U) → Type 0
  AllRest g ns = list_all (λ n. has g n.tags) ns ≡ true

  -- the tags of the last note, or these
  abbrev pub last_on : List ℕ → List (RawNote U) → List ℕ
  last_on tags [] = tags
  last_on tags (n ∷ ns) = last_on n.tags ns

  abbrev pub newest_or : List ℕ → List (RawNote U) → List ℕ
  newest_or tags [] = tags
  newest_or tags (n ∷ ns) = n.tags

  newest_onto : (tags : List ℕ) (rs : List (RawNote U)) (x : RawNote U) → newest_or tags (rs ++ x ∷ []) ≡ newest_or x.tags rs
  newest_onto tags [] x = refl
  newest_onto tags (r ∷ rs) x = refl

  pub newest_last : (tags : List ℕ) (ns : List (RawNote U)) → newest_or tags (reverse ns) ≡ last_on tags ns
  newest_last tags [] = refl
  newest_last tags (x ∷ ns) = ap (newest_or tags) (reverse_onto ns x []) ∙ newest_onto tags (reverse ns) x ∙ newest_last x.tags ns

  pub newest_is : (rs : List (RawNote U)) → newest_tags rs ≡ newest_or [] rs
  newest_is [] = refl
  newest_is (r ∷ rs) = refl

  pub last_rests : (g : ℕ) (tags : List ℕ) (ns : List (RawNote U)) → AllRest g ns → has g tags ≡ true → has g (last_on tags ns) ≡ true
  last_rests g tags [] all here = here
  last_rests g tags (n ∷ ns) all here = let both = and_both _ _ all in last_rests g n.tags ns both.1 both.0

  more_at : (g : ℕ) (tags : List ℕ) (ns : List (RawNote U)) (n : RawNote U) → AllRest g (from_first g ns) → (has g (last_on tags ns) ≡ true → has g n.tags ≡ true) → AllRest g (from_first g (ns ++ n ∷ []))
  more_at g tags [] n all covered =
      elim (has g n.tags) as (λ b. has g n.tags ≡ b → AllRest g (cond b (n ∷ []) [])) [
        | true ↦ λ here. ap (λ b. b && true) here
        | false ↦ λ _. refl
      ] refl
  more_at g tags (x ∷ ns) n all covered =
      elim (has g x.tags) as (λ b. has g x.tags ≡ b → AllRest g (cond b (x ∷ ns) (from_first g ns)) → AllRest g (cond b (x ∷ ns ++ n ∷ []) (from_first g (ns ++ n ∷ [])))) [
        | true ↦ λ here all. all_more (λ (n : RawNote U). has g n.tags) (x ∷ ns) (n ∷ []) all (ap (λ b. b && true) (covered (last_rests g x.tags ns (and_both _ _ all).1 here)))
        | false ↦ λ _ all. more_at g x.tags ns n all covered
      ] refl all

  pub grows_more : (ns : List (RawNote U)) (n : RawNote U) → Grows ns → Covers n.tags (newest_tags (reverse ns)) → Grows (ns ++ n ∷ [])
  grows_more ns n grows covers g = more_at g [] ns n (grows g) (λ here. covers g (ap (has g) (newest_is (reverse ns) ∙ newest_last [] ns) ∙ here))
