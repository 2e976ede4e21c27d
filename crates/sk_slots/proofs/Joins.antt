-- Notes that have the tags of the note before them are left out, one after another.
use Rattle.std.proofs.lemmas.Bool.Decides.{nat_tests}
use Rattle.sk_slots.proofs.Names.{◌≡◌, ℕ, zero, suc, ◌<◌, length, take, true, false, cond, inr, List, [], ◌∷◌, Option}
use Rattle.sk_slots.proofs.Names.{refl, sym, ◌∙◌, ap, subst, arith, slice_index_or, exact_bytes, Note, without, noted}
use Rattle.sk_slots.proofs.Names.{last_tags, committed, Merges, merged, same_tags, past}
use Rattle.std.specs.List.{remove}

abbrev pub HasTags : List ℕ → Type 0
HasTags [] = ⊥
HasTags (t ∷ tags) = Unit {0}

pub without_twice : (g : ℕ) (tags : List ℕ) → without g (without g tags) ≡ without g tags
without_twice g [] = refl
without_twice g (t ∷ tags) = grind (arith, nat_tests, without_twice g tags)

module _ {V : Type 0} where
  -- no note has the tags of the one before it
  abbrev pub IsJoined : List ℕ → List (Note V) → Type 0
  IsJoined t [] = Unit {0}
  IsJoined t (n ∷ ns) = (same_tags n.tags t ≡ false) × IsJoined n.tags ns

  pub joined_same : (t : List ℕ) (ns : List (Note V)) → IsJoined t ns → merged t ns ≡ ns
  joined_same t [] all = refl
  joined_same t (n ∷ ns) all = ap (λ b. cond b (merged t ns) (n ∷ merged n.tags ns)) all.0 ∙ ap (λ ms. n ∷ ms) (joined_same n.tags ns all.1)

  pub merged_joined : (t : List ℕ) (ns : List (Note V)) → IsJoined t (merged t ns)
  merged_joined t [] = tt
  merged_joined t (n ∷ ns) = grind (arith, nat_tests, merged_joined t ns, merged_joined n.tags ns)

  -- what is left out has the tags of the note before it
  pub merges : (t : List ℕ) (ns : List (Note V)) → Merges t ns (merged t ns)
  merges t [] = tt
  merges t (n ∷ ns) =
      elim (same_tags n.tags t) as (λ b. same_tags n.tags t ≡ b → Merges t (n ∷ ns) (cond b (merged t ns) (n ∷ merged n.tags ns))) [
        | true ↦ λ same. past t n ns (merged t ns) ((exact_bytes n.tags t).0 same) (merges t ns)
        | false ↦ λ _. inr (refl, merges n.tags ns)
      ] refl

  -- ---- one place after another
  none_taken : (ns : List (Note V)) → take zero ns ≡ []
  none_taken [] = refl
  none_taken (n ∷ ns) = refl

  pub front_left : (i : ℕ) (ns : List (Note V)) → take i (remove ns i) ≡ take i ns
  front_left zero [] = refl
  front_left zero (n ∷ ns) = none_taken ns
  front_left (suc i) [] = refl
  front_left (suc i) (n ∷ ns) = ap (λ ms. n ∷ ms) (front_left i ns)

  pub left_out : (t : List ℕ) (i : ℕ) (ns : List (Note V)) (n : Note V) → i < length ns → n ≡ slice_index_or ns i n → same_tags n.tags (last_tags t (take i ns)) ≡ true
      → merged t (remove ns i) ≡ merged t ns
  left_out t i [] n lt at same = absurd (omega arith)
  left_out t zero (x ∷ ns) n lt at same = ap (λ b. cond b (merged t ns) (x ∷ merged x.tags ns)) (sym same ∙ ap (λ (m : Note V). same_tags m.tags t) at)
  left_out t (suc i) (x ∷ ns) n lt at same =
      let rest = left_out x.tags i ns n (omega arith) at same in
      elim (same_tags x.tags t) as (λ b. same_tags x.tags t ≡ b → cond b (merged t (remove ns i)) (x ∷ merged x.tags (remove ns i)) ≡ cond b (merged t ns) (x ∷ merged x.tags ns)) [
        | true ↦ λ is. let alike = (exact_bytes x.tags t).0 is in subst (λ u. merged u (remove ns i) ≡ merged u ns) alike rest
        | false ↦ λ _. ap (λ ms. x ∷ ms) rest
      ] refl

  pub joined_more : (t : List ℕ) (i : ℕ) (ns : List (Note V)) (n : Note V) → i < length ns → n ≡ slice_index_or ns i n → same_tags n.tags (last_tags t (take i ns)) ≡ false
      → IsJoined t (take i ns) → IsJoined t (take (suc i) ns)
  joined_more t i [] n lt at apart all = absurd (omega arith)
  joined_more t zero (x ∷ ns) n lt at apart all = (ap (λ (m : Note V). same_tags m.tags t) (sym at) ∙ apart, tt)
  joined_more t (suc i) (x ∷ ns) n lt at apart all = (all.0, joined_more x.tags i ns n (omega arith) at apart all.1)

  -- ---- a commit done twice
  -- each note depends on something, and not on the guess
  abbrev pub AllFree : ℕ → List (Note V) → Type 0
  AllFree g [] = Unit {0}
  AllFree g (n ∷ ns) = (without g n.tags ≡ n.tags) × HasTags n.tags × AllFree g ns

  free_noted : (g : ℕ) (left : List ℕ) (v : Option V) (rest : List (Note V)) → without g left ≡ left → AllFree g rest → AllFree g (noted true left v rest)
  free_noted g [] v rest same all = all
  free_noted g (t ∷ left) v rest same all = (same, tt, all)

  committed_free : (g : ℕ) (ns : List (Note V)) → AllFree g (committed g ns)
  committed_free g [] = tt
  committed_free g (n ∷ ns) = free_noted g (without g n.tags) n.before (committed g ns) (without_twice g n.tags) (committed_free g ns)

  free_kept : (g : ℕ) (t : List ℕ) (ns : List (Note V)) → AllFree g ns → AllFree g (merged t ns)
  free_kept g t [] all = tt
  free_kept g t (n ∷ ns) all = grind (arith, nat_tests, free_kept g t ns all.2, free_kept g n.tags ns all.2)

  noted_some : (tags : List ℕ) (v : Option V) (rest : List (Note V)) → HasTags tags → noted true tags v rest ≡ record { tags = tags; before = v } ∷ rest
  noted_some [] v rest some = absurd some
  noted_some (t ∷ tags) v rest some = refl

  pub free_same : (g : ℕ) (ns : List (Note V)) → AllFree g ns → committed g ns ≡ ns
  free_same g [] all = refl
  free_same g (n ∷ ns) all = (λ i. noted true (all.0 i) n.before (free_same g ns all.2 i)) ∙ noted_some n.tags n.before ns all.1

  pub lightened_twice : (g : ℕ) (ns : List (Note V)) → merged [] (committed g (merged [] (committed g ns))) ≡ merged [] (committed g ns)
  lightened_twice g ns =
      ap (merged []) (free_same g (merged [] (committed g ns)) (free_kept g [] (committed g ns) (committed_free g ns)))
      ∙ joined_same [] (merged [] (committed g ns)) (merged_joined [] (committed g ns))
