-- Each note of a log depends on something, whatever a step, a commit or a failure makes of it.
use Rattle.sk_bytes.proofs.Names.{◌≡◌, ℕ, true, false, List, [], ◌∷◌, ◌++◌, Option, cond, refl, sym, ap, ◌∙◌, inl, inr}
use Rattle.sk_bytes.proofs.Names.{Bool, Note, has, without, noted, last_tags, cut, committed, Merges, AllRest}

module _ {V : Type 0} where
  noted_rest : (wrote : Bool) (tags : List ℕ) (v : Option V) (rest : List (Note V)) → AllRest rest → AllRest (noted wrote tags v rest)
  noted_rest false tags v rest rests = rests
  noted_rest true [] v rest rests = rests
  noted_rest true (t ∷ tags) v rest rests = (λ is. absurd (cc), rests)

  append_rest : (xs ys : List (Note V)) → AllRest xs → AllRest ys → AllRest (xs ++ ys)
  append_rest [] ys first later = later
  append_rest (n ∷ ns) ys first later = (first.0, append_rest ns ys first.1 later)

  merged_rest : (t : List ℕ) (xs ys : List (Note V)) → Merges t xs ys → AllRest xs → AllRest ys
  merged_rest t [] [] merges rests = tt
  merged_rest t [] (m ∷ ms) merges rests = absurd merges
  merged_rest t (n ∷ ns) [] merges rests = tt
  merged_rest t (n ∷ ns) (m ∷ ms) (inl skips) rests = merged_rest t ns (m ∷ ms) skips.1 rests.1
  merged_rest t (n ∷ ns) (m ∷ ms) (inr keeps) rests = (λ none. rests.0 (ap (λ (k : Note V). k.tags) (sym keeps.0) ∙ none), merged_rest n.tags ns ms keeps.1 rests.1)

  -- after a step
  pub taken_rest : (old new : List (Note V)) (wrote : Bool) (tags : List ℕ) (v : Option V) → AllRest old → Merges [] (old ++ noted wrote tags v []) new → AllRest new
  taken_rest old new wrote tags v rests merges = merged_rest [] (old ++ noted wrote tags v []) new merges (append_rest old (noted wrote tags v []) rests (noted_rest wrote tags v [] tt))

  pub lightened_rest : (g : ℕ) (log : List (Note V)) → AllRest (committed g log)
  lightened_rest g [] = tt
  lightened_rest g (n ∷ ns) = noted_rest true (without g n.tags) n.before (committed g ns) (lightened_rest g ns)

  -- after a commit
  pub committed_rest : (g : ℕ) (old new : List (Note V)) → Merges [] (committed g old) new → AllRest new
  committed_rest g old new merges = merged_rest [] (committed g old) new merges (lightened_rest g old)

  -- after a failure
  pub cut_rest : (g : ℕ) (log : List (Note V)) → AllRest log → AllRest (cut g log)
  cut_rest g [] rests = tt
  cut_rest g (n ∷ ns) rests =
      elim (has g n.tags) as (λ b. AllRest (cond b [] (n ∷ cut g ns))) [
        | true ↦ tt
        | false ↦ (rests.0, cut_rest g ns rests.1)
      ]

  never : (t : List ℕ) (log : List (Note V)) → (t ≡ [] → ⊥) → AllRest log → last_tags t log ≡ [] → ⊥
  never t [] some rests none = some none
  never t (n ∷ ns) some rests none = never n.tags ns rests.0 rests.1 none

  -- a key whose tags are none has no note
  pub clean : (log : List (Note V)) → AllRest log → last_tags [] log ≡ [] → log ≡ []
  clean [] rests none = refl
  clean (n ∷ ns) rests none = absurd (never n.tags ns rests.0 rests.1 none)
