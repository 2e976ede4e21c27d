-- Behind an entity and what it has stands the end of its line.
use Rattle.sk_report.proofs.Names.{◌≡◌, ℕ, List, [], ◌∷◌, ◌++◌, drop, sym, ap₂, ◌∙◌, Option, Some, None}
use Rattle.sk_report.proofs.Names.{IfSome, append_assoc, entity_text, Present}
use Rattle.sk_report.specs.Listed.{held_said, line_said}

-- what was put in a line before its end, if there is a place where it starts, is the line of one of those that are listed
pub put_before : {K : Type 0} (end : List ℕ → List ℕ) (p : Present) (start : Option ℕ) (line text rest : List ℕ)
    → (K → (all : List Present) → text ≡ held_said all p.entity p.state.now) → rest ≡ end p.tags.now ++ 10 ∷ []
    → IfSome start (λ s. K) → IfSome start (λ s. drop s line ≡ entity_text p.entity ++ 32 ∷ text ++ rest)
    → IfSome start (λ s. (all : List Present) → drop s line ≡ line_said end all p)
put_before end p None line text rest same is known put = put
put_before end p (Some s) line text rest same is known put =
    λ all. put
    ∙ ap₂ (λ (t r : List ℕ). entity_text p.entity ++ 32 ∷ t ++ r) (same known all) is
    ∙ sym (append_assoc (entity_text p.entity ++ 32 ∷ held_said all p.entity p.state.now) (end p.tags.now) (10 ∷ []))

pub known_alone : (start : Option ℕ) → IfSome start (λ s. Unit {0})
known_alone None = tt
known_alone (Some s) = tt
