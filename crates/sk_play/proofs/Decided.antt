-- The guesses that are held after a decision.
use Rattle.sk_play.proofs.Names.{◌≡◌, ℕ, true, false, ◌==◌, List, [], ◌∷◌, refl, sym, ap, ◌∙◌, Option, Some, None, has}
use Rattle.sk_play.proofs.Names.{Event, Outcome, HolderView, DecidesPost, but}
use Rattle.sk_kernel.specs.declared.kernel.Outcome.TheVariants as outcomes

-- a guess that is not held: none is taken out
none_but : (id : ℕ) (held : List ℕ) → has id held ≡ false → but id held ≡ held
none_but id [] h = refl
none_but id (g ∷ gs) h =
    elim (g == id) as (λ b. (g == id) ≡ b → but id (g ∷ gs) ≡ g ∷ gs) [
      | true ↦ λ e. let bad : true ≡ false = rw e at h in absurd cc
      | false ↦ λ e. rw e (ap (λ hs. g ∷ hs) (none_but id gs (rw e at h)))
    ] refl

pub decides_held : (o : Option Outcome) (e : Event) (id : ℕ) (old new : HolderView) → DecidesPost o e id old new → new.held ≡ but id old.held
decides_held None e id old new h = ap (λ (x : HolderView). x.held) h.1 ∙ sym (none_but id old.held h.0)
decides_held (Some outcomes.Done) e id old new h = ap (λ (x : HolderView). x.held) h.3
decides_held (Some outcomes.Gone) e id old new h = ap (λ (x : HolderView). x.held) h.3
