-- What depends on a guess hangs on which entities are dirty, and not on how they are listed.
use Rattle.sk_plain.proofs.Cites.{◌≡◌, ℕ, Bool, true, false, ◌||◌, List, [], ◌∷◌, refl, ◌∙◌, ap, list_any, eq_by_cmp}
use Rattle.sk_plain.proofs.Cites.{MarkedEffect, is_in, is_marked, hit, hits, dirtied, keep, touches, effects}
use Rattle.sk_plain.proofs.Cites.{dirtied_same, is_in_tied, Entity, entity_cmp, entity_total, State, EntityState}
use Rattle.sk_plain.proofs.Cites.{EntryView, Scripts, Saying, plain, AreAlike, remaining}

abbrev Left : Type 0
Left = MarkedEffect Entity EntityState Saying

any_alike : (one other : List Entity) → AreAlike one other → (es : List Entity) → list_any (is_in entity_cmp one) es ≡ list_any (is_in entity_cmp other) es
any_alike one other same [] = refl
any_alike one other same (e ∷ es) = λ i. same e i || any_alike one other same es i

hits_alike : (g : ℕ) (one other : List Entity) → AreAlike one other → (fs : List Left) → hits entity_cmp g one fs ≡ hits entity_cmp g other fs
hits_alike g one other same [] = refl
hits_alike g one other same (f ∷ fs) =
    let here : hit entity_cmp g one f ≡ hit entity_cmp g other f = ap (λ b. is_marked f.mark g || b) (any_alike one other same (touches f)) in
    let next : AreAlike (dirtied (hit entity_cmp g one f) f one) (dirtied (hit entity_cmp g other f) f other) =
    λ e. ap (λ b. is_in entity_cmp (dirtied b f one) e) here ∙ dirtied_same entity_cmp (hit entity_cmp g other f) f one other e (same e) in
    λ i. here i ∷ hits_alike g (dirtied (hit entity_cmp g one f) f one) (dirtied (hit entity_cmp g other f) f other) next fs i

pub left_alike : (scripts : Scripts) (g : ℕ) (one other : List Entity) → AreAlike one other → (s : State) (ns : List EntryView) → remaining scripts g one s ns ≡ remaining scripts g other s ns
left_alike scripts g one other same s ns = ap (λ bs. keep bs ns) (hits_alike g one other same (effects (plain scripts) s ns))

-- an entity that is there
there_again : (dirty : List Entity) (x e : Entity) → is_in entity_cmp dirty x ≡ true → (b : Bool) → eq_by_cmp entity_cmp e x ≡ b → is_in entity_cmp dirty e ≡ (b || is_in entity_cmp dirty e)
there_again dirty x e there true tied = is_in_tied entity_total dirty e x tied ∙ there
there_again dirty x e there false apart = refl

pub there_is : (dirty : List Entity) (x : Entity) → is_in entity_cmp dirty x ≡ true → AreAlike dirty (x ∷ dirty)
there_is dirty x there e = there_again dirty x e there (eq_by_cmp entity_cmp e x) refl
