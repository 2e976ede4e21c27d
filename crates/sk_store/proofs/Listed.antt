-- What is listed of a store are its entries.
use Rattle.std.proofs.Common.{◌≡◌, List, [], ◌∷◌, Some, refl, sym, ap, subst, ◌∙◌}
use Rattle.std.specs.Prelude.{map as each}
use Rattle.std.specs.FinMap as fin
use Rattle.std.specs.List.{All, AllByRecursion}
use Rattle.std.proofs.lemmas.List.Elements.{All-from_recursion}
use Rattle.sk_ids.specs.declared.entity.Entity.{Entity}
use Rattle.sk_map.specs.FoundLemma.{each_found}
use Rattle.sk_store.proofs.Names.{entity_total}
use Rattle.sk_store.specs.State.{State}
use Rattle.sk_store.specs.Present.{IsPresent, entities_of, Shown, shown, shown_alone}
use Rattle.sk_store.specs.declared.entity_state.EntityState.{EntityState}
use Rattle.sk_store.specs.declared.present.Present.{Present}

entities_are : (ps : List Present) → entities_of ps ≡ each (λ s. s.0) (each shown ps)
entities_are [] = refl
entities_are (p ∷ ps) = ap (λ (l : List Entity). p.entity ∷ l) (entities_are ps)

keys_are : (es : List (Entity × EntityState)) → each (λ s. s.0) (each shown_alone es) ≡ each (λ e. e.0) es
keys_are [] = refl
keys_are (e ∷ es) = ap (λ (l : List Entity). e.0 ∷ l) (keys_are es)

abbrev IsSeen : State → Shown → Type 0
IsSeen s t = (fin.get s t.0 ≡ Some t.1.0) × ([] ≡ t.1.1)

all_seen : (s : State) (es : List (Entity × EntityState)) → AllByRecursion (λ e. fin.get s e.0 ≡ Some e.1) es → AllByRecursion (IsSeen s) (each shown_alone es)
all_seen s [] h = tt
all_seen s (e ∷ es) h = ((h.0, refl), all_seen s es h.1)

each_seen : (s : State) (ps : List Present) → AllByRecursion (IsSeen s) (each shown ps) → AllByRecursion (IsPresent (fin.get s) (λ e. [])) ps
each_seen s [] h = tt
each_seen s (p ∷ ps) h = (h.0, each_seen s ps h.1)

module _ (s : State) (ps : List Present) (is : each shown ps ≡ each shown_alone (fin.entries s)) where
  pub keys_listed : entities_of ps ≡ fin.keys s
  keys_listed = entities_are ps ∙ ap (each (λ t. t.0)) is ∙ keys_are (fin.entries s)

  pub each_listed : All (IsPresent (fin.get s) (λ e. [])) ps
  each_listed = All-from_recursion (IsPresent (fin.get s) (λ e. [])) ps (each_seen s ps (subst (λ (l : List Shown). AllByRecursion (IsSeen s) l) (sym is) (all_seen s (fin.entries s) (each_found entity_total s))))
