-- A failure leaves the entries that stand before its guess's own, and strikes of those behind what a run from there strikes.
use Rattle.sk_plain.proofs.Cites.{◌≡◌, ℕ, suc, Bool, true, false, List, [], ◌∷◌, ◌++◌, length, refl, ◌∙◌, ap, subst}
use Rattle.sk_plain.proofs.Cites.{sym, arith, list_any, or_parts, or_from, true≢false, MarkedEffect, is_in, is_marked}
use Rattle.sk_plain.proofs.Cites.{hit, hits, dirt, dirtied, keep, touches, run, effects, outcome, after, strike}
use Rattle.sk_plain.proofs.Cites.{still_marked, trail_append, unmarked_hits, marked_is, Entity, entity_cmp, State}
use Rattle.sk_plain.proofs.Cites.{EntityState, EntryView, Scripts, Saying, plain}

abbrev Left : Type 0
Left = MarkedEffect Entity EntityState Saying

none_hit : {A : Type 0} (flags : List Bool) (more : List Bool) (xs ys : List A) → length flags ≡ length xs → list_any (λ b. b) flags ≡ false → keep (flags ++ more) (xs ++ ys) ≡ xs ++ keep more ys
none_hit [] more [] ys long none = refl
none_hit [] more (x ∷ xs) ys long none = absurd (omega arith)
none_hit (b ∷ flags) more [] ys long none = absurd (omega arith)
none_hit (true ∷ flags) more (x ∷ xs) ys long none = absurd (true≢false none)
none_hit (false ∷ flags) more (x ∷ xs) ys long none = ap (λ rest. x ∷ rest) (none_hit flags more xs ys (omega arith) none)

hits_both : (g : ℕ) (dirty : List Entity) (fs hs : List Left) → hits entity_cmp g dirty (fs ++ hs) ≡ hits entity_cmp g dirty fs ++ hits entity_cmp g (dirt entity_cmp g dirty fs) hs
hits_both g dirty [] hs = refl
hits_both g dirty (f ∷ fs) hs = ap (λ bs. hit entity_cmp g dirty f ∷ bs) (hits_both g (dirtied (hit entity_cmp g dirty f) f dirty) fs hs)

hits_long : (g : ℕ) (dirty : List Entity) (fs : List Left) → length (hits entity_cmp g dirty fs) ≡ length fs
hits_long g dirty [] = refl
hits_long g dirty (f ∷ fs) = ap suc (hits_long g (dirtied (hit entity_cmp g dirty f) f dirty) fs)

any_no : (es : List Entity) → list_any (is_in entity_cmp []) es ≡ false
any_no [] = refl
any_no (e ∷ es) = any_no es

no_dirt : (g : ℕ) (fs : List Left) → still_marked fs g ≡ false → dirt entity_cmp g [] fs ≡ []
no_dirt g [] none = refl
no_dirt g (f ∷ fs) none =
    let parts = or_parts _ _ none in
    let no_hit : hit entity_cmp g [] f ≡ false = or_from _ _ parts.0 (any_no (touches f)) in
    subst (λ (b : Bool). dirt entity_cmp g (dirtied b f []) fs ≡ []) (sym no_hit) (no_dirt g fs parts.1)

module _ (scripts : Scripts) where
  effects_long : (s : State) (ns : List EntryView) → length (effects (plain scripts) s ns) ≡ length ns
  effects_long s [] = refl
  effects_long s (n ∷ ns) = ap suc (effects_long (after (plain scripts) (outcome (plain scripts) s n) s) ns)

  pub strike_behind : (s : State) (ns ms : List EntryView) (g : ℕ) → list_any (λ n. is_marked n.guess g) ns ≡ false
      → strike (plain scripts) s (ns ++ ms) g ≡ ns ++ strike (plain scripts) (run (plain scripts) s ns) ms g
  strike_behind s ns ms g none =
      let fs = effects (plain scripts) s ns in
      let hs = effects (plain scripts) (run (plain scripts) s ns) ms in
      let unmarked : still_marked fs g ≡ false = marked_is (plain scripts) s s ns g ∙ none in
      ap (λ ts. keep (hits entity_cmp g [] ts) (ns ++ ms)) (trail_append (plain scripts) s ns ms)
      ∙ ap (λ bs. keep bs (ns ++ ms)) (hits_both g [] fs hs)
      ∙ none_hit (hits entity_cmp g [] fs) (hits entity_cmp g (dirt entity_cmp g [] fs) hs) ns ms (hits_long g [] fs ∙ effects_long s ns) (unmarked_hits entity_cmp g fs unmarked)
      ∙ ap (λ d. ns ++ keep (hits entity_cmp g d hs) ms) (no_dirt g fs unmarked)
