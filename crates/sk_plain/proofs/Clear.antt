-- No text of the plain kernel depends on a guess, so all are released: from how a text is said.
use Rattle.sk_plain.proofs.Cites.{◌≡◌, ℕ, Bool, true, false, cond, List, [], ◌∷◌, ◌++◌, map, Option, Some, None, refl}
use Rattle.sk_plain.proofs.Cites.{sym, subst, ap, ◌==◌, unwrap_or, AllByRecursion, nat_cmp, append-nil, released}
use Rattle.sk_plain.proofs.Cites.{TaggedText, TerminalMap, texts_at, texts_said, Saying, AllClear, with_said}
use Rattle.std.specs.FinMap as maps

abbrev Clear : List TaggedText → Type 0
Clear xs = AllByRecursion (λ x. x.1 ≡ []) xs

pub all_released : (xs : List TaggedText) → Clear xs → released xs ≡ map (λ x. x.0) xs
all_released [] h = refl
all_released ((text, []) ∷ xs) h = ap (λ (ts : List (List ℕ)). text ∷ ts) (all_released xs h.1)
all_released ((text, g ∷ gs) ∷ xs) h = absurd cc

one_more : (xs : List TaggedText) (text : List ℕ) → Clear xs → Clear (xs ++ (text, []) ∷ [])
one_more [] text h = (refl, tt)
one_more (x ∷ xs) text h = (h.0, one_more xs text h.1)

pub none_said : AllClear maps.empty
none_said t = subst (λ o. Clear (unwrap_or o [])) (sym (maps.get-empty nat_cmp t)) tt

pub said_clear : (m : TerminalMap) (said : Option Saying) → AllClear m → AllClear (with_said m said)
said_clear m None h = h
said_clear m (Some s) h = λ t.
    subst Clear (sym (texts_said m s.to (s.text, []) t)) (elim (s.to == t) as (λ (b : Bool). Clear (texts_at m t ++ cond b ((s.text, []) ∷ []) [])) [
      | true ↦ one_more (texts_at m t) s.text (h t)
      | false ↦ subst Clear (sym (append-nil (texts_at m t))) (h t)
    ])
