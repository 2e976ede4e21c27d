-- Going back over one more undo: it comes first, by induction on the undos before it.
use Rattle.sk_changes.proofs.Names.{List, [], ◌∷◌, ◌++◌, refl, sym, ap, subst, back, CanGoBack}
use Rattle.std.specs.Prelude.{◌≡◌}

module _ {V U : Type 0} (undone : V → U → V) where
  -- one more at the end is undone first
  pub back_push : (v : V) (us : List U) (u : U) → back undone v (us ++ u ∷ []) ≡ back undone (undone v u) us
  back_push v [] u = refl
  back_push v (w ∷ us) u = ap (λ x. undone x w) (back_push v us u)

  module _ (can : V → U → Type 0) where
    pub CanGoBack-push : (v : V) (us : List U) (u : U) → can v u → CanGoBack undone can (undone v u) us → CanGoBack undone can v (us ++ u ∷ [])
    CanGoBack-push v [] u h k = (tt, h)
    CanGoBack-push v (w ∷ us) u h k = (CanGoBack-push v us u h k.0, subst (λ x. can x w) (sym (back_push v us u)) k.1)

    pub CanGoBack-last : (v : V) (us : List U) (u : U) → CanGoBack undone can v (us ++ u ∷ []) → can v u × CanGoBack undone can (undone v u) us
    CanGoBack-last v [] u h = (h.1, tt)
    CanGoBack-last v (w ∷ us) u h =
        let later = CanGoBack-last v us u h.0 in
        (later.0, (later.1, subst (λ x. can x w) (back_push v us u) h.1))
