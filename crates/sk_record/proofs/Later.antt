-- What a later failure strikes, where some positions are struck already.
use Rattle.sk_record.proofs.Names.{◌≡◌, ℕ, Bool, false, ◌||◌, List, ◌∷◌, ◌++◌, sym, ◌∙◌, ap, list_any, Ordering}
use Rattle.sk_record.proofs.Names.{eq_by_cmp, or_parts, list_any-append, MarkedEffect, is_in, is_marked, hit, hits}
use Rattle.sk_record.proofs.Names.{dirtied, keep, writes, touches}
use Rattle.std.proofs.Common.{true, [], refl}
use Rattle.sk_record.proofs.Sets.{none_of_both}

-- dh and dk have the same entities outside dg
abbrev pub SameOff : {E : Type 0} → (E → E → Ordering) → List E → List E → List E → Type 0
SameOff {E} R dg dh dk = (e : E) → is_in R dg e ≡ false → is_in R dh e ≡ is_in R dk e

module _ {E : Type 0} (R : E → E → Ordering) where
  pub any_same : (dg dh dk : List E) → SameOff R dg dh dk → (es : List E) → list_any (is_in R dg) es ≡ false → list_any (is_in R dh) es ≡ list_any (is_in R dk) es
  any_same dg dh dk same [] none = refl
  any_same dg dh dk same (e ∷ es) none =
      let parts = or_parts _ _ none in
      λ i. same e parts.0 i || any_same dg dh dk same es parts.1 i

  module _ {V W : Type 0} where
    pub dirtied_other : (b : Bool) (f : MarkedEffect E V W) (d : List E) (e : E) → is_in R (writes f) e ≡ false → is_in R (dirtied b f d) e ≡ is_in R d e
    dirtied_other true f d e none = list_any-append (eq_by_cmp R e) (writes f) d ∙ ap (λ b. b || is_in R d e) none
    dirtied_other false f d e none = refl

    pub dirtied_same : (b : Bool) (f : MarkedEffect E V W) (dh dk : List E) (e : E) → is_in R dh e ≡ is_in R dk e → is_in R (dirtied b f dh) e ≡ is_in R (dirtied b f dk) e
    dirtied_same true f dh dk e same =
        list_any-append (eq_by_cmp R e) (writes f) dh ∙ ap (λ b. is_in R (writes f) e || b) same ∙ sym (list_any-append (eq_by_cmp R e) (writes f) dk)
    dirtied_same false f dh dk e same = same

    module _ (g h : ℕ) where
      -- the flags of h among the positions that are left, which the first two lists of dirty entities say
      LaterIs : List E → List E → List E → List (MarkedEffect E V W) → Type 0
      LaterIs dg dh dk ts = hits R h dk (keep (hits R g dg ts) ts) ≡ keep (hits R g dg ts) (hits R h dh ts)

      LaterBy : List E → List E → List E → MarkedEffect E V W → List (MarkedEffect E V W) → Bool → Type 0
      LaterBy dg dh dk f ts b =
          let flags = b ∷ hits R g (dirtied b f dg) ts in
          hits R h dk (keep flags (f ∷ ts)) ≡ keep flags (hits R h dh (f ∷ ts))

      one_more : (dg dh dk : List E) → SameOff R dg dh dk → (f : MarkedEffect E V W) (ts : List (MarkedEffect E V W))
          → ((dg dh dk : List E) → SameOff R dg dh dk → LaterIs dg dh dk ts)
          → (b : Bool) → hit R g dg f ≡ b → LaterBy dg dh dk f ts b
      unfolding LaterIs LaterBy
      one_more dg dh dk same f ts more true hit_is =
          more (writes f ++ dg) (dirtied (hit R h dh f) f dh) dk
          (λ e clean.
          let parts = none_of_both (eq_by_cmp R e) (writes f) dg clean in
          dirtied_other (hit R h dh f) f dh e parts.0 ∙ same e parts.1)
      one_more dg dh dk same f ts more false hit_is =
          let alike : hit R h dk f ≡ hit R h dh f =
          ap (λ b. is_marked f.mark h || b) (sym (any_same dg dh dk same (touches f) (or_parts _ _ hit_is).1)) in
          ap (λ b. b ∷ hits R h (dirtied b f dk) (keep (hits R g dg ts) ts)) alike
          ∙ ap (λ bs. hit R h dh f ∷ bs)
          (more dg (dirtied (hit R h dh f) f dh) (dirtied (hit R h dh f) f dk)
          (λ e clean. dirtied_same (hit R h dh f) f dh dk e (same e clean)))

      pub later_hits : (dg dh dk : List E) → SameOff R dg dh dk → (ts : List (MarkedEffect E V W)) → hits R h dk (keep (hits R g dg ts) ts) ≡ keep (hits R g dg ts) (hits R h dh ts)
      unfolding LaterIs LaterBy
      later_hits dg dh dk same [] = refl
      later_hits dg dh dk same (f ∷ ts) = one_more dg dh dk same f ts (λ dg dh dk same. later_hits dg dh dk same ts) (hit R g dg f) refl
