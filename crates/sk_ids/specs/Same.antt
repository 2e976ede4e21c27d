-- Tests of two values that are true exactly where the values are equal.
use Rattle.std.specs.Prelude.{◌≡◌, Bool, ◌&&◌}
use Rattle.std.specs.Bool.{Decides}
use Rattle.std.specs.declared.cmp.Ordering.{Ordering}
use Rattle.std.specs.Cmp.Lexicographic.{pointwise, pointwise_decides}
use Rattle.std.specs.FinMap.{FinMap, entries, same_entries_map}
use Rattle.std.proofs.Common.{ap}
use Rattle.std.proofs.lemmas.Bool.Decides.{Decides-and, Decides-like}

-- a test of two values is true exactly where they are equal
abbrev pub IsExact : {A : Type 0} → (A → A → Bool) → Type 0
IsExact {A} E = (x y : A) → Decides (E x y) (x ≡ y)

-- two pairs are equal where their parts are
abbrev pub same_pair : {A B : Type 0} → (A → A → Bool) → (B → B → Bool) → A × B → A × B → Bool
same_pair E F p q = E p.0 q.0 && F p.1 q.1

-- two finite maps are equal where their entries are
abbrev pub same_map : {K X : Type 0} {R : K → K → Ordering} → (K → K → Bool) → (X → X → Bool) → FinMap R X → FinMap R X → Bool
same_map E F m n = pointwise (same_pair E F) (entries m) (entries n)

pub exact_pair : {A B : Type 0} {E : A → A → Bool} {F : B → B → Bool} → IsExact E → IsExact F → IsExact (same_pair E F)
exact_pair {E = E} {F = F} e f p q =
    Decides-like (E p.0 q.0 && F p.1 q.1) (λ h i. (h.0 i, h.1 i)) (λ h. (ap (λ x. x.0) h, ap (λ x. x.1) h)) (Decides-and (E p.0 q.0) (F p.1 q.1) (e p.0 q.0) (f p.1 q.1))

pub exact_map : {K X : Type 0} {R : K → K → Ordering} {E : K → K → Bool} {F : X → X → Bool} → IsExact E → IsExact F → IsExact (same_map {R = R} E F)
exact_map {E = E} {F = F} e f m n =
    Decides-like (pointwise (same_pair E F) (entries m) (entries n)) (same_entries_map m n) (λ h. ap entries h) (pointwise_decides (exact_pair e f) (entries m) (entries n))
