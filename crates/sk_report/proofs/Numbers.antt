-- A number that is among others already is not added again.
use Rattle.sk_report.proofs.Names.{◌≡◌, ℕ, List, [], ◌∷◌, refl, ap, sym, Less, Equal, Greater}
use Rattle.std.specs.BTreeSet.{insert_key}
use Rattle.std.specs.Ordering.{nat_cmp}
use Rattle.std.specs.Cmp.{nat_cmp_is}

same : (k : ℕ) → nat_cmp k k ≡ Equal
same k = sym (nat_cmp_is k k Equal refl)

pub again : (ks : List ℕ) (k : ℕ) → insert_key nat_cmp (insert_key nat_cmp ks k) k ≡ insert_key nat_cmp ks k
again [] k = rw (same k) refl
again (x ∷ xs) k =
    elim (nat_cmp k x) as (λ r. nat_cmp k x ≡ r → insert_key nat_cmp (insert_key nat_cmp (x ∷ xs) k) k ≡ insert_key nat_cmp (x ∷ xs) k) [
      | Less ↦ λ e. rw (e, same k) refl
      | Equal ↦ λ e. rw (e, e) refl
      | Greater ↦ λ e. rw (e, e) (ap (λ (ys : List ℕ). x ∷ ys) (again xs k))
    ] refl
