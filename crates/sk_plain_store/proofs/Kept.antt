-- What keys have behind what is written, and that the keys stay in order.
use Rattle.sk_plain_store.proofs.Names.{◌≡◌, ℕ, Bool, true, false, not, cond, T, List, [], ◌∷◌, Option, Some, None}
use Rattle.sk_plain_store.proofs.Names.{is_some, bytes_eq, refl, sym, ap, subst, ◌∙◌, eq_by_cmp, is_eq, IsTotalOrder}
use Rattle.sk_plain_store.proofs.Names.{tied_itself, nat_list_cmp_total, nat_cmp-IsAntisymmetric}
use Rattle.sk_plain_store.proofs.Names.{slice_cmp-IsAntisymmetric, find-put, find-where_key, is_some-find}
use Rattle.sk_plain_store.proofs.Names.{is_sorted-put, is_sorted-where_key, Ordering, Equal, list_any}
use Rattle.sk_plain_store.proofs.Names.{same_from_decides, bytes_eq-Decides, is_among, Written, after, with_value}
use Rattle.sk_plain_store.proofs.Names.{bytes_cmp, held, keys_of, written_at, written_to, Entries}
use Rattle.std.specs.FinMap.Entries.{is_sorted}

pub bytes_total : IsTotalOrder bytes_cmp
bytes_total = nat_list_cmp_total

equal : (r : Ordering) → is_eq r ≡ true → r ≡ Equal
equal Equal e = refl
equal s e = cc

pub tied_is : (a b : List ℕ) → bytes_cmp a b ≡ Equal → a ≡ b
tied_is a b e = slice_cmp-IsAntisymmetric nat_cmp-IsAntisymmetric a b e

-- keys tie just where they are the same
ties : (a b : List ℕ) → a ≡ b → eq_by_cmp bytes_cmp a b ≡ true
ties a b e = ap is_eq (subst (λ x. bytes_cmp a x ≡ Equal) e (tied_itself bytes_total a))

pub bytes_same : (a b : List ℕ) → eq_by_cmp bytes_cmp a b ≡ bytes_eq a b
bytes_same a b = same_from_decides _ _ (λ e. tied_is a b (equal _ e), ties a b) (bytes_eq-Decides a b)

bytes_turned : (a b : List ℕ) → eq_by_cmp bytes_cmp a b ≡ bytes_eq b a
bytes_turned a b = same_from_decides _ _ (λ e. sym (tied_is a b (equal _ e)), λ e. ties a b (sym e)) (bytes_eq-Decides b a)

turned : {A : Type 0} (b : Bool) (x y : A) → cond (not b) x y ≡ cond b y x
turned true x y = refl
turned false x y = refl

written_here : (key : List ℕ) (value : Option (List ℕ)) (entries : Entries) (q : List ℕ) → held (written_at key value entries) q ≡ with_value key value (held entries) q
written_here key (Some value) entries q =
    find-put bytes_cmp bytes_total q key value entries ∙ ap (λ b. cond b (Some value) (held entries q)) (bytes_same q key)
written_here key None entries q =
    find-where_key bytes_cmp (λ k. not (eq_by_cmp bytes_cmp key k)) q (λ x t. ap (λ k. not (eq_by_cmp bytes_cmp key k)) (sym (tied_is q x t))) entries
    ∙ turned (eq_by_cmp bytes_cmp key q) (held entries q) None
    ∙ ap (λ b. cond b None (held entries q)) (bytes_turned key q)

same_held : (key : List ℕ) (value : Option (List ℕ)) (entries : Entries) → held (written_at key value entries) ≡ with_value key value (held entries)
same_held key value entries i q = written_here key value entries q i

pub holds_written : (ws : Written) (entries : Entries) (key : List ℕ) → held (written_to ws entries) key ≡ after ws (held entries) key
holds_written [] entries key = refl
holds_written (w ∷ ws) entries key =
    holds_written ws (written_at w.0 w.1 entries) key ∙ ap (λ has. after ws has key) (same_held w.0 w.1 entries)

test_same : (key : List ℕ) → bytes_eq key ≡ eq_by_cmp bytes_cmp key
test_same key i x = sym (bytes_same key x) i

pub knows : (entries : Entries) (key : List ℕ) → is_among key (keys_of entries) ≡ is_some (held entries key)
knows entries key = ap (λ test. list_any test (keys_of entries)) (test_same key) ∙ sym (is_some-find bytes_cmp key entries)

to_T : (b : Bool) → b ≡ true → T b
to_T true e = tt
to_T false e = cc

from_T : (b : Bool) → T b → b ≡ true
from_T true h = refl
from_T false h = absurd h

ordered_at : (key : List ℕ) (value : Option (List ℕ)) (entries : Entries) → is_sorted bytes_cmp entries ≡ true → is_sorted bytes_cmp (written_at key value entries) ≡ true
ordered_at key (Some value) entries h = from_T _ (is_sorted-put bytes_cmp bytes_total key value entries (to_T _ h))
ordered_at key None entries h = from_T _ (is_sorted-where_key bytes_cmp (λ k. not (eq_by_cmp bytes_cmp key k)) entries (to_T _ h))

pub stays_in_order : (ws : Written) (entries : Entries) → is_sorted bytes_cmp entries ≡ true → is_sorted bytes_cmp (written_to ws entries) ≡ true
stays_in_order [] entries h = h
stays_in_order (w ∷ ws) entries h = stays_in_order ws (written_at w.0 w.1 entries) (ordered_at w.0 w.1 entries h)
