-- Where the newest note puts back what was there whatever stands there now, the log is the same over any value.
use Rattle.sk_undo.proofs.Cites.{◌≡◌, ℕ, ◌≤◌, length, true, cond, ◌&&◌, List, [], ◌∷◌, Option, Some, None, refl, sym}
use Rattle.sk_undo.proofs.Cites.{◌∙◌, ap, subst, arith, reverse, nat_le, first_so, eqb-true, leb-true, exact_bytes}
use Rattle.sk_undo.proofs.Cites.{Note, last_tags, and_both, same_tags, EntityState, PutBack, Was, Changed, RawNote}
use Rattle.sk_undo.proofs.Cites.{seen, CanGoBack, restores, goes_unnoted_raw, NoteFits, state_undone}
use Rattle.sk_undo.proofs.Cites.{undone, Fits, is_held_whole, is_whole, goes_on, goes_unnoted, noted_on, is_stable}
use Rattle.sk_undo.proofs.Cites.{is_stable_raw}
use Rattle.sk_undo.proofs.Joins.{same_undone, fits_any}
use Rattle.sk_undo.proofs.SeenNotes.{newest_of}

pub whole_is : (undo : PutBack EntityState) (now : Option EntityState) → Fits undo now → restores is_held_whole undo ≡ is_whole (undone undo now)
whole_is (Was v) now fits = refl
whole_is (Changed undo) None fits = absurd fits
whole_is (Changed undo) (Some s) fits = sym fits.1

pub unnoted_seen : (tags : List ℕ) (now : Option EntityState) (rs : List (RawNote (PutBack EntityState))) → CanGoBack Fits undone now rs → goes_unnoted_raw is_held_whole tags rs ≡ goes_unnoted tags (seen undone now rs)
unnoted_seen tags now [] can = refl
unnoted_seen tags now (r ∷ rs) can = ap (λ b. b && same_tags tags r.tags) (whole_is r.undo now can.0)

pub stable_is : (now : Option EntityState) (rs : List (RawNote (PutBack EntityState))) → CanGoBack Fits undone now rs → is_stable (seen undone now rs) ≡ is_stable_raw rs
stable_is now [] can = refl
stable_is now (r ∷ rs) can = sym (whole_is r.undo now can.0)

pub unnoted_stable : (tags : List ℕ) (rs : List (RawNote (PutBack EntityState))) → goes_unnoted_raw is_held_whole tags rs ≡ true → is_stable_raw rs ≡ true
unnoted_stable tags [] h = refl
unnoted_stable tags (r ∷ rs) h = first_so (restores is_held_whole r.undo) (same_tags tags r.tags) h

pub stable_seen : (a b : Option EntityState) (rs : List (RawNote (PutBack EntityState))) → is_stable_raw rs ≡ true → seen undone a rs ≡ seen undone b rs
stable_seen a b [] h = refl
stable_seen a b (r ∷ rs) h =
    let same = same_undone is_held_whole state_undone NoteFits r.undo a b h in
    λ i. record { tags = r.tags; before = same i } ∷ seen undone (same i) rs

pub stable_can : (a b : Option EntityState) (rs : List (RawNote (PutBack EntityState))) → is_stable_raw rs ≡ true → CanGoBack Fits undone a rs → CanGoBack Fits undone b rs
stable_can a b [] h can = tt
stable_can a b (r ∷ rs) h can =
    (fits_any is_held_whole state_undone NoteFits r.undo b h, subst (λ v. CanGoBack Fits undone v rs) (same_undone is_held_whole state_undone NoteFits r.undo a b h) can.1)

-- ---- a write with the tags of the newest note

-- it is not noted
on_unnoted : (least : ℕ) (log : List (Note EntityState)) → goes_on least log ≡ true → goes_unnoted (last_tags [] (reverse log)) log ≡ true
on_unnoted least [] h = refl
on_unnoted least (n ∷ ns) h =
    let whole = (and_both (nat_le least (length n.tags)) (is_whole n.before) h).1 in
    let same = (exact_bytes n.tags n.tags).1 refl in
    subst (λ tags. goes_unnoted tags (n ∷ ns) ≡ true) (sym (newest_of n ns)) (λ i. whole i && same i)

-- and there are so many
pub on_many : (least : ℕ) (log : List (Note EntityState)) → goes_on least log ≡ true → least ≤ length (last_tags [] (reverse log))
on_many least [] h = let none = eqb-true least 0 h in omega arith
on_many least (n ∷ ns) h = subst (λ tags. least ≤ length tags) (sym (newest_of n ns)) (leb-true least (length n.tags) (and_both (nat_le least (length n.tags)) (is_whole n.before) h).0)

pub on_wrote : (least : ℕ) (a b : Option EntityState) (rs : List (RawNote (PutBack EntityState))) → is_stable_raw rs ≡ true → goes_on least (seen undone a rs) ≡ true
    → seen undone b rs ≡ noted_on (last_tags [] (reverse (seen undone a rs))) a (seen undone a rs)
on_wrote least a b rs stable h =
    let log = seen undone a rs in
    stable_seen b a rs stable ∙ ap (λ t. cond t log (record { tags = last_tags [] (reverse log); before = a } ∷ log)) (sym (on_unnoted least log h))
