-- Entries that a new store gets, one after another.
use Rattle.sk_reopened.proofs.Names.{◌≡◌, ◌||◌, ℕ, Bool, true, false, List, [], ◌∷◌, map, drop, take, refl, sym, subst}
use Rattle.sk_reopened.proofs.Names.{drop-take, Entries, after_work, after_works, set_of, Limits, Next, IsNew}
use Rattle.sk_reopened.proofs.Names.{StoreView}

no_more : (a : Bool) → (a || false) ≡ a
no_more false = refl
no_more true = refl

-- A store that was new has some entries, and those that are left make of them what all make of the first.
abbrev pub HasSome : Entries → Entries → StoreView → StoreView → Type 0
HasSome all left a b = (next : Next) (start : Entries) → IsNew a.limits next start a
    → (mid : Entries) × IsNew a.limits next mid b × (after_works (map set_of left) mid ≡ after_works (map set_of all) start)

-- one more
pub one_more : (all left : Entries) (entry : List ℕ × List ℕ) (a b c : StoreView) → HasSome all (entry ∷ left) a b
    → ((next : Next) (start : Entries) → IsNew b.limits next start b → IsNew b.limits next (after_work (set_of entry) start) c)
    → HasSome all left a c
one_more all left entry a b c has sets = λ next start is.
    let h = has next start is in
    let mid = h.0 in
    let same : b.limits ≡ a.limits = h.1.takes in
    let at : IsNew b.limits next mid b = subst (λ (l : Limits). IsNew l next mid b) (sym same) h.1 in
    let on : IsNew a.limits next (after_work (set_of entry) mid) c =
    subst (λ (l : Limits). IsNew l next (after_work (set_of entry) mid) c) same (sets next mid at) in
    (after_work (set_of entry) mid, on, h.2)

pub all_set : (all : Entries) (a b : StoreView) → HasSome all [] a b
    → (next : Next) (start : Entries) → IsNew a.limits next start a → IsNew a.limits next (after_works (map set_of all) start) b
all_set all a b has next start is =
    let h = has next start is in
    subst (λ (es : Entries). IsNew a.limits next es b) h.2 h.1

-- behind the first bytes of a room stands none of them
pub front_has_none : (room : List ℕ) → drop 24 (take 24 room) ≡ []
front_has_none room = drop-take 24 0 room
