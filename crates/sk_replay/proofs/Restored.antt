-- Entries that are set in the order of their keys.
use Rattle.sk_replay.proofs.Names.{◌≡◌, ℕ, true, List, [], ◌∷◌, ◌++◌, map, refl, sym, ap, ◌∙◌, append_assoc, append-nil}
use Rattle.sk_replay.proofs.Names.{is_lt, ordering_reverse, is_sorted, below_all, by_order, Ordering, Less, Greater}
use Rattle.sk_replay.proofs.Names.{bytes_cmp, written_at, Some, Entries, bytes_total, after_works, set_of, SnapshotsRestore}
use Rattle.sk_replay.proofs.Names.{and_parts}

less : (o : Ordering) → is_lt o ≡ true → o ≡ Less
less Less h = refl
less s h = cc

below_at : (key : List ℕ) (base : Entries) (e : List ℕ × List ℕ) (es : Entries) → below_all bytes_cmp key (base ++ e ∷ es) ≡ true → bytes_cmp key e.0 ≡ Less
below_at key [] e es h = less (bytes_cmp key e.0) (and_parts (is_lt (bytes_cmp key e.0)) (below_all bytes_cmp key es) h).0
below_at key (b ∷ base) e es h = below_at key base e es (and_parts (is_lt (bytes_cmp key b.0)) (below_all bytes_cmp key (base ++ e ∷ es)) h).1

greater : (a b : List ℕ) → bytes_cmp a b ≡ Less → bytes_cmp b a ≡ Greater
greater a b h = bytes_total.antisymm b a ∙ ap ordering_reverse h

-- a key above all others comes last
goes_last : (base : Entries) (e : List ℕ × List ℕ) (es : Entries) → is_sorted bytes_cmp (base ++ e ∷ es) ≡ true → written_at e.0 (Some e.1) base ≡ base ++ e ∷ []
goes_last [] e es h = refl
goes_last (b ∷ base) e es h =
    let below = (and_parts (below_all bytes_cmp b.0 (base ++ e ∷ es)) (is_sorted bytes_cmp (base ++ e ∷ es)) h).0 in
    let sorted = (and_parts (below_all bytes_cmp b.0 (base ++ e ∷ es)) (is_sorted bytes_cmp (base ++ e ∷ es)) h).1 in
    ap (λ o. by_order o ((e.0, e.1) ∷ b ∷ base) ((b.0, e.1) ∷ base) (b ∷ written_at e.0 (Some e.1) base)) (greater b.0 e.0 (below_at b.0 base e es below))
    ∙ ap (λ l. b ∷ l) (goes_last base e es sorted)

restored_on : (es base : Entries) → is_sorted bytes_cmp (base ++ es) ≡ true → after_works (map set_of es) base ≡ base ++ es
restored_on [] base h = sym (append-nil base)
restored_on (e ∷ es) base h =
    let next = append_assoc base (e ∷ []) es in
    ap (after_works (map set_of es)) (goes_last base e es h)
    ∙ restored_on es (base ++ e ∷ []) (ap (is_sorted bytes_cmp) next ∙ h) ∙ next

pub restored : SnapshotsRestore
restored entries h = restored_on entries [] h
