-- The entries that places have, where one is held, set or let go.
use Rattle.sk_plain_store.proofs.Names.{same_Some, ◌≡◌, ℕ, ◌+◌, ◌<◌, Bool, true, false, cond, List, [], ◌∷◌, ◌++◌}
use Rattle.sk_plain_store.proofs.Names.{length, get_or, take, Option, Some, None, is_some, refl, sym, ap, subst, ◌∙◌}
use Rattle.sk_plain_store.proofs.Names.{◌&&◌, Vec, is_eq, is_lt, match_ordering, Ordering, Less, Equal, Greater}
use Rattle.sk_plain_store.proofs.Names.{AllByRecursion, IsStrictlySortedBy, remove_entry, set_value, insert_entry}
use Rattle.sk_plain_store.proofs.Names.{is_at, is_sorted, below_all, sorted_head, sorted_tail, bytes_cmp, held, keys_of}
use Rattle.sk_plain_store.proofs.Names.{written_at, written_to, Entries, take_more, told, Written}
use Rattle.sk_plain_store.proofs.Names.{entries_of, has_place, place_of, with_entry, HavePlaces, KeepsPlaces, Places}
use Rattle.std.specs.Prelude.{not}
use Rattle.std.specs.Map as pairs
use Rattle.sk_plain_store.proofs.Kept.{bytes_total, tied_is}

abbrev pub key_cmp : Vec ℕ → Vec ℕ → Ordering
key_cmp a b = bytes_cmp a.items b.items

abbrev pub AreInOrder : Places → Type 0
AreInOrder places = IsStrictlySortedBy key_cmp (pairs.keys_of places)

-- all places are those of keys behind this one
abbrev pub AreBehind : List ℕ → Places → Type 0
AreBehind key [] = Unit {0}
AreBehind key (p ∷ places) = (bytes_cmp key p.0.items ≡ Less) × AreBehind key places

behind_first : (k : Vec ℕ) (places : Places) → AllByRecursion (λ q. key_cmp k q ≡ Less) (pairs.keys_of places) → AreBehind k.items places
behind_first k [] h = tt
behind_first k (p ∷ places) h = (h.0, behind_first k places h.1)

behind_lower : (a b : List ℕ) (places : Places) → bytes_cmp a b ≡ Less → AreBehind b places → AreBehind a places
behind_lower a b [] less h = tt
behind_lower a b (p ∷ places) less h = (bytes_total.trans a b p.0.items less h.0, behind_lower a b places less h.1)

no_place : (key : List ℕ) (places : Places) → AreBehind key places → place_of places key ≡ None
no_place key [] h = refl
no_place key (p ∷ places) h = ap (λ o. cond (is_eq o) (Some p.1) (place_of places key)) h.0 ∙ no_place key places h.1

-- ---- entries behind a key

below_head : (o : Ordering) (b : Bool) → (is_lt o && b) ≡ true → (o ≡ Less) × (b ≡ true)
below_head Less b h = (refl, h)
below_head s b h = cc

none_below : (key : List ℕ) (es : Entries) → below_all bytes_cmp key es ≡ true → held es key ≡ None
none_below key [] h = refl
none_below key (e ∷ es) h =
    let both = below_head (bytes_cmp key e.0) (below_all bytes_cmp key es) h in
    ap (λ o. cond (is_eq o) (Some e.1) (held es key)) both.0 ∙ none_below key es both.1

untouched : (key : List ℕ) (es : Entries) → below_all bytes_cmp key es ≡ true → written_at key None es ≡ es
untouched key [] h = refl
untouched key (e ∷ es) h =
    let both = below_head (bytes_cmp key e.0) (below_all bytes_cmp key es) h in
    ap (λ o. cond (not (is_eq o)) (e ∷ written_at key None es) (written_at key None es)) both.0 ∙ ap (λ x. e ∷ x) (untouched key es both.1)

put_first : (key value : List ℕ) (es : Entries) → below_all bytes_cmp key es ≡ true → written_at key (Some value) es ≡ (key, value) ∷ es
put_first key value [] h = refl
put_first key value (e ∷ es) h = rw ((below_head (bytes_cmp key e.0) (below_all bytes_cmp key es) h).0)

below_entry : (key k : List ℕ) (has : Option (List ℕ)) (es : Entries) → bytes_cmp key k ≡ Less → below_all bytes_cmp key es ≡ true → below_all bytes_cmp key (with_entry k has es) ≡ true
below_entry key k None es less h = h
below_entry key k (Some value) es less h = ap (λ o. is_lt o && below_all bytes_cmp key es) less ∙ h

below : (key : List ℕ) (places : Places) → AreBehind key places → below_all bytes_cmp key (entries_of places) ≡ true
below key [] h = refl
below key (p ∷ places) h = below_entry key p.0.items p.1 (entries_of places) h.0 (below key places h.1)

head_below : (p : Vec ℕ × Option (List ℕ)) (places : Places) → AreInOrder (p ∷ places) → below_all bytes_cmp p.0.items (entries_of places) ≡ true
head_below p places h = below p.0.items places (behind_first p.0 places (sorted_head key_cmp p.0 (pairs.keys_of places) h))

rest_in_order : (p : Vec ℕ × Option (List ℕ)) (places : Places) → AreInOrder (p ∷ places) → AreInOrder places
rest_in_order p places h = sorted_tail key_cmp p.0 (pairs.keys_of places) h

ordered_entry : (k : List ℕ) (has : Option (List ℕ)) (es : Entries) → below_all bytes_cmp k es ≡ true → is_sorted bytes_cmp es ≡ true → is_sorted bytes_cmp (with_entry k has es) ≡ true
ordered_entry k None es b h = h
ordered_entry k (Some value) es b h = ap (λ x. x && is_sorted bytes_cmp es) b ∙ h

pub in_order : (places : Places) → AreInOrder places → is_sorted bytes_cmp (entries_of places) ≡ true
in_order [] h = refl
in_order (p ∷ places) h = ordered_entry p.0.items p.1 (entries_of places) (head_below p places h) (in_order places (rest_in_order p places h))

-- ---- what a key has

abbrev pub joined : Option (Option (List ℕ)) → Option (List ℕ)
joined None = None
joined (Some has) = has

found : (b : Bool) (value : List ℕ) (rest : Option (List ℕ)) (place : Option (Option (List ℕ))) → rest ≡ joined place → cond b (Some value) rest ≡ joined (cond b (Some (Some value)) place)
found true value rest place h = refl
found false value rest place h = h

found_at : (key : List ℕ) (k : Vec ℕ) (has : Option (List ℕ)) (places : Places) (o : Ordering) → bytes_cmp key k.items ≡ o → below_all bytes_cmp k.items (entries_of places) ≡ true
    → held (entries_of places) key ≡ joined (place_of places key) → held (with_entry k.items has (entries_of places)) key ≡ joined (cond (is_eq (bytes_cmp key k.items)) (Some has) (place_of places key))
found_at key k (Some value) places o e b h = found (is_eq (bytes_cmp key k.items)) value (held (entries_of places) key) (place_of places key) h
found_at key k None places Less e b h = h ∙ ap (λ o. joined (cond (is_eq o) (Some None) (place_of places key))) (sym e)
found_at key k None places Greater e b h = h ∙ ap (λ o. joined (cond (is_eq o) (Some None) (place_of places key))) (sym e)
found_at key k None places Equal e b h =
    none_below key (entries_of places) (subst (λ x. below_all bytes_cmp x (entries_of places) ≡ true) (sym (tied_is key k.items e)) b)
    ∙ ap (λ o. joined (cond (is_eq o) (Some None) (place_of places key))) (sym e)

pub finds : (places : Places) (key : List ℕ) → AreInOrder places → held (entries_of places) key ≡ joined (place_of places key)
finds [] key h = refl
finds (p ∷ places) key h = found_at key p.0 p.1 places (bytes_cmp key p.0.items) refl (head_below p places h) (finds places key (rest_in_order p places h))

-- ---- places that stay

some_or : (b : Bool) (v : Option (List ℕ)) (x : Option (Option (List ℕ))) → is_some x ≡ true → is_some (cond b (Some v) x) ≡ true
some_or true v x h = refl
some_or false v x h = h

some_other : (b : Bool) (v w : Option (List ℕ)) (x : Option (Option (List ℕ))) → is_some (cond b (Some v) x) ≡ true → is_some (cond b (Some w) x) ≡ true
some_other true v w x h = refl
some_other false v w x h = h

some_rest : (b : Bool) (v : Option (List ℕ)) (x y : Option (Option (List ℕ))) → (is_some x ≡ true → is_some y ≡ true) → is_some (cond b (Some v) x) ≡ true → is_some (cond b (Some v) y) ≡ true
some_rest true v x y f h = refl
some_rest false v x y f h = f h

pub keeps_held : (k : Vec ℕ) (has : Option (List ℕ)) (places : Places) (key : List ℕ) → has_place places key ≡ true → has_place (insert_entry key_cmp places k has) key ≡ true
keeps_held k has [] key h = cc
keeps_held k has (p ∷ places) key h =
    let more = insert_entry key_cmp places k has in
    elim (key_cmp k p.0) as (λ o. has_place (match_ordering o ((k, has) ∷ p ∷ places) ((p.0, has) ∷ places) (p ∷ more)) key ≡ true) [
      | Less ↦ some_or (is_eq (bytes_cmp key k.items)) has (place_of (p ∷ places) key) h
      | Equal ↦ some_other (is_eq (bytes_cmp key p.0.items)) p.1 has (place_of places key) h
      | Greater ↦ some_rest (is_eq (bytes_cmp key p.0.items)) p.1 (place_of places key) (place_of more key) (keeps_held k has places key) h
    ]

pub keeps_set : (q : List ℕ) (has : Option (List ℕ)) (places : Places) (key : List ℕ) → has_place places key ≡ true → has_place (set_value (is_at (λ k. bytes_cmp q k.items)) places has) key ≡ true
keeps_set q has [] key h = cc
keeps_set q has (p ∷ places) key h =
    let more = set_value (is_at (λ k. bytes_cmp q k.items)) places has in
    elim (is_at (λ k. bytes_cmp q k.items) p.0) as (λ b. has_place (cond b ((p.0, has) ∷ places) (p ∷ more)) key ≡ true) [
      | true ↦ some_other (is_eq (bytes_cmp key p.0.items)) p.1 has (place_of places key) h
      | false ↦ some_rest (is_eq (bytes_cmp key p.0.items)) p.1 (place_of places key) (place_of more key) (keeps_set q has places key) h
    ]

-- ---- a place is held

pub holds_place : (k : Vec ℕ) (places : Places) → place_of places k.items ≡ None → entries_of (insert_entry key_cmp places k None) ≡ entries_of places
holds_place k [] none = refl
holds_place k (p ∷ places) none =
    let more = insert_entry key_cmp places k None in
    elim (bytes_cmp k.items p.0.items) as (λ o. cond (is_eq o) (Some p.1) (place_of places k.items) ≡ None → entries_of (match_ordering o ((k, None) ∷ p ∷ places) ((p.0, None) ∷ places) (p ∷ more)) ≡ entries_of (p ∷ places)) [
      | Less ↦ λ none. refl
      | Equal ↦ λ none. cc
      | Greater ↦ λ none. ap (with_entry p.0.items p.1) (holds_place k places none)
    ] none

-- ---- a place is set

replaced : (key k : List ℕ) (has value : Option (List ℕ)) (es : Entries) → bytes_cmp key k ≡ Equal → below_all bytes_cmp k es ≡ true → with_entry k value es ≡ written_at key value (with_entry k has es)
replaced key k None None es e b = sym (untouched key es (subst (λ x. below_all bytes_cmp x es ≡ true) (sym (tied_is key k e)) b))
replaced key k None (Some v) es e b =
    ap (λ x. (x, v) ∷ es) (sym (tied_is key k e)) ∙ sym (put_first key v es (subst (λ x. below_all bytes_cmp x es ≡ true) (sym (tied_is key k e)) b))
replaced key k (Some y) None es e b =
    sym (ap (λ o. cond (not (is_eq o)) ((k, y) ∷ written_at key None es) (written_at key None es)) e ∙ untouched key es (subst (λ x. below_all bytes_cmp x es ≡ true) (sym (tied_is key k e)) b))
replaced key k (Some y) (Some v) es e b = rw e

passed : (key k : List ℕ) (has value : Option (List ℕ)) (es : Entries) → bytes_cmp key k ≡ Greater → with_entry k has (written_at key value es) ≡ written_at key value (with_entry k has es)
passed key k None value es e = refl
passed key k (Some y) None es e = rw e
passed key k (Some y) (Some v) es e = rw e

pub sets_place : (key : List ℕ) (value : Option (List ℕ)) (places : Places) → AreInOrder places → has_place places key ≡ true
    → entries_of (set_value (is_at (λ k. bytes_cmp key k.items)) places value) ≡ written_at key value (entries_of places)
sets_place key value [] h there = cc
sets_place key value (p ∷ places) h there =
    let more = set_value (is_at (λ k. bytes_cmp key k.items)) places value in
    elim (bytes_cmp key p.0.items) as (λ o. bytes_cmp key p.0.items ≡ o → is_some (cond (is_eq o) (Some p.1) (place_of places key)) ≡ true
    → entries_of (cond (is_eq o) ((p.0, value) ∷ places) (p ∷ more)) ≡ written_at key value (entries_of (p ∷ places))) [
      | Less ↦ λ e there.
          let behind = behind_lower key p.0.items places e (behind_first p.0 places (sorted_head key_cmp p.0 (pairs.keys_of places) h)) in
          let none = no_place key places behind in
          cc
      | Equal ↦ λ e there. replaced key p.0.items p.1 value (entries_of places) e (head_below p places h)
      | Greater ↦ λ e there.
          ap (with_entry p.0.items p.1) (sets_place key value places (rest_in_order p places h) there)
          ∙ passed key p.0.items p.1 value (entries_of places) e
    ] refl there

-- ---- one write in one go

all_behind : (key : List ℕ) (p : Vec ℕ × Option (List ℕ)) (places : Places) → AreInOrder (p ∷ places) → bytes_cmp key p.0.items ≡ Less → AreBehind key (p ∷ places)
all_behind key p places h e = (e, behind_lower key p.0.items places e (behind_first p.0 places (sorted_head key_cmp p.0 (pairs.keys_of places) h)))

pub puts_in : (k : Vec ℕ) (value : List ℕ) (places : Places) → AreInOrder places → entries_of (insert_entry key_cmp places k (Some value)) ≡ written_at k.items (Some value) (entries_of places)
puts_in k value [] h = refl
puts_in k value (p ∷ places) h =
    let more = insert_entry key_cmp places k (Some value) in
    elim (bytes_cmp k.items p.0.items) as (λ o. bytes_cmp k.items p.0.items ≡ o
    → entries_of (match_ordering o ((k, Some value) ∷ p ∷ places) ((p.0, Some value) ∷ places) (p ∷ more)) ≡ written_at k.items (Some value) (entries_of (p ∷ places))) [
      | Less ↦ λ e. sym (put_first k.items value (entries_of (p ∷ places)) (below k.items (p ∷ places) (all_behind k.items p places h e)))
      | Equal ↦ λ e. replaced k.items p.0.items p.1 (Some value) (entries_of places) e (head_below p places h)
      | Greater ↦ λ e.
          ap (with_entry p.0.items p.1) (puts_in k value places (rest_in_order p places h))
          ∙ passed k.items p.0.items p.1 (Some value) (entries_of places) e
    ] refl

pub takes_out : (key : List ℕ) (places : Places) → AreInOrder places → entries_of (remove_entry (is_at (λ k. bytes_cmp key k.items)) places) ≡ written_at key None (entries_of places)
takes_out key [] h = refl
takes_out key (p ∷ places) h =
    let more = remove_entry (is_at (λ k. bytes_cmp key k.items)) places in
    elim (bytes_cmp key p.0.items) as (λ o. bytes_cmp key p.0.items ≡ o → entries_of (cond (is_eq o) places (p ∷ more)) ≡ written_at key None (entries_of (p ∷ places))) [
      | Less ↦ λ e.
          let behind = all_behind key p places h e in
          ap (with_entry p.0.items p.1) (takes_out key places (rest_in_order p places h) ∙ untouched key (entries_of places) (below key places behind.1))
          ∙ sym (untouched key (entries_of (p ∷ places)) (below key (p ∷ places) behind))
      | Equal ↦ λ e. replaced key p.0.items p.1 None (entries_of places) e (head_below p places h)
      | Greater ↦ λ e.
          ap (with_entry p.0.items p.1) (takes_out key places (rest_in_order p places h))
          ∙ passed key p.0.items p.1 None (entries_of places) e
    ] refl

-- ---- a place is let go

pub lets_go : (key : List ℕ) (places : Places) → place_of places key ≡ Some None → entries_of (remove_entry (is_at (λ k. bytes_cmp key k.items)) places) ≡ entries_of places
lets_go key [] held = refl
lets_go key (p ∷ places) held =
    let more = remove_entry (is_at (λ k. bytes_cmp key k.items)) places in
    elim (is_eq (bytes_cmp key p.0.items)) as (λ b. cond b (Some p.1) (place_of places key) ≡ Some None → entries_of (cond b places (p ∷ more)) ≡ entries_of (p ∷ places)) [
      | true ↦ λ e. ap (λ has. with_entry p.0.items has (entries_of places)) (sym (same_Some p.1 None e))
      | false ↦ λ e. ap (with_entry p.0.items p.1) (lets_go key places e)
    ] held

-- ---- what is left open

pub not_some : (x : Option (Option (List ℕ))) → is_some x ≡ false → x ≡ None
not_some None e = refl
not_some (Some has) e = cc

-- places of some first writes, and of one more
pub have_more : (ws : Written) (w : List ℕ × Option (List ℕ)) (old new : Places) → HavePlaces ws old → KeepsPlaces old new → has_place new w.0 ≡ true → HavePlaces (ws ++ w ∷ []) new
have_more [] w old new h keeps here = (here, tt)
have_more (v ∷ ws) w old new h keeps here = (keeps v.0 h.0, have_more ws w old new h.1 keeps here)

pub have_still : (ws : Written) (old new : Places) → HavePlaces ws old → KeepsPlaces old new → HavePlaces ws new
have_still [] old new h keeps = tt
have_still (w ∷ ws) old new h keeps = (keeps w.0 h.0, have_still ws old new h.1 keeps)

-- ---- one write after another

pub one_written : (ws left : List (Vec ℕ × Option (List ℕ))) (w : Vec ℕ × Option (List ℕ)) (key : List ℕ) (old new : Places) (end : Entries) → ws ≡ w ∷ left → key ≡ w.0.items
    → entries_of new ≡ written_at key w.1 (entries_of old) → written_to (told ws) (entries_of old) ≡ end → written_to (told left) (entries_of new) ≡ end
one_written ws left w key old new end is same e h =
    ap (written_to (told left)) (e ∙ ap (λ k. written_at k w.1 (entries_of old)) same)
    ∙ ap (λ ws. written_to (told ws) (entries_of old)) (sym is) ∙ h

pub rest_have : (ws left : List (Vec ℕ × Option (List ℕ))) (w : Vec ℕ × Option (List ℕ)) (old new : Places) → ws ≡ w ∷ left → HavePlaces (told ws) old → KeepsPlaces old new → HavePlaces (told left) new
rest_have ws left w old new is h keeps = have_still (told left) old new ((subst (λ ws. HavePlaces (told ws) old) is h).1) keeps

told_more : (ws : List (Vec ℕ × Option (List ℕ))) (w : Vec ℕ × Option (List ℕ)) → told (ws ++ w ∷ []) ≡ told ws ++ (w.0.items, w.1) ∷ []
told_more [] w = refl
told_more (v ∷ ws) w = ap (λ x. (v.0.items, v.1) ∷ x) (told_more ws w)

-- the next write has a place too
pub next_have : (ws : List (Vec ℕ × Option (List ℕ))) (i : ℕ) (w : Vec ℕ × Option (List ℕ)) (key : List ℕ) (old new : Places) → i < length ws → get_or ws i w ≡ w → key ≡ w.0.items
    → HavePlaces (told (take i ws)) old → KeepsPlaces old new → has_place new key ≡ true → HavePlaces (told (take (i + 1) ws)) new
next_have ws i w key old new small is same h keeps here =
    subst (λ x. HavePlaces x new) (sym (ap told (take_more ws i w small ∙ ap (λ x. take i ws ++ x ∷ []) is) ∙ told_more (take i ws) w))
    (have_more (told (take i ws)) (w.0.items, w.1) old new h keeps (subst (λ k. has_place new k ≡ true) same here))

-- ---- the entries, one after another
