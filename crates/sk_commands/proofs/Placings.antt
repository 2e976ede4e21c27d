-- The place that is kept of a key's last write, as writes come.
use Rattle.sk_commands.proofs.Names.{◌≡◌, ℕ, ◌+◌, ◌<◌, Bool, true, false, not, ◌&&◌, ◌||◌, cond, List, [], ◌∷◌, ◌++◌, length, map, Option, Some, None}
use Rattle.sk_commands.proofs.Names.{is_some, slice_get, bytes_eq, if◌then◌else◌, refl, sym, ap, subst, ◌∙◌, arith, same_Some}
use Rattle.sk_commands.proofs.Names.{Vec, Ordering, Less, Equal, Greater, is_eq, match_ordering, eq_by_cmp, insert_entry, is_at}
use Rattle.sk_commands.proofs.Names.{tied_itself, nat_list_cmp_total, slice_cmp, nat_cmp, slice_cmp-IsAntisymmetric}
use Rattle.sk_commands.proofs.Names.{nat_cmp-IsAntisymmetric, same_from_decides, bytes_eq-Decides, list_any, list_any-append}
use Rattle.sk_commands.proofs.Names.{told, is_among, removals, with_key, with_value, Have, after, append_assoc, length-append, Written, suc, zero}
use Rattle.sk_commands.proofs.Deleted.{told_append, names_of_removals, removals_append}
use Rattle.sk_commands.proofs.Queued.{last_write}
use Rattle.sk_commands.specs.Noted.{had_by, place_in, write_at, AreLast, Kept}

abbrev pub bytes_cmp : List ℕ → List ℕ → Ordering
bytes_cmp = slice_cmp nat_cmp

abbrev pub key_cmp : Vec ℕ → Vec ℕ → Ordering
key_cmp a b = bytes_cmp a.items b.items

pub equal : (r : Ordering) → is_eq r ≡ true → r ≡ Equal
equal Equal e = refl
equal s e = cc

pub tied_is : (a b : List ℕ) → bytes_cmp a b ≡ Equal → a ≡ b
tied_is a b e = slice_cmp-IsAntisymmetric nat_cmp-IsAntisymmetric a b e

ties : (a b : List ℕ) → a ≡ b → is_eq (bytes_cmp a b) ≡ true
ties a b e = ap is_eq (subst (λ x. bytes_cmp a x ≡ Equal) e (tied_itself nat_list_cmp_total a))

pub same_test : (a b : List ℕ) → is_eq (bytes_cmp a b) ≡ bytes_eq a b
same_test a b = same_from_decides _ _ (λ e. tied_is a b (equal _ e), ties a b) (bytes_eq-Decides a b)

-- ---- a place is kept

-- the test of one key against another, where they tie
tie_left : (q a b : List ℕ) → bytes_cmp a b ≡ Equal → is_eq (bytes_cmp q b) ≡ is_eq (bytes_cmp q a)
tie_left q a b e = ap (λ x. is_eq (bytes_cmp q x)) (sym (tied_is a b e))

both_rows : (x y : Bool) (v w : ℕ) (rest : Option ℕ) → (x ≡ true → y ≡ true → ⊥) → cond x (Some w) (cond y (Some v) rest) ≡ cond y (Some v) (cond x (Some w) rest)
both_rows true true v w rest apart = absurd (apart refl refl)
both_rows true false v w rest apart = refl
both_rows false y v w rest apart = refl

over : (b : Bool) (v w : ℕ) (rest : Option ℕ) → cond b (Some v) rest ≡ cond b (Some v) (cond b (Some w) rest)
over true v w rest = refl
over false v w rest = refl

not_both : (q a b : List ℕ) → bytes_cmp a b ≡ Greater → is_eq (bytes_cmp q b) ≡ true → is_eq (bytes_cmp q a) ≡ true → ⊥
not_both q a b greater x y =
    let same : a ≡ b = sym (tied_is q a (equal _ y)) ∙ tied_is q b (equal _ x) in
    let tied : bytes_cmp a b ≡ Equal = subst (λ z. bytes_cmp a z ≡ Equal) same (tied_itself nat_list_cmp_total a) in
    let wrong : Greater ≡ Equal = sym greater ∙ tied in
    cc

kept : (k : Vec ℕ) (v : ℕ) (places : List (Vec ℕ × ℕ)) (q : List ℕ) → place_in (insert_entry key_cmp places k v) q ≡ cond (is_eq (bytes_cmp q k.items)) (Some v) (place_in places q)
kept k v [] q = refl
kept k v (p ∷ places) q =
    let more = insert_entry key_cmp places k v in
    elim (key_cmp k p.0) as (λ o. key_cmp k p.0 ≡ o → place_in (match_ordering o ((k, v) ∷ p ∷ places) ((p.0, v) ∷ places) (p ∷ more)) q ≡ cond (is_eq (bytes_cmp q k.items)) (Some v) (place_in (p ∷ places) q)) [
      | Less ↦ λ e. refl
      | Equal ↦ λ e.
          ap (λ b. cond b (Some v) (place_in places q)) (tie_left q k.items p.0.items e)
          ∙ over (is_eq (bytes_cmp q k.items)) v p.1 (place_in places q)
          ∙ ap (λ b. cond (is_eq (bytes_cmp q k.items)) (Some v) (cond b (Some p.1) (place_in places q))) (sym (tie_left q k.items p.0.items e))
      | Greater ↦ λ e.
          ap (cond (is_eq (bytes_cmp q p.0.items)) (Some p.1)) (kept k v places q)
          ∙ both_rows (is_eq (bytes_cmp q p.0.items)) (is_eq (bytes_cmp q k.items)) v p.1 (place_in places q) (not_both q k.items p.0.items e)
    ] refl

-- by the bytes of a key that is a copy of the one that is written
pub keeps : (k : Vec ℕ) (v : ℕ) (places new : List (Vec ℕ × ℕ)) (key q : List ℕ) → new ≡ insert_entry key_cmp places k v → k.items ≡ key → place_in new q ≡ cond (bytes_eq q key) (Some v) (place_in places q)
keeps k v places new key q is same =
    ap (λ es. place_in es q) is ∙ kept k v places q
    ∙ ap (λ b. cond b (Some v) (place_in places q)) (same_test q k.items ∙ ap (bytes_eq q) same)

-- ---- one write more

pub last_of : (ws : List Kept) (w : Kept) → slice_get (ws ++ w ∷ []) (length ws) ≡ Some w
last_of [] w = refl
last_of (v ∷ ws) w = last_of ws w

earlier : (ws : List Kept) (w : Kept) (i : ℕ) → i < length ws → slice_get (ws ++ w ∷ []) i ≡ slice_get ws i
earlier [] w i h = let wrong : ⊥ = omega arith in absurd wrong
earlier (v ∷ ws) w zero h = refl
earlier (v ∷ ws) w (suc i) h = earlier ws w i (omega arith)

pub earlier_at : (ws : List Kept) (w : Kept) (place : Option ℕ) → ((i : ℕ) → place ≡ Some i → i < length ws) → write_at (ws ++ w ∷ []) place ≡ write_at ws place
earlier_at ws w None h = refl
earlier_at ws w (Some i) h = earlier ws w i (h i refl)

value_on : (ws : List Kept) (w : Kept) (b : Bool) (place : Option ℕ) (rest has : Option (List ℕ)) → ((i : ℕ) → place ≡ Some i → i < length ws) → rest ≡ had_by (write_at ws place) has
    → (if b then w.1 else rest) ≡ had_by (write_at (ws ++ w ∷ []) (cond b (Some (length ws)) place)) has
value_on ws w true place rest has h e = ap (λ x. had_by x has) (sym (last_of ws w))
value_on ws w false place rest has h e = e ∙ ap (λ x. had_by x has) (sym (earlier_at ws w place h))

named_on : (b : Bool) (place : Option ℕ) (n : ℕ) (found : Bool) → is_some place ≡ found → is_some (cond b (Some n) place) ≡ (found || (b || false))
named_on true place n true e = refl
named_on true place n false e = refl
named_on false place n true e = e
named_on false place n false e = e

pub below_on : (b : Bool) (place : Option ℕ) (n i : ℕ) → ((j : ℕ) → place ≡ Some j → j < n) → cond b (Some n) place ≡ Some i → i < n + 1
below_on true place n i h e = let same : n ≡ i = same_Some n i e in omega arith
below_on false place n i h e = let less : i < n = h i e in omega arith

names_more : (ws : List Kept) (w : Kept) → map (λ w. w.0) (told (ws ++ w ∷ [])) ≡ map (λ w. w.0) (told ws) ++ w.0.items ∷ []
names_more [] w = refl
names_more (v ∷ ws) w = ap (λ x. v.0.items ∷ x) (names_more ws w)

pub longer : (ws : List Kept) (w : Kept) → length (ws ++ w ∷ []) ≡ length ws + 1
longer ws w = length-append ws (w ∷ [])

-- the place is kept of one write more, and of each other key the place that it had
pub one_more_last : (place new : List ℕ → Option ℕ) (ws : List Kept) (w : Kept) → ((q : List ℕ) → new q ≡ cond (bytes_eq q w.0.items) (Some (length ws)) (place q)) → AreLast place ws → AreLast new (ws ++ w ∷ [])
one_more_last place new ws w is last = record {
  values = λ key has.
      ap (λ f. f key) (last_write ws w has)
      ∙ value_on ws w (bytes_eq key w.0.items) (place key) (after (told ws) has key) (has key) (last.below key) (last.values key has)
      ∙ ap (λ x. had_by (write_at (ws ++ w ∷ []) x) (has key)) (sym (is key));
  named = λ key.
      ap is_some (is key)
      ∙ named_on (bytes_eq key w.0.items) (place key) (length ws) (is_among key (map (λ w. w.0) (told ws))) (last.named key)
      ∙ sym (ap (list_any (bytes_eq key)) (names_more ws w) ∙ list_any-append (bytes_eq key) (map (λ w. w.0) (told ws)) (w.0.items ∷ []));
  below = λ key i e.
      subst (λ n. i < n) (sym (longer ws w))
      (below_on (bytes_eq key w.0.items) (place key) (length ws) i (last.below key) (sym (is key) ∙ e));
}

-- ---- keys that are made absent

gone_on : (b : Bool) (old new : List Kept) (key : Vec ℕ) (found : List (List ℕ)) → (b ≡ true → new ≡ old ++ (key, None) ∷ []) → (b ≡ false → new ≡ old) → told old ≡ removals found → told new ≡ removals (if b then found ++ key.items ∷ [] else found)
gone_on true old new key found there_new same_new e = ap told (there_new refl) ∙ told_append old ((key, None) ∷ []) ∙ ap (λ ws. ws ++ (key.items, None) ∷ []) e ∙ sym (removals_append found (key.items ∷ []))
gone_on false old new key found there_new same_new e = ap told (same_new refl) ∙ e

named_gone : (old : List Kept) (key : List ℕ) (found : List (List ℕ)) → told old ≡ removals found → is_among key (map (λ w. w.0) (told old)) ≡ is_among key found
named_gone old key found e = ap (is_among key) (ap (map (λ w. w.0)) e ∙ names_of_removals found)

pub one_gone : (has : Have) (is_there among : Bool) (old new : List Kept) (key : Vec ℕ) (found : List (List ℕ)) → is_there ≡ is_some (has key.items) → among ≡ is_among key.items (map (λ w. w.0) (told old))
    → ((is_there && not among) ≡ true → new ≡ old ++ (key, None) ∷ []) → ((is_there && not among) ≡ false → new ≡ old)
    → told old ≡ removals found → told new ≡ removals (with_key has key.items found)
one_gone has is_there among old new key found there is there_new same_new e =
    gone_on (is_there && not among) old new key found there_new same_new e
    ∙ ap (λ b. removals (if b then found ++ key.items ∷ [] else found)) (ap (λ b. b && not among) there ∙ ap (λ b. is_some (has key.items) && not b) (is ∙ named_gone old key.items found e))

-- ---- writes that come behind others

pub noted_on : (ws left rest new : List Kept) (w : Kept) (end : Written) → left ≡ w ∷ rest → new ≡ ws ++ w ∷ [] → told ws ++ told left ≡ end → told new ++ told rest ≡ end
noted_on ws left rest new w end is more e =
    ap (λ n. told n ++ told rest) more ∙ ap (λ x. x ++ told rest) (told_append ws (w ∷ []))
    ∙ append_assoc (told ws) ((w.0.items, w.1) ∷ []) (told rest) ∙ ap (λ l. told ws ++ told l) (sym is) ∙ e
