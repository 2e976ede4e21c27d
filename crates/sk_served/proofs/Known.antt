-- Which absent keys are known too changes nothing.
pub use Rattle.sk_served.proofs.Names.{alone_work}
use Rattle.sk_served.proofs.Names.{◌≡◌, ℕ, Bool, true, false, ◌&&◌, ◌||◌, cond, T, List, [], ◌∷◌, map, filter, length}
use Rattle.sk_served.proofs.Names.{count_by, Option, Some, None, is_some, bytes_eq, refl, sym, ap, subst, ◌∙◌, is_lt}
use Rattle.sk_served.proofs.Names.{is_sorted, put, below_all, by_order, find-put, find-where_key, is_sorted-put}
use Rattle.sk_served.proofs.Names.{is_sorted-where_key, same_entries, where_key, AllByRecursion, Ordering, Less, Equal}
use Rattle.sk_served.proofs.Names.{Greater, true≢false, length-filter, Command, DbSize, KeysWith, FlushAll, Reply}
use Rattle.sk_served.proofs.Names.{Array, Work, begins_with, counts, flushed, is_among, listed, present, replies, Have}
use Rattle.sk_served.proofs.Names.{Outcome, Written, answered, comes_to, each, followed, known_after, with_known}
use Rattle.sk_served.proofs.Names.{with_value, bytes_cmp, held, keys_of, Entries, bytes_same, bytes_total, knows}
use Rattle.sk_served.proofs.Names.{tied_is, is_reserved, HasNoReserved, KnowsAll}
use Rattle.std.specs.List.Sorted.{IsStrictlySortedBy}
use Rattle.sk_commands.specs.declared.work.Work.TheVariants as works
use Rattle.sk_commands.specs.declared.work.Answer.TheVariants as answers
use Rattle.sk_commands.specs.Table.{outcome}
use Rattle.sk_commands.specs.Work.{after}

-- keys as entries that have nothing
abbrev marked : List (List ℕ) → Entries
marked known = map (λ key. (key, [])) known

keys_marked : (known : List (List ℕ)) → keys_of (marked known) ≡ known
keys_marked [] = refl
keys_marked (k ∷ known) = ap (λ ks. k ∷ ks) (keys_marked known)

both : (a b : Bool) → T a → T b → T (a && b)
both true b p q = q
both false b p q = absurd p

firstly : (a b : Bool) → T (a && b) → T a
firstly true b p = tt
firstly false b p = absurd p

secondly : (a b : Bool) → T (a && b) → T b
secondly true b p = p
secondly false b p = absurd p

is_less : (o : Ordering) → o ≡ Less → T (is_lt o)
is_less o e = subst (λ r. T (is_lt r)) (sym e) tt

less_is : (o : Ordering) → T (is_lt o) → o ≡ Less
less_is Less p = refl
less_is s p = absurd p

to_T : (b : Bool) → b ≡ true → T b
to_T true e = tt
to_T false e = cc

below : (k : List ℕ) (known : List (List ℕ)) → AllByRecursion (λ y. bytes_cmp k y ≡ Less) known
    → T (below_all bytes_cmp k (marked known))
below k [] h = tt
below k (y ∷ known) h = both _ _ (is_less _ h.0) (below k known h.1)

rising : (known : List (List ℕ)) → IsStrictlySortedBy bytes_cmp known → T (is_sorted bytes_cmp (marked known))
unfolding IsStrictlySortedBy
rising [] h = tt
rising (k ∷ known) h = both _ _ (below k known h.0) (rising known h.1)

above : (k : List ℕ) (entries : Entries) → T (below_all bytes_cmp k entries)
    → AllByRecursion (λ y. bytes_cmp k y ≡ Less) (keys_of entries)
above k [] h = tt
above k (e ∷ entries) h = (less_is _ (firstly _ _ h), above k entries (secondly _ _ h))

rising_keys : (entries : Entries) → T (is_sorted bytes_cmp entries) → IsStrictlySortedBy bytes_cmp (keys_of entries)
unfolding IsStrictlySortedBy
rising_keys [] h = tt
rising_keys (e ∷ entries) h = (above e.0 entries (firstly _ _ h), rising_keys entries (secondly _ _ h))

pub store_knows : (entries : Entries) → is_sorted bytes_cmp entries ≡ true → KnowsAll (keys_of entries) (held entries)
store_knows entries h = (rising_keys entries (to_T _ h), λ key user there. knows entries key ∙ there)

-- The keys rise, and each that is there is among them.
abbrev IsWhole : List (List ℕ) → Have → Type 0
IsWhole known has = T (is_sorted bytes_cmp (marked known)) × ((key : List ℕ) → is_some (has key) ≡ true → is_among key known ≡ true)

whole : (known : List (List ℕ)) (has : Have) → HasNoReserved has → KnowsAll known has → IsWhole known has
whole known has none h = (
  rising known h.0,
  λ key. elim (is_reserved key) as (λ b. is_reserved key ≡ b → is_some (has key) ≡ true → is_among key known ≡ true) [
    | true ↦ λ is there. absurd (true≢false (sym there ∙ ap is_some (none key is)))
    | false ↦ λ is there. h.1 key is there
  ] refl,
)

-- ---- those that are there

held_marked : (known : List (List ℕ)) (key : List ℕ)
    → held (marked known) key ≡ cond (is_among key known) (Some []) None
held_marked [] key = refl
held_marked (k ∷ known) key =
    ap (λ b. cond b (Some []) (held (marked known) key)) (bytes_same key k)
    ∙ elim (bytes_eq key k) as (λ b. cond b (Some []) (held (marked known) key) ≡ cond (b || is_among key known) (Some []) None) [ true ↦ refl | false ↦ held_marked known key ]

-- of the keys as entries, those that are there
abbrev marked_there : Have → List (List ℕ) → Entries
marked_there has known = where_key bytes_cmp (λ k. is_some (has k)) (marked known)

found : (known : List (List ℕ)) (has : Have) → IsWhole known has → (key : List ℕ)
    → held (marked_there has known) key ≡ cond (is_some (has key)) (Some []) None
found known has h key =
    find-where_key bytes_cmp (λ k. is_some (has k)) key (λ x t. ap (λ k. is_some (has k)) (sym (tied_is key x t))) (marked known)
    ∙ elim (is_some (has key)) as (λ b. is_some (has key) ≡ b → cond b (held (marked known) key) None ≡ cond b (Some []) None) [
      | true ↦ λ there. held_marked known key ∙ ap (λ b. cond b (Some []) None) (h.1 key there)
      | false ↦ λ there. refl
    ] refl

marked_present : (known : List (List ℕ)) (has : Have) → marked (present has known) ≡ marked_there has known
marked_present [] has = refl
marked_present (k ∷ known) has =
    elim (is_some (has k)) as (λ b. marked (cond b (k ∷ present has known) (present has known)) ≡ cond b ((k, []) ∷ marked_there has known) (marked_there has known)) [
      | true ↦ ap (λ es. (k, []) ∷ es) (marked_present known has)
      | false ↦ marked_present known has
    ]

same_present : (known others : List (List ℕ)) (has : Have) → IsWhole known has → IsWhole others has
    → present has known ≡ present has others
same_present known others has h k =
    let same = same_entries bytes_cmp bytes_total tied_is (marked_there has known) (marked_there has others)
    (is_sorted-where_key bytes_cmp (λ k. is_some (has k)) (marked known) h.0)
    (is_sorted-where_key bytes_cmp (λ k. is_some (has k)) (marked others) k.0)
    (λ q. found known has h q ∙ sym (found others has k q)) in
    sym (keys_marked (present has known))
    ∙ ap keys_of (marked_present known has ∙ same ∙ sym (marked_present others has))
    ∙ keys_marked (present has others)

listed_present : (known : List (List ℕ)) (prefix : List ℕ) (has : Have)
    → listed prefix has known ≡ filter (begins_with prefix) (present has known)
listed_present [] prefix has = refl
listed_present (k ∷ known) prefix has =
    elim (is_some (has k)) as (λ b. cond (begins_with prefix k && b) (k ∷ listed prefix has known) (listed prefix has known) ≡ filter (begins_with prefix) (cond b (k ∷ present has known) (present has known))) [
      | true ↦
          elim (begins_with prefix k) as (λ b. cond (b && true) (k ∷ listed prefix has known) (listed prefix has known) ≡ cond b (k ∷ filter (begins_with prefix) (present has known)) (filter (begins_with prefix) (present has known))) [
            | true ↦ ap (λ ks. k ∷ ks) (listed_present known prefix has)
            | false ↦ listed_present known prefix has
          ]
      | false ↦
          elim (begins_with prefix k) as (λ b. cond (b && false) (k ∷ listed prefix has known) (listed prefix has known) ≡ filter (begins_with prefix) (present has known)) [
            | true ↦ listed_present known prefix has
            | false ↦ listed_present known prefix has
          ]
    ]

count_present : (known : List (List ℕ)) (has : Have)
    → count_by (λ key. is_some (has key)) known ≡ length (present has known)
count_present known has = sym (length-filter (λ key. is_some (has key)) known)

-- what comes of a command is told by those that are there
outcome_same : (c : Command) (known others : List (List ℕ)) (has : Have) → present has known ≡ present has others
    → outcome known c has ≡ outcome others c has
outcome_same DbSize known others has h =
    ap (λ n. replies (counts n)) (count_present known has ∙ ap length h ∙ sym (count_present others has))
outcome_same (KeysWith prefix) known others has h =
    ap (λ keys. replies (Array (map Some keys))) (listed_present known prefix has ∙ ap (filter (begins_with prefix)) h ∙ sym (listed_present others prefix has))
outcome_same FlushAll known others has h = ap flushed h
outcome_same command known others has h = refl

-- ---- one key more

marked_more : (known : List (List ℕ)) (key : List ℕ)
    → marked (with_known known key) ≡ put bytes_cmp key [] (marked known)
marked_more [] key = refl
marked_more (k ∷ known) key =
    elim (bytes_cmp key k) as (λ o. marked (by_order o (key ∷ k ∷ known) (k ∷ known) (k ∷ with_known known key)) ≡ by_order o ((key, []) ∷ (k, []) ∷ marked known) ((k, []) ∷ marked known) ((k, []) ∷ put bytes_cmp key [] (marked known))) [
      | Less ↦ refl
      | Equal ↦ refl
      | Greater ↦ ap (λ es. (k, []) ∷ es) (marked_more known key)
    ]

among_held : (known : List (List ℕ)) (key : List ℕ) → is_among key known ≡ is_some (held (marked known) key)
among_held known key = ap (is_among key) (sym (keys_marked known)) ∙ knows (marked known) key

held_more : (known : List (List ℕ)) (key q : List ℕ)
    → is_among q (with_known known key) ≡ is_some (cond (bytes_eq q key) (Some []) (held (marked known) q))
held_more known key q =
    among_held (with_known known key) q
    ∙ ap (λ es. is_some (held es q)) (marked_more known key)
    ∙ ap is_some (find-put bytes_cmp bytes_total q key [] (marked known))
    ∙ ap (λ b. is_some (cond b (Some []) (held (marked known) q))) (bytes_same q key)

one_whole : (known : List (List ℕ)) (has : Have) (key : List ℕ) (value : Option (List ℕ)) → IsWhole known has
    → IsWhole (with_known known key) (with_value key value has)
one_whole known has key value h = (
  subst (λ es. T (is_sorted bytes_cmp es)) (sym (marked_more known key)) (is_sorted-put bytes_cmp bytes_total key [] (marked known) h.0),
  λ q there.
      held_more known key q
      ∙ elim (bytes_eq q key) as (λ b. is_some (cond b value (has q)) ≡ true → is_some (cond b (Some []) (held (marked known) q)) ≡ true) [
        | true ↦ λ is. refl
        | false ↦ λ is. sym (among_held known q) ∙ h.1 q is
      ] there,
)

whole_after : (ws : Written) (known : List (List ℕ)) (has : Have) → IsWhole known has
    → IsWhole (known_after ws known) (after ws has)
whole_after [] known has h = h
whole_after (w ∷ ws) known has h = whole_after ws (with_known known w.0) (with_value w.0 w.1 has) (one_whole known has w.0 w.1 h)

-- what a command wrote is written, and the others go on
abbrev goes_on_with : List (List ℕ) → List Command → Have → Outcome Reply → Outcome (List Reply)
goes_on_with known cs has one = followed one (each (known_after one.written known) cs (after one.written has))

each_same : (cs : List Command) (known others : List (List ℕ)) (has : Have) → IsWhole known has → IsWhole others has
    → each known cs has ≡ each others cs has
each_same [] known others has h k = refl
each_same (c ∷ cs) known others has h k =
    let one = outcome others c has in
    ap (goes_on_with known cs has) (outcome_same c known others has (same_present known others has h k))
    ∙ ap (followed one)
    (each_same cs (known_after one.written known) (known_after one.written others) (after one.written has)
    (whole_after one.written known has h) (whole_after one.written others has k))

work_same : (work : Work) (known others : List (List ℕ)) (has : Have) → IsWhole known has → IsWhole others has
    → comes_to known work has ≡ comes_to others work has
work_same (works.Say reply) known others has h k = refl
work_same (works.One c) known others has h k = ap (answered answers.One) (outcome_same c known others has (same_present known others has h k))
work_same (works.Each cs) known others has h k = ap (answered answers.Each) (each_same cs known others has h k)

pub more_known : (work : Work) (known others : List (List ℕ)) (has : Have) → HasNoReserved has → KnowsAll known has
    → KnowsAll others has → comes_to known work has ≡ comes_to others work has
more_known work known others has none h k = work_same work known others has (whole known has none h) (whole others has none k)
