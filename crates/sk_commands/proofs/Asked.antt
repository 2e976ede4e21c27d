-- A step, where keys have what they have: what it asks for is all that it needs.
use Rattle.sk_commands.proofs.Names.{◌≡◌, ℕ, ◌+◌, Bool, true, false, ◌&&◌, not, List, [], ◌∷◌, ◌++◌, map, filter}
use Rattle.sk_commands.proofs.Names.{flat_map, length, count_by, fold, is_some, bytes_eq, cond, Option, Some, None}
use Rattle.sk_commands.proofs.Names.{Result, Ok, if◌then◌else◌, refl, sym, ap, ◌∙◌, nat_cmp, slice_cmp, by_order}
use Rattle.sk_commands.proofs.Names.{Ordering, Less, Equal, Greater, bytes_eq-Decides, perform, with_read, Effect}
use Rattle.sk_commands.proofs.Names.{effect_of, When, Command, Get, Set, Del, Exists, Add, Append, StrLen, MGet, DbSize}
use Rattle.sk_commands.proofs.Names.{KeysWith, FlushAll, Reply, Array, Work, Answer, added, asks, begins_with, bytes_of}
use Rattle.sk_commands.proofs.Names.{counts, deleted, flushed, is_among, joined, number_at, outcome, replies, shown}
use Rattle.sk_commands.proofs.Names.{there, with_key, is_seen, may_set, set, set_reply, Have, Outcome, Written, after}
use Rattle.sk_commands.proofs.Names.{answered, comes_to, each, followed, known_after, looks_at, with_known, with_value}
use Rattle.sk_commands.proofs.Names.{act, asking_for, deed}
use Rattle.sk_commands.specs.declared.command.When.TheVariants as when
use Rattle.sk_commands.specs.declared.work.Work.TheVariants as works
use Rattle.sk_commands.specs.declared.work.Answer.TheVariants as answers

-- keys have the same in both
abbrev AreAlike : List (List ℕ) → Have → Have → Type 0
AreAlike [] f g = Unit {0}
AreAlike (key ∷ keys) f g = (f key ≡ g key) × AreAlike keys f g

-- what is known after all answers
abbrev learned : List (List ℕ) → Have → Have → Have
learned [] look has = has
learned (key ∷ keys) look has = learned keys look (with_value key (look key) has)

answer_is : (look has : Have) (k key : List ℕ) (b : Bool) → bytes_eq k key ≡ b → has k ≡ look k → (if b then look key else has k) ≡ look k
answer_is look has k key true same h = ap look (sym ((bytes_eq-Decides k key).0 same))
answer_is look has k key false same h = h

answer_here : (look has : Have) (key : List ℕ) → with_value key (look key) has key ≡ look key
answer_here look has key = ap (λ b. if b then look key else has key) ((bytes_eq-Decides key key).1 refl)

stays : (keys : List (List ℕ)) (look has : Have) (k : List ℕ) → has k ≡ look k → learned keys look has k ≡ look k
stays [] look has k h = h
stays (key ∷ keys) look has k h = stays keys look (with_value key (look key) has) k (answer_is look has k key _ refl h)

all_learned : (keys : List (List ℕ)) (look has : Have) → AreAlike keys (learned keys look has) look
all_learned [] look has = tt
all_learned (key ∷ keys) look has =
    (stays keys look (with_value key (look key) has) key (answer_here look has key), all_learned keys look (with_value key (look key) has))

there_alike : (keys : List (List ℕ)) (f g : Have) → AreAlike keys f g → there f keys ≡ there g keys
there_alike [] f g h = refl
there_alike (key ∷ keys) f g h =
    let rest = there_alike keys f g h.1 in
    ap (with_key f key) rest
    ∙ ap (λ has. if is_some has && not (is_among key (there g keys)) then there g keys ++ key ∷ [] else there g keys) h.0

-- so many, and one more if a key is there
abbrev one_there : Have → ℕ → List ℕ → ℕ
one_there has n key = n + cond (is_some (has key)) 1 0

counted_alike : (keys : List (List ℕ)) (f g : Have) (n : ℕ) → AreAlike keys f g → fold (one_there f) n keys ≡ fold (one_there g) n keys
counted_alike [] f g n h = refl
counted_alike (key ∷ keys) f g n h =
    ap (λ has. fold (one_there f) (n + cond (is_some has) 1 0) keys) h.0
    ∙ counted_alike keys f g (n + cond (is_some (g key)) 1 0) h.1

count_alike : (keys : List (List ℕ)) (f g : Have) → AreAlike keys f g → count_by (λ key. is_some (f key)) keys ≡ count_by (λ key. is_some (g key)) keys
count_alike keys f g h = counted_alike keys f g 0 h

map_alike : (keys : List (List ℕ)) (f g : Have) → AreAlike keys f g → map f keys ≡ map g keys
map_alike [] f g h = refl
map_alike (key ∷ keys) f g h = ap (λ value. value ∷ map f keys) h.0 ∙ ap (λ values. g key ∷ values) (map_alike keys f g h.1)

listed_alike : (p : List ℕ → Bool) (keys : List (List ℕ)) (f g : Have) → AreAlike keys f g → filter (λ key. p key && is_some (f key)) keys ≡ filter (λ key. p key && is_some (g key)) keys
listed_alike p [] f g h = refl
listed_alike p (key ∷ keys) f g h =
    ap (λ has. cond (p key && is_some has) (key ∷ filter (λ k. p k && is_some (f k)) keys) (filter (λ k. p k && is_some (f k)) keys)) h.0
    ∙ ap (λ found. cond (p key && is_some (g key)) (key ∷ found) found) (listed_alike p keys f g h.1)

-- a key that isn't looked at is set the same whatever it has
set_alike : (key value : List ℕ) (w : When) (gives : Bool) (f g : Have) → AreAlike (if is_seen w gives then key ∷ [] else []) f g
    → set key value (may_set w (f key)) (set_reply gives (may_set w (f key)) (f key)) ≡ set key value (may_set w (g key)) (set_reply gives (may_set w (g key)) (g key))
set_alike key value when.Always false f g h = refl
set_alike key value when.Always true f g h = ap (λ has. set key value (may_set when.Always has) (set_reply true (may_set when.Always has) has)) h.0
set_alike key value when.Absent gives f g h = ap (λ has. set key value (may_set when.Absent has) (set_reply gives (may_set when.Absent has) has)) h.0
set_alike key value when.Present gives f g h = ap (λ has. set key value (may_set when.Present has) (set_reply gives (may_set when.Present has) has)) h.0

-- a row needs no more than what it asks for
pub row_alike : (known : List (List ℕ)) (c : Command) (f g : Have) → AreAlike (asks known c) f g → outcome known c f ≡ outcome known c g
row_alike known (Get key) f g h = ap (λ has. replies (shown has)) h.0
row_alike known (Set key value options) f g h = set_alike key value options.when options.gives f g h
row_alike known (Del keys) f g h = ap deleted (there_alike keys f g h)
row_alike known (Exists keys) f g h = ap (λ n. replies (counts n)) (count_alike keys f g h)
row_alike known (Add key by) f g h = ap (λ has. added key by (number_at has)) h.0
row_alike known (Append key more) f g h = ap (λ has. joined key (bytes_of has ++ more)) h.0
row_alike known (StrLen key) f g h = ap (λ has. replies (counts (length (bytes_of has)))) h.0
row_alike known (MGet keys) f g h = ap (λ values. replies (Array values)) (map_alike keys f g h)
row_alike known DbSize f g h = ap (λ n. replies (counts n)) (count_alike known f g h)
row_alike known (KeysWith prefix) f g h = ap (λ keys. replies (Array (map Some keys))) (listed_alike (begins_with prefix) known f g h)
row_alike known FlushAll f g h = ap flushed (listed_alike (λ key. true) known f g h)
row_alike known command f g h = refl

front_alike : (xs ys : List (List ℕ)) (f g : Have) → AreAlike (xs ++ ys) f g → AreAlike xs f g
front_alike [] ys f g h = tt
front_alike (x ∷ xs) ys f g h = (h.0, front_alike xs ys f g h.1)

back_alike : (xs ys : List (List ℕ)) (f g : Have) → AreAlike (xs ++ ys) f g → AreAlike ys f g
back_alike [] ys f g h = h
back_alike (x ∷ xs) ys f g h = back_alike xs ys f g h.1

both_alike : (xs ys : List (List ℕ)) (f g : Have) → AreAlike xs f g → AreAlike ys f g → AreAlike (xs ++ ys) f g
both_alike [] ys f g h k = k
both_alike (x ∷ xs) ys f g h k = (h.0, both_alike xs ys f g h.1 k)

-- what is written makes no key other that was alike
after_alike : (ws : Written) (key : List ℕ) (f g : Have) → f key ≡ g key → after ws f key ≡ after ws g key
after_alike [] key f g h = h
after_alike (w ∷ ws) key f g h =
    after_alike ws key (with_value w.0 w.1 f) (with_value w.0 w.1 g) (ap (λ has. if bytes_eq key w.0 then w.1 else has) h)

keys_after : (ws : Written) (keys : List (List ℕ)) (f g : Have) → AreAlike keys f g → AreAlike keys (after ws f) (after ws g)
keys_after ws [] f g h = tt
keys_after ws (key ∷ keys) f g h = (after_alike ws key f g h.0, keys_after ws keys f g h.1)

has_it : (key : List ℕ) (value : Option (List ℕ)) (f : Have) → with_value key value f key ≡ value
has_it key value f = ap (λ b. if b then value else f key) ((bytes_eq-Decides key key).1 refl)

-- one key more, wherever it stands
placed_alike : (r : Ordering) (k key : List ℕ) (known more : List (List ℕ)) (f g : Have) → f key ≡ g key → AreAlike (k ∷ known) f g → AreAlike more f g → AreAlike (by_order r (key ∷ k ∷ known) (k ∷ known) (k ∷ more)) f g
placed_alike Less k key known more f g is h rest = (is, h)
placed_alike Equal k key known more f g is h rest = h
placed_alike Greater k key known more f g is h rest = (h.0, rest)

one_more : (known : List (List ℕ)) (key : List ℕ) (f g : Have) → f key ≡ g key → AreAlike known f g → AreAlike (with_known known key) f g
one_more [] key f g is h = (is, tt)
one_more (k ∷ known) key f g is h =
    placed_alike (slice_cmp nat_cmp key k) k key known (with_known known key) f g is h (one_more known key f g is h.1)

one_known : (known : List (List ℕ)) (w : List ℕ × Option (List ℕ)) (f g : Have) → AreAlike known f g → AreAlike (with_known known w.0) (with_value w.0 w.1 f) (with_value w.0 w.1 g)
one_known known w f g h =
    one_more known w.0 (with_value w.0 w.1 f) (with_value w.0 w.1 g) (has_it w.0 w.1 f ∙ sym (has_it w.0 w.1 g)) (keys_after (w ∷ []) known f g h)

-- and so of all keys that are known then
all_after : (ws : Written) (known : List (List ℕ)) (f g : Have) → AreAlike known f g → AreAlike (known_after ws known) (after ws f) (after ws g)
all_after [] known f g h = h
all_after (w ∷ ws) known f g h = all_after ws (with_known known w.0) (with_value w.0 w.1 f) (with_value w.0 w.1 g) (one_known known w f g h)

asks_after : (ws : Written) (known : List (List ℕ)) (c : Command) (f g : Have) → AreAlike (asks known c) f g → AreAlike (asks (known_after ws known) c) (after ws f) (after ws g)
asks_after ws known (Get key) f g h = keys_after ws (key ∷ []) f g h
asks_after ws known (Set key value options) f g h = keys_after ws (if is_seen options.when options.gives then key ∷ [] else []) f g h
asks_after ws known (Del keys) f g h = keys_after ws keys f g h
asks_after ws known (Exists keys) f g h = keys_after ws keys f g h
asks_after ws known (Add key by) f g h = keys_after ws (key ∷ []) f g h
asks_after ws known (Append key more) f g h = keys_after ws (key ∷ []) f g h
asks_after ws known (StrLen key) f g h = keys_after ws (key ∷ []) f g h
asks_after ws known (MGet keys) f g h = keys_after ws keys f g h
asks_after ws known DbSize f g h = all_after ws known f g h
asks_after ws known (KeysWith prefix) f g h = all_after ws known f g h
asks_after ws known FlushAll f g h = all_after ws known f g h
asks_after ws known command f g h = tt

each_asks_after : (ws : Written) (known : List (List ℕ)) (cs : List Command) (f g : Have) → AreAlike (flat_map (asks known) cs) f g → AreAlike (flat_map (asks (known_after ws known)) cs) (after ws f) (after ws g)
each_asks_after ws known [] f g h = tt
each_asks_after ws known (c ∷ cs) f g h =
    both_alike (asks (known_after ws known) c) (flat_map (asks (known_after ws known)) cs) (after ws f) (after ws g)
    (asks_after ws known c f g (front_alike (asks known c) (flat_map (asks known) cs) f g h))
    (each_asks_after ws known cs f g (back_alike (asks known c) (flat_map (asks known) cs) f g h))

-- what a command wrote is written, and the others go on
abbrev goes_on_with : List (List ℕ) → List Command → Have → Outcome Reply → Outcome (List Reply)
goes_on_with known cs has one = followed one (each (known_after one.written known) cs (after one.written has))

each_alike : (known : List (List ℕ)) (cs : List Command) (f g : Have) → AreAlike (flat_map (asks known) cs) f g → each known cs f ≡ each known cs g
each_alike known [] f g h = refl
each_alike known (c ∷ cs) f g h =
    let one = outcome known c g in
    ap (goes_on_with known cs f) (row_alike known c f g (front_alike (asks known c) (flat_map (asks known) cs) f g h))
    ∙ ap (followed one)
    (each_alike (known_after one.written known) cs (after one.written f) (after one.written g)
    (each_asks_after one.written known cs f g (back_alike (asks known c) (flat_map (asks known) cs) f g h)))

-- work needs no more than what it looks at
work_alike : (known : List (List ℕ)) (work : Work) (f g : Have) → AreAlike (looks_at known work) f g → comes_to known work f ≡ comes_to known work g
work_alike known (works.Say reply) f g h = refl
work_alike known (works.One c) f g h = ap (answered answers.One) (row_alike known c f g h)
work_alike known (works.Each cs) f g h = ap (answered answers.Each) (each_alike known cs f g h)

-- these keys are read, and the rest is what came of it
abbrev done_with : List (List ℕ) → ℕ → Have → Outcome Answer → Result (Effect (List ℕ) (List ℕ) (ℕ × Answer)) (Unit {0})
done_with keys channel look o = Ok (record { read = map (λ k. (k, look k)) keys; written = o.written; said = Some (channel, o.reply) })

performed : (keys : List (List ℕ)) (comes : Have → Outcome Answer) (channel : ℕ) (look has : Have) → perform look (asking_for keys comes channel has) ≡ done_with keys channel look (comes (learned keys look has))
performed [] comes channel look has = refl
performed (key ∷ keys) comes channel look has = ap (with_read key (look key)) (performed keys comes channel look (with_value key (look key) has))

pub act_does : (channel : ℕ) (known : List (List ℕ)) (work : Work) (look : Have) → perform look (act channel known work) ≡ Ok (effect_of look (deed channel known work look))
act_does channel known work look =
    performed (looks_at known work) (comes_to known work) channel look (λ key. None)
    ∙ ap (done_with (looks_at known work) channel look) (work_alike known work _ look (all_learned (looks_at known work) look (λ key. None)))
