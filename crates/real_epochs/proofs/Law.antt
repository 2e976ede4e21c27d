-- Calls one after another.
use Rattle.real_epochs.proofs.Names.{◌≡◌, ◌||◌, ◌==◌, ℕ, Bool, true, false, cond, List, [], ◌∷◌, ◌++◌, length, zero, suc, refl, sym, ◌∙◌, ap, subst}
use Rattle.real_epochs.proofs.Names.{append_assoc, append-nil, eqb-true, arith, ◌+◌, IsFront, Event, Changes, Told, Says, Epoch, Story, all_in, said_on, told_in, in_newest, in_none, in_oldest, but_oldest}
use Rattle.real_epochs.specs.Story.{Call, Begins, Happens, Accepts, Refuses, Shows, no_story, with_call, with_calls}
use Rattle.real_epochs.specs.Law.{are_accepted, are_decided, counted, counts, EpochsStand, Follows, Makes, Stands}
use Rattle.real_epochs.specs.Answers.{IsNext}
use Rattle.real_epochs.specs.Tells.{EpochsView, Tells}

-- ---- what was shown is said first

said_more : (t : ℕ) (es fs : List Event) → said_on t (es ++ fs) ≡ said_on t es ++ said_on t fs
said_more t [] fs = refl
said_more t (Changes name version ∷ es) fs = said_more t es fs
said_more t (Told name version ∷ es) fs = said_more t es fs
said_more t (Says stream output ∷ es) fs =
    elim (stream == t) as (λ b. cond b (output ∷ said_on t (es ++ fs)) (said_on t (es ++ fs)) ≡ cond b (output ∷ said_on t es) (said_on t es) ++ said_on t fs) [
      | true ↦ ap (λ xs. output ∷ xs) (said_more t es fs)
      | false ↦ said_more t es fs
    ]

abbrev Front : Story → Type 0
Front s = (t : ℕ) → IsFront (s.shown t) (said_on t s.accepted)

more_said : (s : Story) (es : List Event) → Front s → (t : ℕ) → IsFront (s.shown t) (said_on t (s.accepted ++ es))
more_said s es front t =
    ((front t).0 ++ said_on t es, said_more t s.accepted es ∙ ap (λ xs. xs ++ said_on t es) (front t).1 ∙ append_assoc (s.shown t) (front t).0 (said_on t es))

next_front : (s : Story) (t output : ℕ) → Front s → IsNext s t output → Front (with_call (Shows t output) s)
next_front s t output front next u =
    elim (t == u) as (λ b. (t == u) ≡ b → IsFront (cond b (s.shown u ++ output ∷ []) (s.shown u)) (said_on u s.accepted)) [
      | true ↦ λ is. subst (λ v. IsFront (s.shown v ++ output ∷ []) (said_on v s.accepted)) (eqb-true t u is)
          (next.more, next.next ∙ sym (append_assoc (s.shown t) (output ∷ []) next.more))
      | false ↦ λ other. front u
    ] refl

one_call : (a b : EpochsView) (c : Call) (s : Story) → Makes a c b → Tells s a → Front s → Tells (with_call c s) b × Front (with_call c s)
one_call a b (Begins number checkpoint) s makes t front = (makes s t, front)
one_call a b (Happens event) s makes t front = (makes s t, more_said s (in_none event s.waiting) front)
one_call a b Accepts s makes t front = (makes s t, more_said s (in_oldest s.waiting) front)
one_call a b Refuses s makes t front = (makes s t, more_said s (told_in (all_in s.waiting)) front)
one_call a b (Shows stream output) s makes t front = (makes.0 s t, next_front s stream output front (makes.1 s t))

all_calls : (a b : EpochsView) (cs : List Call) (s : Story) → Follows a cs b → Tells s a → Front s → Tells (with_calls cs s) b × Front (with_calls cs s)
all_calls a b [] s same t front = (subst (Tells s) same t, front)
all_calls a b (c ∷ cs) s (m, makes, rest) t front =
    let one = one_call a m c s makes t front in all_calls m b cs (with_call c s) rest one.0 one.1

-- ---- what counts

-- of events, while so many epochs wait, those that count
abbrev passing : ℕ → List Event → List Call → List Event
passing n [] cs = []
passing n (e ∷ es) cs = cond (counts e n cs) (e ∷ passing n es cs) (passing n es cs)

abbrev in_waiting : ℕ → List Epoch → List Call → List Event
in_waiting n [] cs = []
in_waiting n (e ∷ es) cs = passing (suc n) e.events cs ++ in_waiting (suc n) es cs

-- where the replies to come are the same, the same passes
passing_same : (n m : ℕ) (es : List Event) (cs ds : List Call) → are_accepted n cs ≡ are_accepted m ds → are_decided n cs ≡ are_decided m ds → passing n es cs ≡ passing m es ds
passing_same n m [] cs ds accepted decided = refl
passing_same n m (Changes name version ∷ es) cs ds accepted decided =
    λ i. cond (accepted i) (Changes name version ∷ passing_same n m es cs ds accepted decided i) (passing_same n m es cs ds accepted decided i)
passing_same n m (Told name version ∷ es) cs ds accepted decided =
    λ i. cond (decided i) (Told name version ∷ passing_same n m es cs ds accepted decided i) (passing_same n m es cs ds accepted decided i)
passing_same n m (Says stream output ∷ es) cs ds accepted decided =
    λ i. cond (accepted i) (Says stream output ∷ passing_same n m es cs ds accepted decided i) (passing_same n m es cs ds accepted decided i)

passing_more : (n : ℕ) (es fs : List Event) (cs : List Call) → passing n (es ++ fs) cs ≡ passing n es cs ++ passing n fs cs
passing_more n [] fs cs = refl
passing_more n (e ∷ es) fs cs =
    elim (counts e n cs) as (λ b. cond b (e ∷ passing n (es ++ fs) cs) (passing n (es ++ fs) cs) ≡ cond b (e ∷ passing n es cs) (passing n es cs) ++ passing n fs cs) [
      | true ↦ ap (λ xs. e ∷ xs) (passing_more n es fs cs)
      | false ↦ passing_more n es fs cs
    ]

all_pass : (es : List Event) (cs : List Call) → passing zero es cs ≡ es
all_pass [] cs = refl
all_pass (Changes name version ∷ es) cs = ap (λ xs. Changes name version ∷ xs) (all_pass es cs)
all_pass (Told name version ∷ es) cs = ap (λ xs. Told name version ∷ xs) (all_pass es cs)
all_pass (Says stream output ∷ es) cs = ap (λ xs. Says stream output ∷ xs) (all_pass es cs)

none_pass : (n : ℕ) (es : List Event) → passing (suc n) es [] ≡ []
none_pass n [] = refl
none_pass n (Changes name version ∷ es) = none_pass n es
none_pass n (Told name version ∷ es) = none_pass n es
none_pass n (Says stream output ∷ es) = none_pass n es

told_pass : (n : ℕ) (es : List Event) (cs : List Call) → passing (suc n) es (Refuses ∷ cs) ≡ told_in es
told_pass n [] cs = refl
told_pass n (Changes name version ∷ es) cs = told_pass n es cs
told_pass n (Told name version ∷ es) cs = ap (λ xs. Told name version ∷ xs) (told_pass n es cs)
told_pass n (Says stream output ∷ es) cs = told_pass n es cs

told_both : (es fs : List Event) → told_in (es ++ fs) ≡ told_in es ++ told_in fs
told_both [] fs = refl
told_both (Changes name version ∷ es) fs = told_both es fs
told_both (Told name version ∷ es) fs = ap (λ xs. Told name version ∷ xs) (told_both es fs)
told_both (Says stream output ∷ es) fs = told_both es fs

none_waiting : (n : ℕ) (es : List Epoch) → in_waiting n es [] ≡ []
none_waiting n [] = refl
none_waiting n (e ∷ es) = (λ i. none_pass n e.events i ++ none_waiting (suc n) es i)

told_waiting : (n : ℕ) (es : List Epoch) (cs : List Call) → in_waiting n es (Refuses ∷ cs) ≡ told_in (all_in es)
told_waiting n [] cs = refl
told_waiting n (e ∷ es) cs = (λ i. told_pass n e.events cs i ++ told_waiting (suc n) es cs i) ∙ sym (told_both e.events (all_in es))

-- calls that are no replies
abbrev IsNoReply : Call → Type 0
IsNoReply c = ((n : ℕ) (cs : List Call) → are_accepted (suc n) (c ∷ cs) ≡ are_accepted (suc n) cs) × ((n : ℕ) (cs : List Call) → are_decided (suc n) (c ∷ cs) ≡ are_decided (suc n) cs)

same_waiting : (c : Call) → IsNoReply c → (n : ℕ) (es : List Epoch) (cs : List Call) → in_waiting n es (c ∷ cs) ≡ in_waiting n es cs
same_waiting c calm n [] cs = refl
same_waiting c calm n (e ∷ es) cs =
    (λ i. passing_same (suc n) (suc n) e.events (c ∷ cs) cs (calm.0 n cs) (calm.1 n cs) i ++ same_waiting c calm (suc n) es cs i)

-- one reply less to come
later_waiting : (n : ℕ) (es : List Epoch) (cs : List Call) → in_waiting (suc n) es (Accepts ∷ cs) ≡ in_waiting n es cs
later_waiting n [] cs = refl
later_waiting n (e ∷ es) cs = (λ i. passing_same (suc (suc n)) (suc n) e.events (Accepts ∷ cs) cs refl refl i ++ later_waiting (suc n) es cs i)

new_waiting : (n number checkpoint : ℕ) (es : List Epoch) (cs : List Call)
    → in_waiting n (es ++ (record { number = number; checkpoint = checkpoint; events = [] }) ∷ []) cs ≡ in_waiting n es cs
new_waiting n number checkpoint [] cs = refl
new_waiting n number checkpoint (e ∷ es) cs = ap (λ xs. passing (suc n) e.events cs ++ xs) (new_waiting (suc n) number checkpoint es cs)

newest_waiting : (n m : ℕ) (event : Event) (e : Epoch) (es : List Epoch) (cs : List Call) → m ≡ suc (n + length es)
    → in_waiting n (in_newest event (e ∷ es)) cs ≡ in_waiting n (e ∷ es) cs ++ passing m (event ∷ []) cs
newest_waiting n m event e [] cs is =
    let same : suc n ≡ m = omega (arith, is) in
    append-nil (passing (suc n) (e.events ++ event ∷ []) cs) ∙ passing_more (suc n) e.events (event ∷ []) cs
    ∙ (λ i. sym (append-nil (passing (suc n) e.events cs)) i ++ passing (same i) (event ∷ []) cs)
newest_waiting n m event e (f ∷ es) cs is =
    ap (λ xs. passing (suc n) e.events cs ++ xs) (newest_waiting (suc n) m event f es cs (omega (arith, is)))
    ∙ sym (append_assoc (passing (suc n) e.events cs) (in_waiting (suc n) (f ∷ es) cs) (passing m (event ∷ []) cs))

one_passes : (n : ℕ) (event : Event) (cs : List Call) (xs : List Event) → passing n (event ∷ []) cs ++ xs ≡ cond (counts event n cs) (event ∷ xs) xs
one_passes n event cs xs = elim (counts event n cs) as (λ b. cond b (event ∷ []) [] ++ xs ≡ cond b (event ∷ xs) xs) [
  | true ↦ refl
  | false ↦ refl
]

more_epochs : (es : List Epoch) (e : Epoch) → length (es ++ e ∷ []) ≡ suc (length es)
more_epochs [] e = refl
more_epochs (x ∷ es) e = ap suc (more_epochs es e)

same_length : (event : Event) (es : List Epoch) → length (in_newest event es) ≡ length es
same_length event [] = refl
same_length event (e ∷ []) = refl
same_length event (e ∷ f ∷ es) = ap suc (same_length event (f ∷ es))

refused_count : (n : ℕ) (cs : List Call) → counted n (Refuses ∷ cs) ≡ counted 0 cs
refused_count zero cs = refl
refused_count (suc n) cs = refl

nothing_counts : (n : ℕ) → counted n [] ≡ []
nothing_counts zero = refl
nothing_counts (suc n) = refl

-- what counts of a story that goes on
abbrev to_count : Story → List Call → List Event
to_count s cs = s.accepted ++ (in_waiting 0 s.waiting cs ++ counted (length s.waiting) cs)

begins_count : (number checkpoint : ℕ) (s : Story) (cs : List Call) → to_count (with_call (Begins number checkpoint) s) cs ≡ to_count s (Begins number checkpoint ∷ cs)
begins_count number checkpoint s cs =
    ap (λ xs. s.accepted ++ xs)
    (λ i. (new_waiting 0 number checkpoint s.waiting cs ∙ sym (same_waiting (Begins number checkpoint) (λ n cs. refl, λ n cs. refl) 0 s.waiting cs)) i
    ++ counted (more_epochs s.waiting (record { number = number; checkpoint = checkpoint; events = [] }) i) cs)

shows_count : (stream output : ℕ) (s : Story) (cs : List Call) → to_count (with_call (Shows stream output) s) cs ≡ to_count s (Shows stream output ∷ cs)
shows_count stream output s cs =
    ap (λ xs. s.accepted ++ (xs ++ counted (length s.waiting) cs)) (sym (same_waiting (Shows stream output) (λ n cs. refl, λ n cs. refl) 0 s.waiting cs))

accepts_at : (accepted : List Event) (w : List Epoch) (cs : List Call)
    → (accepted ++ in_oldest w) ++ (in_waiting 0 (but_oldest w) cs ++ counted (length (but_oldest w)) cs)
    ≡ accepted ++ (in_waiting 0 w (Accepts ∷ cs) ++ counted (length w) (Accepts ∷ cs))
accepts_at accepted [] cs = ap (λ xs. xs ++ counted 0 cs) (append-nil accepted)
accepts_at accepted (e ∷ es) cs =
    append_assoc accepted e.events (in_waiting 0 es cs ++ counted (length es) cs)
    ∙ ap (λ xs. accepted ++ xs)
    (sym (append_assoc e.events (in_waiting 0 es cs) (counted (length es) cs))
    ∙ (λ i. (sym (passing_same 1 0 e.events (Accepts ∷ cs) cs refl refl ∙ all_pass e.events cs) i ++ sym (later_waiting 0 es cs) i) ++ counted (length es) cs))

refuses_at : (accepted : List Event) (w : List Epoch) (cs : List Call)
    → (accepted ++ told_in (all_in w)) ++ ([] ++ counted 0 cs) ≡ accepted ++ (in_waiting 0 w (Refuses ∷ cs) ++ counted (length w) (Refuses ∷ cs))
refuses_at accepted w cs =
    append_assoc accepted (told_in (all_in w)) (counted 0 cs)
    ∙ (λ i. accepted ++ (sym (told_waiting 0 w cs) i ++ sym (refused_count (length w) cs) i))

happens_at : (event : Event) (accepted : List Event) (w : List Epoch) (cs : List Call)
    → (accepted ++ in_none event w) ++ (in_waiting 0 (in_newest event w) cs ++ counted (length (in_newest event w)) cs)
    ≡ accepted ++ (in_waiting 0 w (Happens event ∷ cs) ++ counted (length w) (Happens event ∷ cs))
happens_at event accepted [] cs =
    append_assoc accepted (event ∷ []) (counted 0 cs)
    ∙ ap (λ xs. accepted ++ xs) (ap (λ xs. xs ++ counted 0 cs) (sym (all_pass (event ∷ []) cs)) ∙ one_passes 0 event cs (counted 0 cs))
happens_at event accepted (e ∷ es) cs =
    ap (λ xs. xs ++ (in_waiting 0 (in_newest event (e ∷ es)) cs ++ counted (length (in_newest event (e ∷ es))) cs)) (append-nil accepted)
    ∙ ap (λ xs. accepted ++ xs)
    ((λ i. newest_waiting 0 (suc (length es)) event e es cs (omega arith) i ++ counted (same_length event (e ∷ es) i) cs)
    ∙ append_assoc (in_waiting 0 (e ∷ es) cs) (passing (suc (length es)) (event ∷ []) cs) (counted (suc (length es)) cs)
    ∙ (λ i. sym (same_waiting (Happens event) (λ n cs. refl, λ n cs. refl) 0 (e ∷ es) cs) i ++ one_passes (suc (length es)) event cs (counted (suc (length es)) cs) i))

one_counts : (c : Call) (s : Story) (cs : List Call) → to_count (with_call c s) cs ≡ to_count s (c ∷ cs)
one_counts (Begins number checkpoint) s cs = begins_count number checkpoint s cs
one_counts (Happens event) s cs = happens_at event s.accepted s.waiting cs
one_counts Accepts s cs = accepts_at s.accepted s.waiting cs
one_counts Refuses s cs = refuses_at s.accepted s.waiting cs
one_counts (Shows stream output) s cs = shows_count stream output s cs

all_count : (cs : List Call) (s : Story) → (with_calls cs s).accepted ≡ to_count s cs
all_count [] s = sym (append-nil s.accepted) ∙ ap (λ xs. s.accepted ++ xs) (λ i. sym (none_waiting 0 s.waiting) i ++ sym (nothing_counts (length s.waiting)) i)
all_count (c ∷ cs) s = all_count cs (with_call c s) ∙ one_counts c s cs

pub epochs_stand : EpochsStand
epochs_stand a b cs t follows =
    let all = all_calls a b cs no_story follows t (λ t. ([], refl)) in
    record {
      told = all.0;
      counts = all_count cs no_story;
      shown = λ t. subst (λ es. IsFront ((with_calls cs no_story).shown t) (said_on t es)) (all_count cs no_story) (all.1 t);
    }
