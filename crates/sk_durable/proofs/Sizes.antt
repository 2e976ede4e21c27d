-- DBSIZE by the count that is kept is DBSIZE of all keys.
use Rattle.sk_durable.proofs.Names.{◌≡◌, ℕ, Bool, true, false, cond, not, ◌&&◌, ◌||◌, List, [], ◌∷◌, ◌++◌}
use Rattle.sk_durable.proofs.Names.{map, Option, Some, None, Ok, Err, inl, refl, sym, ap, ◌∙◌, subst}
use Rattle.sk_durable.proofs.Names.{◌==◌, eq-eqb, said_at, T, is_some, bytes_eq, list_any, filter, eq_by_cmp, true≢false, or_parts}
use Rattle.sk_durable.proofs.Names.{or_from, false_from_ne_true, none-some, append-nil, IsStrictlySortedBy, Vec, vec_items}
use Rattle.sk_durable.proofs.Names.{Effect, is_in, marked_effect, written_value, noted, MergedTakes, with_drawn}
use Rattle.sk_durable.proofs.Names.{Status, AreStatuses, is_tag, step_tags, tags_at, numbers, last_tags, has, said_by}
use Rattle.sk_durable.proofs.Names.{again, effect_of, performs, Deed, look_at, log_at, bytes_cmp, bytes_total, same_bytes}
use Rattle.sk_durable.proofs.Names.{number_of, Numbered, HasPlaces, byte_deed, Takes, machine_of, undo_state_of, Parts}
use Rattle.sk_durable.proofs.Names.{is_touched, is_reserved, has_long_key, has_reserved_key, step_refused, Asker}
use Rattle.sk_durable.proofs.Names.{is_among, held, keys_of, Entries, bytes_same, store_knows, ahead_in}
use Rattle.sk_durable.proofs.Names.{against, asked_by, Asked, has_now, touched, Batches, CarryPost}
use Rattle.sk_durable.proofs.Names.{IsNotDone, Kernel, LacksNone, WorkStep}
use Rattle.std.proofs.lemmas.List.Sums.{length-filter}
use Rattle.std.proofs.lemmas.List.Kept.{IsStrictlySortedBy-filter}
use Rattle.std.proofs.lemmas.Map.Keys.{IsDistinct-from_sorted}
use Rattle.std.proofs.Math.Bool.{and-false}
use Rattle.std.specs.FinMap.{is_sorted, put}
use Rattle.std.specs.FinMap.Entries.{find-put, is_sorted-put}
use Rattle.std.specs.Prelude.{count_by, pos}
use Rattle.sk_plain_store.proofs.Kept.{knows}
use Rattle.sk_record.specs.Merged.{Merges}
use Rattle.sk_slots.specs.Counted.{HasPresent}
use Rattle.sk_slots.proofs.Counts.{same_count}
use Rattle.sk_batched.specs.Barred.{is_barred, is_too_long, is_on, HasNoneBarred, StandForAll}
use Rattle.sk_batched.specs.Batched.{TakePost}
use Rattle.sk_batched.specs.declared.refusal.Refusal.{Refusal}
use Rattle.sk_batched.specs.declared.refusal.Refusal.TheVariants.{Memory}
use Rattle.sk_commands.specs.declared.reply.Reply.TheVariants.{Integer}
use Rattle.sk_commands.specs.declared.work.Answer.TheVariants as answers
use Rattle.sk_durable.specs.Refused as told
use Rattle.sk_durable.specs.declared.refusal.NotDone.TheVariants as undone
use Rattle.sk_batched.specs.declared.refusal.Refusal.TheVariants as batches
use Rattle.sk_durable.specs.Sizes.{size, size_deed, IsSize}
use Rattle.sk_durable.proofs.Causes.{either, too_long, wrong_is}
use Rattle.sk_durable.proofs.Tagged.{ok_or}

-- ---- all keys that may be named

-- the keys that have places and may be named, as entries that have nothing
abbrev all_of : Numbered → Entries
all_of [] = []
all_of (e ∷ es) = cond (is_barred e.0) (all_of es) (put bytes_cmp e.0 [] (all_of es))

in_order : (es : Numbered) → T (is_sorted bytes_cmp (all_of es))
in_order [] = tt
in_order (e ∷ es) =
    elim (is_barred e.0) as (λ b. T (is_sorted bytes_cmp (cond b (all_of es) (put bytes_cmp e.0 [] (all_of es))))) [
      | true ↦ in_order es
      | false ↦ is_sorted-put bytes_cmp bytes_total e.0 [] (all_of es) (in_order es)
    ]

from_T : (b : Bool) → T b → b ≡ true
from_T true is = refl
from_T false is = absurd is

-- whether a key may be named and has a place
abbrev is_placed : Numbered → List ℕ → Bool
is_placed es k = not (is_barred k) && is_some (number_of es k)

barred_not_placed : (k : List ℕ) (b c : Bool) → is_barred k ≡ true → (not (is_barred k) && b) ≡ (not (is_barred k) && c)
barred_not_placed k b c is = (λ i. not (is i) && b) ∙ (λ i. not (sym is i) && c)

placed : (es : Numbered) (k : List ℕ) → is_some (held (all_of es) k) ≡ is_placed es k
placed [] k = sym (and-false (not (is_barred k)))
placed (e ∷ es) k =
    elim (is_barred e.0) as (λ b. is_barred e.0 ≡ b → is_some (held (cond b (all_of es) (put bytes_cmp e.0 [] (all_of es))) k) ≡ (not (is_barred k) && is_some (cond (eq_by_cmp bytes_cmp k e.0) (Some e.1) (number_of es k)))) [
      | true ↦ λ barred.
          placed es k
          ∙ elim (eq_by_cmp bytes_cmp k e.0) as (λ c. eq_by_cmp bytes_cmp k e.0 ≡ c → is_placed es k ≡ (not (is_barred k) && is_some (cond c (Some e.1) (number_of es k)))) [
            | true ↦ λ same. barred_not_placed k (is_some (number_of es k)) true (ap is_barred ((same_bytes k e.0).0 same) ∙ barred)
            | false ↦ λ other. refl
          ] refl
      | false ↦ λ plain.
          ap is_some (find-put bytes_cmp bytes_total k e.0 [] (all_of es))
          ∙ elim (eq_by_cmp bytes_cmp k e.0) as (λ c. eq_by_cmp bytes_cmp k e.0 ≡ c → is_some (cond c (Some []) (held (all_of es) k)) ≡ (not (is_barred k) && is_some (cond c (Some e.1) (number_of es k)))) [
            | true ↦ λ same. sym (ap (λ b. not b && true) (ap is_barred ((same_bytes k e.0).0 same) ∙ plain))
            | false ↦ λ other. placed es k
          ] refl
    ] refl

abbrev all_keys : Kernel → List (List ℕ)
all_keys kernel = keys_of (all_of kernel.keys)

among : (kernel : Kernel) (k : List ℕ) → is_among k (all_keys kernel) ≡ is_placed kernel.keys k
among kernel k = knows (all_of kernel.keys) k ∙ placed kernel.keys k

rising : (kernel : Kernel) → IsStrictlySortedBy bytes_cmp (all_keys kernel)
rising kernel = (store_knows (all_of kernel.keys) (from_T _ (in_order kernel.keys))).0

-- ---- lists of keys

itself : (k : List ℕ) → bytes_eq k k ≡ true
itself k = sym (bytes_same k k) ∙ (same_bytes k k).1 refl

or_first : (a b : Bool) → a ≡ true → (a || b) ≡ true
or_first a b is = ap (λ c. c || b) is

or_later : (a b : Bool) → b ≡ true → (a || b) ≡ true
or_later true b is = refl
or_later false b is = is

none_of : (test : List ℕ → Bool) (ks : List (List ℕ)) → ((k : List ℕ) → is_among k ks ≡ true → test k ≡ false) → list_any test ks ≡ false
none_of test [] each = refl
none_of test (x ∷ ks) each =
    or_from (test x) (list_any test ks) (each x (or_first (bytes_eq x x) (is_among x ks) (itself x)))
    (none_of test ks (λ k is. each k (or_later (bytes_eq k x) (is_among k ks) is)))

any_of : (test : List ℕ → Bool) (ks : List (List ℕ)) (k : List ℕ) → is_among k ks ≡ true → test k ≡ true → list_any test ks ≡ true
any_of test [] k is on = absurd (true≢false (sym is))
any_of test (x ∷ ks) k is on =
    elim (bytes_eq k x) as (λ b. bytes_eq k x ≡ b → (b || is_among k ks) ≡ true → (test x || list_any test ks) ≡ true) [
      | true ↦ λ same at. or_first (test x) (list_any test ks) (ap test (sym ((same_bytes k x).0 (bytes_same k x ∙ same))) ∙ on)
      | false ↦ λ other at. or_later (test x) (list_any test ks) (any_of test ks k at on)
    ] refl is

module _ (test : List ℕ → Bool) (ks : List (List ℕ)) (x k : List ℕ) (rest : is_in bytes_cmp (filter test ks) k ≡ (is_among k ks && test k)) where
  filtered_here : (b : Bool) → test x ≡ b → bytes_eq k x ≡ true → is_in bytes_cmp (cond b (x ∷ filter test ks) (filter test ks)) k ≡ test k
  filtered_here true is same =
      or_first (eq_by_cmp bytes_cmp k x) (is_in bytes_cmp (filter test ks) k) (bytes_same k x ∙ same)
      ∙ sym (ap test ((same_bytes k x).0 (bytes_same k x ∙ same)) ∙ is)
  filtered_here false is same =
      let no : test k ≡ false = ap test ((same_bytes k x).0 (bytes_same k x ∙ same)) ∙ is in
      rest ∙ ap (λ b. is_among k ks && b) no ∙ and-false (is_among k ks) ∙ sym no

  filtered_later : (b : Bool) → bytes_eq k x ≡ false → is_in bytes_cmp (cond b (x ∷ filter test ks) (filter test ks)) k ≡ (is_among k ks && test k)
  filtered_later true other = ap (λ c. c || is_in bytes_cmp (filter test ks) k) (bytes_same k x ∙ other) ∙ rest
  filtered_later false other = rest

filtered : (test : List ℕ → Bool) (ks : List (List ℕ)) (k : List ℕ) → is_in bytes_cmp (filter test ks) k ≡ (is_among k ks && test k)
filtered test [] k = refl
filtered test (x ∷ ks) k =
    elim (bytes_eq k x) as (λ c. bytes_eq k x ≡ c → is_in bytes_cmp (cond (test x) (x ∷ filter test ks) (filter test ks)) k ≡ ((c || is_among k ks) && test k)) [
      | true ↦ λ same. filtered_here test ks x k (filtered test ks k) (test x) refl same
      | false ↦ λ other. filtered_later test ks x k (filtered test ks k) (test x) other
    ] refl

-- ---- what DBSIZE is told of all keys

module _ (kernel : Kernel) (places : HasPlaces kernel) (none : HasNoneBarred kernel.parts) where
  abbrev is_there : List ℕ → Bool
  is_there k = is_some (has_now kernel k)

  not_barred : (k : List ℕ) → is_among k (all_keys kernel) ≡ true → is_barred k ≡ false
  not_barred k is =
      elim (is_barred k) as (λ b. (not b && is_some (number_of kernel.keys k)) ≡ true → b ≡ false) [
        | true ↦ λ at. absurd (true≢false (sym at))
        | false ↦ λ at. refl
      ] (sym (among kernel k) ∙ is)

  -- one that is left out has nothing
  left_out : (k : List ℕ) (long : Bool) (place : Option ℕ) → is_too_long k ≡ long → number_of kernel.keys k ≡ place → is_reserved k ≡ false
      → (not (long || is_reserved k) && is_some place) ≡ false → (has_now kernel k ≡ None) × (log_at bytes_cmp kernel.parts.slots k ≡ [])
  left_out k true place is at free out = (none.look k (or_first (is_too_long k) (is_reserved k) is), none.long k is)
  left_out k false None is at free out = let no = places.all k at in (no.0, no.1)
  left_out k false (Some n) is at free out = absurd (true≢false (sym (ap (λ b. not b && true) free) ∙ out))

  pub lacks : LacksNone kernel (all_keys kernel)
  lacks = (rising kernel, λ k free out. left_out k (is_too_long k) (number_of kernel.keys k) refl refl free (sym (among kernel k) ∙ out))

  -- one that is there is among them
  there_among : (k : List ℕ) → is_there k ≡ true → is_among k (all_keys kernel) ≡ true
  there_among k there = among kernel k ∙ (λ i. not (plain i) && numbered (number_of kernel.keys k) refl i) where
    plain : is_barred k ≡ false
    plain = false_from_ne_true (is_barred k) (λ barred. true≢false (sym there ∙ ap is_some (none.look k barred)))

    numbered : (o : Option ℕ) → number_of kernel.keys k ≡ o → is_some o ≡ true
    numbered None at = absurd (true≢false (sym there ∙ ap is_some (places.all k at).0))
    numbered (Some n) at = refl

  counted : HasPresent bytes_cmp (has_now kernel) (count_by is_there (all_keys kernel))
  counted = record {
    keys = filter is_there (all_keys kernel);
    once = IsDistinct-from_sorted bytes_cmp (filter is_there (all_keys kernel)) (IsStrictlySortedBy-filter bytes_cmp is_there (all_keys kernel) (rising kernel));
    all = λ k. filtered is_there (all_keys kernel) k ∙ known k (is_there k) refl;
    as_many = length-filter is_there (all_keys kernel);
  } where
    known : (k : List ℕ) (b : Bool) → is_there k ≡ b → (is_among k (all_keys kernel) && b) ≡ b
    known k true there = ap (λ c. c && true) (there_among k there)
    known k false gone = and-false (is_among k (all_keys kernel))

  -- ---- the guesses that it depends on

  module _ (keys : List (List ℕ)) (standing : StandForAll kernel.parts keys) (g : ℕ) (undecided : has g (numbers kernel.parts.opens) ≡ true) where
    abbrev on : List ℕ → Bool
    on = is_on kernel.parts g

    -- one that depends on something and is no batch's is among them
    on_among : (k : List ℕ) → is_barred k ≡ false → on k ≡ true → is_among k (all_keys kernel) ≡ true
    on_among k plain is =
        elim (is_among k (all_keys kernel)) as (λ b. is_among k (all_keys kernel) ≡ b → b ≡ true) [
          | true ↦ λ at. refl
          | false ↦ λ out.
              absurd (true≢false (sym is ∙ ap (λ log. has g (last_tags [] log)) (lacks.1 k (or_parts (is_too_long k) (is_reserved k) plain).1 out).1))
        ] refl

    forth : (ks : List (List ℕ)) → list_any is_barred ks ≡ false → list_any on ks ≡ true → list_any on (all_keys kernel) ≡ true
    forth [] plain is = absurd (true≢false (sym is))
    forth (x ∷ ks) plain is =
        let parts = or_parts (is_barred x) (list_any is_barred ks) plain in
        elim (on x) as (λ b. on x ≡ b → (b || list_any on ks) ≡ true → list_any on (all_keys kernel) ≡ true) [
          | true ↦ λ here at. any_of on (all_keys kernel) x (on_among x parts.0 here) here
          | false ↦ λ other at. forth ks parts.1 at
        ] refl is

    back : (ks : List (List ℕ)) → list_any is_barred ks ≡ false → list_any on ks ≡ true → list_any on keys ≡ true
    back [] plain is = absurd (true≢false (sym is))
    back (x ∷ ks) plain is =
        let parts = or_parts (is_barred x) (list_any is_barred ks) plain in
        elim (on x) as (λ b. on x ≡ b → (b || list_any on ks) ≡ true → list_any on keys ≡ true) [
          | true ↦ λ here at. standing.all x g undecided (or_parts (is_too_long x) (is_reserved x) parts.0).1 here
          | false ↦ λ other at. back ks parts.1 at
        ] refl is

    same_bools : (a b : Bool) → (a ≡ true → b ≡ true) → (b ≡ true → a ≡ true) → a ≡ b
    same_bools true b there and_back = sym (there refl)
    same_bools false true there and_back = and_back refl
    same_bools false false there and_back = refl

    same_rests : list_any on keys ≡ list_any on (all_keys kernel)
    same_rests = same_bools (list_any on keys) (list_any on (all_keys kernel)) (forth keys standing.plain) (back (all_keys kernel) (none_of is_barred (all_keys kernel) not_barred))

  -- ---- the step

  module _ (asker : Asker) (step : WorkStep) (keys : List (List ℕ)) (standing : StandForAll kernel.parts keys) (n : ℕ) (many : HasPresent bytes_cmp (has_now kernel) n) where
    twice : (ks : List (List ℕ)) → (ks ++ []) ++ [] ≡ ks
    twice ks = append-nil (ks ++ []) ∙ append-nil ks

    pub is_size : map vec_items step.looked.items ≡ keys → step.written.items ≡ [] → step.said ≡ Some (asker.channel, (asker.ticket, answers.One (Integer (pos n))))
        → IsSize kernel asker step
    is_size looked written said = record {
      known = all_keys kernel;
      knows = lacks;
      right = ap (list_any is_barred) (twice (all_keys kernel)) ∙ none_of is_barred (all_keys kernel) not_barred;
      named = ap (list_any is_barred) names ∙ standing.plain;
      written = ap (map _) written;
      said = said ∙ ap (λ m. Some (asker.channel, (asker.ticket, answers.One (Integer (pos m))))) (same_count bytes_total (has_now kernel) n (count_by is_there (all_keys kernel)) many counted);
      rests = λ g undecided.
          ap (list_any (is_on kernel.parts g)) names ∙ same_rests keys standing g undecided
          ∙ ap (list_any (is_on kernel.parts g)) (sym (twice (all_keys kernel)));
    } where
      names : touched (byte_deed step) ≡ keys
      names = (λ i. looked i ++ map (λ (w : List ℕ × Option (List ℕ)). w.0) (map (λ (w : Vec ℕ × Option (List ℕ)). (vec_items w.0, w.1)) (written i))) ∙ append-nil keys

-- ---- a step that depends on the same is the same step

module _ {V O : Type 0} (a b : Parts (List ℕ) V O) (d e : Deed (List ℕ) V O) (written : d.written ≡ e.written) (said : d.said ≡ e.said)
    (rests : (g : ℕ) → has g (numbers a.opens) ≡ true → is_touched a d g ≡ is_touched a e g) where
  abbrev look : List ℕ → Option V
  look = look_at bytes_cmp a.slots

  abbrev tags_of : Effect (List ℕ) V (ℕ × O) → List ℕ
  tags_of f = step_tags (undo_state_of bytes_cmp a) (marked_effect (again {V = V} {O = O} bytes_cmp) None (Ok f))

  abbrev tests : Effect (List ℕ) V (ℕ × O) → ℕ → Bool
  tests f = is_tag (undo_state_of bytes_cmp a) (marked_effect (again {V = V} {O = O} bytes_cmp) None (Ok f))

  keys_read : (ks : List (List ℕ)) → map (λ (r : List ℕ × Option V). r.0) (map (λ k. (k, look k)) ks) ≡ ks
  keys_read [] = refl
  keys_read (k ∷ ks) = ap (λ xs. k ∷ xs) (keys_read ks)

  tests_are : (f : Deed (List ℕ) V O) (g : ℕ) → tests (effect_of look f) g ≡ is_touched a f g
  tests_are f g = ap (λ ks. list_any (λ k. has g (tags_at (undo_state_of bytes_cmp a) k)) (ks ++ map (λ w. w.0) f.written)) (keys_read f.looked)

  same_filter : (p q : ℕ → Bool) (xs : List ℕ) → ((g : ℕ) → has g xs ≡ true → p g ≡ q g) → filter p xs ≡ filter q xs
  same_filter p q [] same = refl
  same_filter p q (x ∷ xs) same =
      λ i. cond (same x (or_first (x == x) (has x xs) (eq-eqb x x refl)) i) (x ∷ same_filter p q xs (λ g is. same g (or_later (x == g) (has g xs) is)) i)
      (same_filter p q xs (λ g is. same g (or_later (x == g) (has g xs) is)) i)

  same_tags : tags_of (effect_of look d) ≡ tags_of (effect_of look e)
  same_tags =
      ap (filter (tests (effect_of look d))) (append-nil (numbers a.opens))
      ∙ same_filter (tests (effect_of look d)) (tests (effect_of look e)) (numbers a.opens) (λ g undecided. tests_are d g ∙ rests g undecided ∙ sym (tests_are e g))
      ∙ ap (filter (tests (effect_of look e))) (sym (append-nil (numbers a.opens)))

  module _ (takes : Takes bytes_cmp a d None b) (status : ℕ → Option Status) (are : AreStatuses a.guesses a.opens status) where
    t : MergedTakes (again bytes_cmp) (machine_of bytes_cmp a status) (record { deed = d; guess = None }) (machine_of bytes_cmp b (with_drawn None status))
    t = takes.takes status are

    did : t.effect ≡ effect_of look d
    did = sym (ap (ok_or t.effect) (sym (performs look d) ∙ t.accepted))

    wrote : t.effect.written ≡ e.written
    wrote = ap (λ (f : Effect (List ℕ) V (ℕ × O)). f.written) did ∙ written

    spoke : t.effect.said ≡ e.said
    spoke = ap (λ (f : Effect (List ℕ) V (ℕ × O)). f.said) did ∙ said

    tags : tags_of t.effect ≡ tags_of (effect_of look e)
    tags = ap tags_of did ∙ same_tags

    alike : MergedTakes (again bytes_cmp) (machine_of bytes_cmp a status) (record { deed = e; guess = None }) (machine_of bytes_cmp b (with_drawn None status))
    alike = record {
      effect = effect_of look e;
      accepted = performs look e;
      look = λ k. t.look k ∙ ap (λ ws. written_value bytes_cmp ws k (look k)) wrote;
      logs = λ k.
          subst (λ ts. Merges [] (log_at bytes_cmp a.slots k ++ noted (is_in bytes_cmp (map (λ w. w.0) e.written) k) ts (look k) []) (log_at bytes_cmp b.slots k)) tags
          (subst (λ (ws : List (List ℕ × Option V)). Merges [] (log_at bytes_cmp a.slots k ++ noted (is_in bytes_cmp (map (λ w. w.0) ws) k) (tags_of t.effect) (look k) []) (log_at bytes_cmp b.slots k)) wrote (t.logs k));
      opens = t.opens;
      status = t.status;
      texts = λ u. t.texts u ∙ (λ i. said_at a.said u ++ said_by (again {V = V} {O = O} bytes_cmp) u (spoke i) (tags i));
    }

  pub takes_alike : Takes bytes_cmp a d None b → Takes bytes_cmp a e None b
  takes_alike takes = record {
    takes = λ status are. alike takes status are;
    agrees = takes.agrees;
    guesses = takes.guesses;
    numbered = takes.numbered;
  }

-- ---- it is carried out

module _ (b : Batches) (asker : Asker) (step : WorkStep) (h : IsSize b.kernel asker step) where
  abbrev asked : Asked
  asked = asked_by asker h.known size

  none_against : against b asked ≡ None
  none_against = ap (λ c. cond c (Some undone.LongKey) None) h.right

  refused_none : (long reserved : Bool) → (long || reserved) ≡ false → cond long (Some batches.LongKey) (cond reserved (Some batches.Reserved) None) ≡ None
  refused_none true reserved is = absurd (true≢false is)
  refused_none false true is = absurd (true≢false is)
  refused_none false false is = refl

  free : step_refused step ≡ None
  free = refused_none (has_long_key step) (has_reserved_key step) (sym (wrong_is step) ∙ h.named)

  plain : list_any is_reserved (touched (size_deed b.kernel asker h.known)) ≡ false
  plain = (or_parts _ _ (sym (either too_long is_reserved (touched (size_deed b.kernel asker h.known))) ∙ h.right)).1

  module _ (c : Batches) (after : WorkStep) where
    pub size_not_taken : (why : Refusal) → TakePost (Err why) step after b c → IsNotDone (told.step_refused why) b asker size c
    size_not_taken Memory post = inl post.1
    size_not_taken why post = absurd (none-some why (sym free ∙ post.0))

    pub size_taken : (looks : Bool) (ahead : Option (List ℕ)) → TakePost (Ok tt) step after b c → ahead ≡ ahead_in looks step.said
        → CarryPost looks asker size (Ok ahead) b c
    size_taken looks ahead post told = (
      h.known,
      none_against,
      record {
        knows = λ all. h.knows;
        plain = plain;
        taken = (
          takes_alike b.kernel.parts c.kernel.parts (byte_deed step) (size_deed b.kernel asker h.known) h.written h.said h.rests post.1,
          post.2,
          post.3,
        );
      },
      told ∙ ap (ahead_in looks) h.said,
    )
