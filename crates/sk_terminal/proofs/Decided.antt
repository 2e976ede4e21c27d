-- Terminals after a decision that looked at some of them, and what is listed for them then.
use Rattle.sk_terminal.proofs.Names.{arith, without_none, ◌≡◌, ℕ, ◌<◌, ◌+◌, length, take, Bool, true, false, cond, not}
use Rattle.sk_terminal.proofs.Names.{◌||◌, ◌&&◌, List, [], ◌∷◌, Option, Some, None, refl, ap, ◌==◌, slice_index_or}
use Rattle.sk_terminal.proofs.Names.{option_map, unwrap_or, both_ways, false≢true, list_any-append, has, lightened}
use Rattle.sk_terminal.proofs.Names.{not_dropped, has_filter, TaggedText, any_rests, TerminalMap, texts_at, said_to}
use Rattle.sk_terminal.proofs.Names.{Listing, is_listed, rests_at, AreListed, ListsAtMost, NoneListed}
use Rattle.std.specs.FinMap as map
use Rattle.sk_terminal.proofs.SaidTo.{texts_said}
use Rattle.sk_terminal.proofs.Listed.{has_more}
use Rattle.std.proofs.lemmas.Bool.Decides.{nat_tests}

-- ---- numbers that differ
told_apart : (g c : ℕ) (tags : List ℕ) → has g tags ≡ true → has c tags ≡ false → (g == c) ≡ false
told_apart g c tags here free = grind (arith, nat_tests)

-- ---- texts of which none depends on the guess stay, and after the decision none does
abbrev pub LeavesFree : ℕ → (List TaggedText → List TaggedText) → Type 0
LeavesFree c change = (texts : List TaggedText) → any_rests c texts ≡ false → texts ≡ change texts

abbrev pub TakesOut : ℕ → (List TaggedText → List TaggedText) → Type 0
TakesOut c change = (g : ℕ) (texts : List TaggedText) → any_rests g (change texts) ≡ true → ((g == c) ≡ false) × (any_rests g texts ≡ true)

pub light_leaves : (c : ℕ) → LeavesFree c (lightened c)
light_leaves c [] none = refl
light_leaves c ((w, tags) ∷ xs) none = grind (arith, without_none c tags, light_leaves c xs)

pub drop_leaves : (c : ℕ) → LeavesFree c (not_dropped c)
drop_leaves c [] none = refl
drop_leaves c (x ∷ xs) none = grind (arith, drop_leaves c xs)

pub light_takes : (c : ℕ) → TakesOut c (lightened c)
light_takes c g [] here = absurd (false≢true here)
light_takes c g (x ∷ xs) here = grind (arith, has_filter (λ t. not (t == c)) g x.1, light_takes c g xs)

pub drop_takes : (c : ℕ) → TakesOut c (not_dropped c)
drop_takes c g [] here = absurd (false≢true here)
drop_takes c g (x ∷ xs) here = grind (arith, told_apart g c x.1, drop_takes c g xs)

-- what another guess depends on is there after a commit
light_keeps : (c g : ℕ) → (g == c) ≡ false → (texts : List TaggedText) → any_rests g texts ≡ true → any_rests g (lightened c texts) ≡ true
light_keeps c g apart [] here = here
light_keeps c g apart (x ∷ xs) here = grind (arith, has_filter (λ t. not (t == c)) g x.1, light_keeps c g apart xs)

light_others : (c g : ℕ) (o : Option (List TaggedText)) → (g == c) ≡ false → any_rests g (unwrap_or (option_map (lightened c) o) []) ≡ any_rests g (unwrap_or o [])
light_others c g None apart = refl
light_others c g (Some texts) apart = both_ways _ _ (λ here. (light_takes c g texts here).1) (light_keeps c g apart texts)

-- ---- a decision
module _ (c : ℕ) (change : List TaggedText → List TaggedText) (leaves : LeavesFree c change) (takes : TakesOut c change) where
  twice : (texts : List TaggedText) → change (change texts) ≡ change texts
  twice texts = grind (arith, nat_tests, takes c texts, leaves (change texts))

  twice_at : (o : Option (List TaggedText)) → option_map change (option_map change o) ≡ option_map change o
  twice_at None = refl
  twice_at (Some texts) = ap Some (twice texts)

  joined : (a b : Bool) (o : Option (List TaggedText)) → cond b (option_map change (cond a (option_map change o) o)) (cond a (option_map change o) o) ≡ cond (a || (b || false)) (option_map change o) o
  joined a b o = grind (arith, twice_at o)

  -- one terminal more was looked at
  pub decided_more : (old cur new : TerminalMap) (numbers : List ℕ) (i x : ℕ) → i < length numbers → x ≡ slice_index_or numbers i x
      → ((t : ℕ) → map.get cur t ≡ cond (has t (take i numbers)) (option_map change (map.get old t)) (map.get old t))
      → ((t : ℕ) → map.get new t ≡ cond (x == t) (option_map change (map.get cur t)) (map.get cur t))
      → (t : ℕ) → map.get new t ≡ cond (has t (take (i + 1) numbers)) (option_map change (map.get old t)) (map.get old t)
  decided_more old cur new numbers i x lt is before now t =
      grind (arith, before t, now t, joined (has t (take i numbers)) (x == t) (map.get old t), has_more t numbers i x lt is)

  free_at : (o : Option (List TaggedText)) → any_rests c (unwrap_or o []) ≡ false → o ≡ option_map change o
  free_at None none = refl
  free_at (Some texts) none = ap Some (leaves texts none)

  -- the terminals at which nothing depends on the guess are as they were
  pub decided : (m n : TerminalMap) (listed : ℕ → Bool) → ((t : ℕ) → listed t ≡ rests_at c m t)
      → ((t : ℕ) → map.get n t ≡ cond (listed t) (option_map change (map.get m t)) (map.get m t)) → (t : ℕ) → map.get n t ≡ option_map change (map.get m t)
  decided m n listed is now t = grind (arith, now t, is t, free_at (map.get m t))

  takes_at : (g : ℕ) (o : Option (List TaggedText)) → any_rests g (unwrap_or (option_map change o) []) ≡ true → ((g == c) ≡ false) × (any_rests g (unwrap_or o []) ≡ true)
  takes_at g None here = absurd (false≢true here)
  takes_at g (Some texts) here = takes g texts here

  -- after it nothing depends on the guess
  pub none_rests : (m n : TerminalMap) → ((t : ℕ) → map.get n t ≡ option_map change (map.get m t)) → (g t : ℕ) → (g == c) ≡ true → rests_at g n t ≡ false
  none_rests m n now g t same = grind (arith, now t, takes_at g (map.get m t))

  -- and where something depends on another, it did before
  pub rested : (m n : TerminalMap) → ((t : ℕ) → map.get n t ≡ option_map change (map.get m t)) → (g t : ℕ) → rests_at g n t ≡ true → rests_at g m t ≡ true
  rested m n now g t here = grind (arith, now t, takes_at g (map.get m t))

  -- where nothing depended on it, all is as it was
  pub as_it_was : (m n : TerminalMap) → ((t : ℕ) → map.get n t ≡ option_map change (map.get m t)) → (g t : ℕ) → rests_at c m t ≡ false → rests_at g n t ≡ rests_at g m t
  as_it_was m n now g t none = grind (arith, now t, free_at (map.get m t))

-- the list of a guess was taken out, and nothing else
abbrev pub TakesList : ℕ → List Listing → List Listing → Type 0
TakesList c ls ks = NoneListed c ks × ((g t : ℕ) → (c == g) ≡ false → is_listed g t ks ≡ is_listed g t ls)

-- at a commit no other list changes
pub committed_listed : (c : ℕ) (m n : TerminalMap) (ls ks : List Listing) → AreListed m ls → ((t : ℕ) → map.get n t ≡ option_map (lightened c) (map.get m t)) → TakesList c ls ks → AreListed n ks
committed_listed c m n ls ks all now taken g t =
    let free = none_rests c (lightened c) (light_leaves c) (light_takes c) m n now g t in
    grind (arith, nat_tests, taken.0 t, taken.1 g t, all g t, now t, light_others c g (map.get m t))

-- nor where there was no list: nothing depended on the guess
pub untouched_listed : (c : ℕ) (m : TerminalMap) (ls ks : List Listing) → AreListed m ls → NoneListed c ls → TakesList c ls ks → AreListed m ks
untouched_listed c m ls ks all none taken g t = grind (arith, nat_tests, taken.0 t, taken.1 g t, none t, all g t)

-- at a failure the terminals that lost a text were taken off where nothing depends on a guess any more
pub failed_listed : (c : ℕ) (m n : TerminalMap) (ls ks js : List Listing) (freed : ℕ → Bool) → AreListed m ls → ((t : ℕ) → map.get n t ≡ option_map (not_dropped c) (map.get m t)) → TakesList c ls ks
    → ((t : ℕ) → freed t ≡ rests_at c m t) → ((g t : ℕ) → is_listed g t js ≡ (is_listed g t ks && (not (freed t) || rests_at g n t))) → AreListed n js
failed_listed c m n ls ks js freed all now taken is left g t =
    let free = none_rests c (not_dropped c) (drop_leaves c) (drop_takes c) m n now g t in
    let rests = rested c (not_dropped c) (drop_leaves c) (drop_takes c) m n now g t in
    let stays = as_it_was c (not_dropped c) (drop_leaves c) (drop_takes c) m n now g t in
    grind (arith, nat_tests, left g t, taken.0 t, taken.1 g t, all g t, is t)

-- ---- a text said
pub said_listed : (m : TerminalMap) (ls ks : List Listing) (k : ℕ) (x : TaggedText) → AreListed m ls
    → ((g t : ℕ) → is_listed g t ks ≡ (is_listed g t ls || (has g x.1 && (k == t)))) → AreListed (said_to m k x) ks
said_listed m ls ks k x all more g t =
    grind (arith, more g t, all g t, texts_said m k x t, list_any-append (λ (y : TaggedText). has g y.1) (texts_at m t))

-- that was refused, once the terminal is taken off
pub refused_listed : (m : TerminalMap) (ls ks js : List Listing) (k : ℕ) → AreListed m ls → ListsAtMost k ls ks
    → ((g t : ℕ) → is_listed g t js ≡ (is_listed g t ks && (not (k == t) || rests_at g m t))) → AreListed m js
refused_listed m ls ks js k all most left g t =
    grind (arith, nat_tests, left g t, all g t, most.0 g t, most.1 g)
