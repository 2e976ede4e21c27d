-- What a step, a commit and a failure make of names is what they make of the keys that these stand for.
use Rattle.sk_renamed.proofs.Names.{◌≡◌, ℕ, false, List, [], ◌∷◌, ◌++◌, map, Option, Some, None, Ok, refl, sym, ◌∙◌, ap}
use Rattle.sk_renamed.proofs.Names.{subst, ◌||◌, Bool, Result, Err, if◌then◌else◌, filter, list_any, Ordering}
use Rattle.sk_renamed.proofs.Names.{eq_by_cmp, Effect, MarkedEffect, is_in, writes, written_value, is_marked}
use Rattle.sk_renamed.proofs.Names.{marked_effect, said_by, has, last_tags, noted, committed, cut, unwound, marks}
use Rattle.sk_renamed.proofs.Names.{UndoState, tags_at, is_tag, step_tags, numbers, opened, Machine, Fails, with_drawn}
use Rattle.sk_renamed.proofs.Names.{MergedTakes, MergedCommits, Merges, Deed, effect_of, again, performs, at_key}
use Rattle.sk_renamed.proofs.Names.{renamed_state, renamed, KeepsApart, keys_of, AreWrites, IsDeed, TakesRenamed}
use Rattle.sk_renamed.proofs.Names.{CommitsRenamed, FailsRenamed}

abbrev ok_or : {A C : Type 0} → A → Result A C → A
ok_or d (Ok x) = x
ok_or d (Err y) = d

-- two functions that agree at each key agree at what may be one
at_same : {K A : Type 0} (other : A) (f g : K → A) → ((k : K) → f k ≡ g k) → (o : Option K) → at_key other f o
    ≡ at_key other g o
at_same other f g same None = refl
at_same other f g same (Some k) = same k

-- ---- the writes of a step

module _ {B K V : Type 0} (names : B → B → Ordering) (keys : K → K → Ordering) (key : B → Option K)
    (apart : KeepsApart key names keys) where
  unnamed_value : (b : B) → key b ≡ None → (ws : List (B × Option V)) (xs : List (K × Option V)) → AreWrites key ws xs
      → (v : Option V) → written_value names ws b v ≡ v
  unnamed_value b none [] xs are v = refl
  unnamed_value b none (w ∷ ws) [] are v = absurd are
  unnamed_value b none (w ∷ ws) (x ∷ xs) (here, same, rest) v =
      ap (λ c. written_value names ws b (if c then w.1 else v)) (apart.unnamed b w.0 x.0 none here)
      ∙ unnamed_value b none ws xs rest v

  named_value : (b : B) (k : K) → key b ≡ Some k → (ws : List (B × Option V)) (xs : List (K × Option V))
      → AreWrites key ws xs → (v : Option V) → written_value names ws b v ≡ written_value keys xs k v
  named_value b k is [] [] are v = refl
  named_value b k is [] (x ∷ xs) are v = absurd are
  named_value b k is (w ∷ ws) [] are v = absurd are
  named_value b k is (w ∷ ws) (x ∷ xs) (here, same, rest) v =
      ap (λ c. written_value names ws b (if c then w.1 else v)) (sym (apart.same b w.0 k x.0 is here))
      ∙ ap (λ y. written_value names ws b (if eq_by_cmp keys k x.0 then y else v)) same
      ∙ named_value b k is ws xs rest (if eq_by_cmp keys k x.0 then x.1 else v)

  pub value_at : (b : B) (ws : List (B × Option V)) (xs : List (K × Option V)) → AreWrites key ws xs
      → (look : K → Option V) (o : Option K) → key b ≡ o
      → at_key None (λ k. written_value keys xs k (look k)) o ≡ written_value names ws b (at_key None look o)
  value_at b ws xs are look None is = sym (unnamed_value b is ws xs are None)
  value_at b ws xs are look (Some k) is = sym (named_value b k is ws xs are (look k))

  unnamed_in : (b : B) → key b ≡ None → (ws : List (B × Option V)) (xs : List (K × Option V)) → AreWrites key ws xs
      → is_in names (map (λ w. w.0) ws) b ≡ false
  unnamed_in b none [] xs are = refl
  unnamed_in b none (w ∷ ws) [] are = absurd are
  unnamed_in b none (w ∷ ws) (x ∷ xs) (here, same, rest) =
      ap (λ c. c || is_in names (map (λ w. w.0) ws) b) (apart.unnamed b w.0 x.0 none here)
      ∙ unnamed_in b none ws xs rest

  named_in : (b : B) (k : K) → key b ≡ Some k → (ws : List (B × Option V)) (xs : List (K × Option V))
      → AreWrites key ws xs → is_in names (map (λ w. w.0) ws) b ≡ is_in keys (map (λ x. x.0) xs) k
  named_in b k is [] [] are = refl
  named_in b k is [] (x ∷ xs) are = absurd are
  named_in b k is (w ∷ ws) [] are = absurd are
  named_in b k is (w ∷ ws) (x ∷ xs) (here, same, rest) =
      ap (λ c. c || is_in names (map (λ w. w.0) ws) b) (sym (apart.same b w.0 k x.0 is here))
      ∙ ap (λ c. eq_by_cmp keys k x.0 || c) (named_in b k is ws xs rest)

  pub in_at : (b : B) (ws : List (B × Option V)) (xs : List (K × Option V)) → AreWrites key ws xs → (o : Option K)
      → key b ≡ o
      → at_key false (is_in keys (map (λ x. x.0) xs)) o ≡ is_in names (map (λ w. w.0) ws) b
  in_at b ws xs are None is = sym (unnamed_in b is ws xs are)
  in_at b ws xs are (Some k) is = sym (named_in b k is ws xs are)

-- ---- the guesses that a step depends on

module _ {B K V : Type 0} (key : B → Option K) (a : UndoState K V) (g : ℕ) where
  abbrev rests : Option K → Bool
  rests o = has g (last_tags [] (at_key [] a.logs o))

  write_tags : (ws : List (B × Option V)) (xs : List (K × Option V)) → AreWrites key ws xs
      → list_any (λ k. rests (Some k)) (map (λ x. x.0) xs) ≡ list_any (λ b. rests (key b)) (map (λ w. w.0) ws)
  write_tags [] [] are = refl
  write_tags [] (x ∷ xs) are = absurd are
  write_tags (w ∷ ws) [] are = absurd are
  write_tags (w ∷ ws) (x ∷ xs) (here, same, rest) =
      ap (λ c. rests (Some x.0) || c) (write_tags ws xs rest)
      ∙ ap (λ o. rests o || list_any (λ b. rests (key b)) (map (λ w. w.0) ws)) (sym here)

  one_look : (at : B → Option V) (look : K → Option V) (bs : List B) (more : List B) (others : List K)
      → list_any (λ k. rests (Some k))
      (map (λ (r : K × Option V). r.0) (map (λ k. (k, look k)) (keys_of key bs)) ++ others)
      ≡ list_any (λ b. rests (key b)) (map (λ (r : B × Option V). r.0) (map (λ b. (b, at b)) bs) ++ more)
      → (o : Option K)
      → list_any (λ k. rests (Some k))
      (map (λ (r : K × Option V). r.0)
      (map (λ k. (k, look k)) (at_key (keys_of key bs) (λ k. k ∷ keys_of key bs) o)) ++ others)
      ≡ rests o || list_any (λ b. rests (key b)) (map (λ (r : B × Option V). r.0) (map (λ b. (b, at b)) bs) ++ more)
  one_look at look bs more others same None = same
  one_look at look bs more others same (Some k) = ap (λ c. rests (Some k) || c) same

  look_tags : (at : B → Option V) (look : K → Option V) (bs : List B) (more : List B) (others : List K)
      → list_any (λ k. rests (Some k)) others ≡ list_any (λ b. rests (key b)) more
      → list_any (λ k. rests (Some k))
      (map (λ (r : K × Option V). r.0) (map (λ k. (k, look k)) (keys_of key bs)) ++ others)
      ≡ list_any (λ b. rests (key b)) (map (λ (r : B × Option V). r.0) (map (λ b. (b, at b)) bs) ++ more)
  look_tags at look [] more others same = same
  look_tags at look (b ∷ bs) more others same =
      one_look at look bs more others (look_tags at look bs more others same) (key b)

module _ {B K V O : Type 0} (names : B → B → Ordering) (keys : K → K → Ordering) (key : B → Option K)
    (a : UndoState K V) (d : Deed B V O) (told : Deed K V O) (is : IsDeed key d told) (mark : Option ℕ) where
  abbrev of_names : MarkedEffect B V (ℕ × O)
  of_names = marked_effect (again names) mark (Ok (effect_of (renamed_state key a).look d))

  abbrev of_keys : MarkedEffect K V (ℕ × O)
  of_keys = marked_effect (again keys) mark (Ok (effect_of a.look told))

  same_tag : (g : ℕ) → is_tag a of_keys g ≡ is_tag (renamed_state key a) of_names g
  same_tag g =
      ap (λ ks. is_marked mark g || list_any (λ k. has g (tags_at a k))
      (map (λ (r : K × Option V). r.0) (map (λ k. (k, a.look k)) ks) ++ map (λ x. x.0) told.written)) is.looked
      ∙ ap (λ c. is_marked mark g || c)
      (look_tags key a g (renamed_state key a).look a.look d.looked (map (λ w. w.0) d.written)
      (map (λ x. x.0) told.written) (write_tags key a g d.written told.written is.written))

  pub same_tags : step_tags a of_keys ≡ step_tags (renamed_state key a) of_names
  same_tags = ap (λ p. filter p (numbers a.opens ++ marks mark)) (λ i g. same_tag g i)

-- ---- a step

same_said : {B K O : Type 0} (V : Type 0) (names : B → B → Ordering) (keys : K → K → Ordering) (t : ℕ)
    (said : Option (ℕ × O)) (tags : List ℕ) → said_by (again {V = V} keys) t said tags
    ≡ said_by (again {V = V} names) t said tags
same_said V names keys t None tags = refl
same_said V names keys t (Some w) tags = refl

module _ {B K V O : Type 0} (names : B → B → Ordering) (keys : K → K → Ordering) (key : B → Option K)
    (apart : KeepsApart key names keys) (d : Deed B V O) (told : Deed K V O) (is : IsDeed key d told)
    (mark : Option ℕ) (a b : Machine K V (ℕ × O)) where
  -- what a step with this effect makes of the machine
  abbrev Makes : Effect K V (ℕ × O) → Type 0
  Makes effect =
      ((k : K) → b.state.look k ≡ written_value keys effect.written k (a.state.look k))
      × ((k : K) → Merges []
      (a.state.logs k ++ noted (is_in keys (writes (marked_effect (again keys) mark (Ok effect))) k)
      (step_tags a.state (marked_effect (again keys) mark (Ok effect))) (a.state.look k) []) (b.state.logs k))
      × (b.state.opens ≡ a.state.opens ++ opened mark (step_tags a.state (marked_effect (again keys) mark (Ok effect))))
      × ((t : ℕ) → b.texts t
      ≡ a.texts t ++ said_by (again {V = V} keys) t effect.said
      (step_tags a.state (marked_effect (again keys) mark (Ok effect))))

  abbrev tags : List ℕ
  tags = step_tags (renamed_state key a.state) (of_names names keys key a.state d told is mark)

  same : step_tags a.state (of_keys names keys key a.state d told is mark) ≡ tags
  same = same_tags names keys key a.state d told is mark

  -- the log of a name, where it stands for this or for no key, after a write or none
  abbrev Log : Bool → List ℕ → Option K → Type 0
  Log wrote ts o = Merges [] (at_key [] a.state.logs o ++ noted wrote ts (at_key None a.state.look o) [])
      (at_key [] b.state.logs o)

  key_log : Makes (effect_of a.state.look told) → (o : Option K)
      → Log (at_key false (is_in keys (map (λ x. x.0) told.written)) o)
      (step_tags a.state (of_keys names keys key a.state d told is mark)) o
  key_log made None = tt
  key_log made (Some k) = made.1 k

  makes : Makes (effect_of a.state.look told) → ((g : ℕ) → b.status g ≡ with_drawn mark a.status g)
      → MergedTakes (again names) (renamed key a) (record { deed = d; guess = mark }) (renamed key b)
  makes made status = record {
    effect = effect_of (renamed_state key a.state).look d;
    accepted = performs (renamed_state key a.state).look d;
    look = λ n. at_same None b.state.look _ made.0 (key n)
        ∙ value_at names keys key apart n d.written told.written is.written a.state.look (key n) refl;
    logs = λ n.
        subst (λ c. Log c tags (key n)) (in_at names keys key apart n d.written told.written is.written (key n) refl)
        (subst (λ ts. Log (at_key false (is_in keys (map (λ x. x.0) told.written)) (key n)) ts (key n)) same
        (key_log made (key n)));
    opens = made.2 ∙ ap (λ ts. a.state.opens ++ opened mark ts) same;
    status = status;
    texts = λ t.
        made.3 t
        ∙ ap (λ ts. a.texts t ++ said_by (again {V = V} keys) t told.said ts) same
        ∙ ap (λ w. a.texts t ++ said_by (again {V = V} keys) t w tags) is.said
        ∙ ap (λ ws. a.texts t ++ ws) (same_said V names keys t d.said tags);
  }

  pub takes : MergedTakes (again keys) a (record { deed = told; guess = mark }) b
      → MergedTakes (again names) (renamed key a) (record { deed = d; guess = mark }) (renamed key b)
  takes t =
      let did : t.effect ≡ effect_of a.state.look told =
      sym (ap (ok_or t.effect) (sym (performs a.state.look told) ∙ t.accepted)) in
      makes (subst Makes did (t.look, t.logs, t.opens, t.texts)) t.status

-- ---- a commit and a failure

module _ {B K V O : Type 0} (key : B → Option K) (g : ℕ) (a b : Machine K V (ℕ × O)) where
  committed_log : MergedCommits a g b → (o : Option K)
      → Merges [] (committed g (at_key [] a.state.logs o)) (at_key [] b.state.logs o)
  committed_log c None = tt
  committed_log c (Some k) = c.logs k

  pub commits : MergedCommits a g b → MergedCommits (renamed key a) g (renamed key b)
  commits c = record {
    look = λ n. at_same None b.state.look a.state.look c.look (key n);
    logs = λ n. committed_log c (key n);
    opens = c.opens;
    status = c.status;
    texts = c.texts;
  }

  failed_look : Fails a g b → (o : Option K) → at_key None b.state.look o
      ≡ unwound g (at_key [] a.state.logs o) (at_key None a.state.look o)
  failed_look f None = refl
  failed_look f (Some k) = f.state.look k

  failed_log : Fails a g b → (o : Option K) → at_key [] b.state.logs o ≡ cut g (at_key [] a.state.logs o)
  failed_log f None = refl
  failed_log f (Some k) = f.state.logs k

  pub fails : Fails a g b → Fails (renamed key a) g (renamed key b)
  fails f = record {
    state = record { look = λ n. failed_look f (key n); logs = λ n. failed_log f (key n); opens = f.state.opens };
    status = f.status;
    texts = f.texts;
  }

pub all_takes : {B K V O : Type 0} → TakesRenamed B K V O
all_takes names keys key apart d told is mark a b = takes names keys key apart d told is mark a b

pub all_commits : {B K V O : Type 0} → CommitsRenamed B K V O
all_commits key g a b = commits key g a b

pub all_fails : {B K V O : Type 0} → FailsRenamed B K V O
all_fails key g a b = fails key g a b
