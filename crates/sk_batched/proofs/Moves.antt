-- What a step, a new guess, a commit and a failure leave of a row of guesses that stand alone.
use Rattle.sk_batched.proofs.Names.{◌≡◌, ℕ, ◌+◌, ◌<◌, ◌≤◌, ◌%◌, Bool, true, false, cond, ◌||◌, List, [], ◌∷◌, ◌++◌}
use Rattle.sk_batched.proofs.Names.{length, map, Option, Some, None, Result, Ok, Err, refl, sym, ◌∙◌, ap, subst, arith}
use Rattle.sk_batched.proofs.Names.{◌==◌, filter, eq_by_cmp, true≢false, eq-eqb, ne_eqb, or_parts, append-nil}
use Rattle.sk_batched.proofs.Names.{length-append, Effect, is_in, written_value, marked_effect, Note, has, noted}
use Rattle.sk_batched.proofs.Names.{last_tags, committed, cut, unwound, UndoState, is_tag, not_struck, numbers}
use Rattle.sk_batched.proofs.Names.{still_open, step_tags, Merges, MergedTakes, MergedCommits, Fails, with_drawn}
use Rattle.sk_batched.proofs.Names.{with_failure, with_status, Status, Undecided, StatusCommitted, KeptView}
use Rattle.sk_batched.proofs.Names.{AreStatuses, struck_with, open_in, Deed, again, effect_of, performs, look_at}
use Rattle.sk_batched.proofs.Names.{log_at, bytes_cmp, same_bytes, Commits, FailsIn, Takes, Parts, machine_of}
use Rattle.sk_batched.proofs.Names.{undo_state_of, IsSame, batch_key, opening, notes_by, AreInRow, IsRow, or-false}
use Rattle.sk_batched.proofs.Rows.{alone_more, first_committed, first_failed, longer, never_there, none_before, none_left_out, not_again, not_beyond, notes_committed, notes_cut, notes_more, numbers_alone, only_new, strikes_none}

abbrev pub ok_or : {A B : Type 0} → A → Result A B → A
ok_or d (Ok x) = x
ok_or d (Err y) = d

no_tags : (t : List ℕ) (h : ℕ) → h ∷ [] ≡ [] → ⊥
no_tags t h is = cc

-- two batches have one key just where their numbers have one remainder
abbrev byte_of : List ℕ → ℕ
byte_of (a ∷ b ∷ c ∷ d ∷ e ∷ f ∷ g ∷ rest) = g
byte_of other = 0

pub same_key : (m n : ℕ) → eq_by_cmp bytes_cmp (batch_key m) (batch_key n) ≡ (n % 128 == m % 128)
same_key m n =
    elim (eq_by_cmp bytes_cmp (batch_key m) (batch_key n)) as (λ b. eq_by_cmp bytes_cmp (batch_key m) (batch_key n) ≡ b → b ≡ (n % 128 == m % 128)) [
      | true ↦ λ is. sym (eq-eqb (n % 128) (m % 128) (sym (ap byte_of ((same_bytes (batch_key m) (batch_key n)).0 is))))
      | false ↦ λ is. sym (ne_eqb (n % 128) (m % 128) (λ same. true≢false (sym ((same_bytes (batch_key m) (batch_key n)).1 (ap key_with (sym same))) ∙ is)))
    ] refl where
      key_with : ℕ → List ℕ
      key_with byte = 255 ∷ 98 ∷ 97 ∷ 116 ∷ 99 ∷ 104 ∷ byte ∷ []

-- what is not written stays
pub unwritten : {V : Type 0} (ws : List (List ℕ × Option V)) (k : List ℕ) (v : Option V) → is_in bytes_cmp (map (λ w. w.0) ws) k ≡ false → written_value bytes_cmp ws k v ≡ v
unwritten [] k v none = refl
unwritten (w ∷ ws) k v none =
    let parts = or_parts (eq_by_cmp bytes_cmp k w.0) (is_in bytes_cmp (map (λ w. w.0) ws) k) none in
    ap (λ b. written_value bytes_cmp ws k (cond b w.1 v)) parts.0 ∙ unwritten ws k v parts.1

-- a step that writes no key of a batch
abbrev pub Spares : {V O : Type 0} → Deed (List ℕ) V O → Type 0
Spares d = (n : ℕ) → is_in bytes_cmp (map (λ w. w.0) d.written) (batch_key n) ≡ false

-- the statuses that are known
abbrev pub status_in : List ℕ → ℕ → Option Status
status_in ns g = cond (has g ns) (Some Undecided) None

module _ {V O : Type 0} (a : Parts (List ℕ) V O) (ns : List ℕ) (r : IsRow a ns) where
  pub agrees : AreStatuses a.guesses a.opens (status_in ns)
  agrees = record {
    undecided = λ g. ap (λ os. has g (numbers os)) r.opens ∙ ap (has g) (numbers_alone ns) ∙ known (has g ns);
    struck = λ g here. absurd (true≢false (sym here ∙ ap (has g) r.struck));
    fresh = λ g beyond. ap (λ b. cond b (Some Undecided) None) (not_beyond ns a.guesses.drawn g r.row beyond);
  } where
    known : (b : Bool) → b ≡ open_in (cond b (Some Undecided) None)
    known true = refl
    known false = refl

  -- nothing that is seen has changed
  pub still : (b : Parts (List ℕ) V O) → IsSame bytes_cmp a b → IsRow b ns
  still b same = record {
    row = subst (λ (v : KeptView). AreInRow ns v.drawn) (sym same.guesses) r.row;
    opens = same.opens ∙ r.opens;
    struck = ap (λ (v : KeptView). v.struck) same.guesses ∙ r.struck;
    few = subst (λ (v : KeptView). length ns ≤ v.limit) (sym same.guesses) r.few;
    limit = subst (λ (v : KeptView). v.limit ≤ 128) (sym same.guesses) r.limit;
    look = λ n. same.look (batch_key n) ∙ r.look n;
    log = λ n. same.logs (batch_key n) ∙ r.log n;
  }

  -- an output went out
  pub let_out : (b : Parts (List ℕ) V O) → b ≡ record a { said = b.said } → IsRow b ns
  let_out b is = subst (λ p. IsRow p ns) (sym is) (record { row = r.row; opens = r.opens; struck = r.struck; few = r.few; limit = r.limit; look = r.look; log = r.log })

  -- the notes of a batch's key, as they are told
  kept : (b : Parts (List ℕ) V O) (ms : List ℕ) (last n : ℕ) (log : List (Note V)) → AreInRow ms last → log ≡ notes_by n ms → Merges [] log (log_at bytes_cmp b.slots (batch_key n)) → log_at bytes_cmp b.slots (batch_key n) ≡ notes_by n ms
  kept b ms last n log row is merges =
      none_left_out [] n ms last (log_at bytes_cmp b.slots (batch_key n)) row (λ h here. no_tags [] h) (subst (λ xs. Merges [] xs (log_at bytes_cmp b.slots (batch_key n))) is merges)

  -- a step was taken that writes no key of a batch
  pub stepped : (b : Parts (List ℕ) V O) (d : Deed (List ℕ) V O) → Spares d → Takes bytes_cmp a d None b → IsRow b ns
  stepped b d spares takes = record {
    row = subst (λ (v : KeptView). AreInRow ns v.drawn) (sym takes.guesses) r.row;
    opens = t.opens ∙ append-nil a.opens ∙ r.opens;
    struck = ap (λ (v : KeptView). v.struck) takes.guesses ∙ r.struck;
    few = subst (λ (v : KeptView). length ns ≤ v.limit) (sym takes.guesses) r.few;
    limit = subst (λ (v : KeptView). v.limit ≤ 128) (sym takes.guesses) r.limit;
    look = λ n. t.look (batch_key n) ∙ unwritten t.effect.written (batch_key n) (look_at bytes_cmp a.slots (batch_key n)) (spared n) ∙ r.look n;
    log = λ n. kept b ns a.guesses.drawn n _ r.row
        (ap (λ c. log_at bytes_cmp a.slots (batch_key n) ++ noted c (step_tags (undo_state_of bytes_cmp a) (marked_effect (again bytes_cmp) None (Ok t.effect))) (look_at bytes_cmp a.slots (batch_key n)) []) (spared n)
        ∙ append-nil (log_at bytes_cmp a.slots (batch_key n)) ∙ r.log n)
        (t.logs (batch_key n));
  } where
    t : MergedTakes (again bytes_cmp) (machine_of bytes_cmp a (status_in ns)) (record { deed = d; guess = None }) (machine_of bytes_cmp b (status_in ns))
    t = takes.takes (status_in ns) agrees

    did : effect_of (look_at bytes_cmp a.slots) d ≡ t.effect
    did = ap (ok_or t.effect) (sym (performs (look_at bytes_cmp a.slots) d) ∙ t.accepted)

    spared : (n : ℕ) → is_in bytes_cmp (map (λ w. w.0) t.effect.written) (batch_key n) ≡ false
    spared n = ap (λ (f : Effect (List ℕ) V (ℕ × O)). is_in bytes_cmp (map (λ w. w.0) f.written) (batch_key n)) (sym did) ∙ spares n

  -- the next guess was drawn
  pub drew : (b : Parts (List ℕ) V O) (n : ℕ) → n ≡ a.guesses.drawn + 1 → length ns < a.guesses.limit → Takes bytes_cmp a (opening n) (Some n) b → IsRow b (ns ++ n ∷ [])
  drew b n next less takes = record {
    row = subst (λ m. AreInRow (ns ++ n ∷ []) m) (next ∙ sym (ap (λ (v : KeptView). v.drawn) takes.guesses)) more;
    opens = t.opens ∙ (λ i. r.opens i ++ (n, tags i) ∷ []) ∙ alone_more ns n;
    struck = ap (λ (v : KeptView). v.struck) takes.guesses ∙ r.struck;
    few = subst (λ (v : KeptView). length (ns ++ n ∷ []) ≤ v.limit) (sym takes.guesses) (let many = length-append ns (n ∷ []) in omega (arith, many, less));
    limit = subst (λ (v : KeptView). v.limit ≤ 128) (sym takes.guesses) r.limit;
    look = λ m. t.look (batch_key m) ∙ ap (λ (f : Effect (List ℕ) V (ℕ × O)). written_value bytes_cmp f.written (batch_key m) (look_at bytes_cmp a.slots (batch_key m))) (sym did)
        ∙ ap (cond (eq_by_cmp bytes_cmp (batch_key m) (batch_key n)) None) (r.look m) ∙ neither (eq_by_cmp bytes_cmp (batch_key m) (batch_key n));
    log = λ m. kept b (ns ++ n ∷ []) n m _ more
        ((λ i. r.log m i ++ noted (writes m i) (tags i) (r.look m i) []) ∙ notes_more m ns n)
        (t.logs (batch_key m));
  } where
    more : AreInRow (ns ++ n ∷ []) n
    more = longer ns a.guesses.drawn n r.row next

    t : MergedTakes (again bytes_cmp) (machine_of bytes_cmp a (status_in ns)) (record { deed = opening n; guess = Some n }) (machine_of bytes_cmp b (with_drawn (Some n) (status_in ns)))
    t = takes.takes (status_in ns) agrees

    did : effect_of (look_at bytes_cmp a.slots) (opening n) ≡ t.effect
    did = ap (ok_or t.effect) t.accepted

    neither : (c : Bool) → cond {A = Option V} c None None ≡ None
    neither true = refl
    neither false = refl

    own : UndoState (List ℕ) V
    own = undo_state_of bytes_cmp a

    writes : (m : ℕ) → is_in bytes_cmp (map (λ w. w.0) t.effect.written) (batch_key m) ≡ (n % 128 == m % 128)
    writes m =
        ap (λ (f : Effect (List ℕ) V (ℕ × O)). is_in bytes_cmp (map (λ w. w.0) f.written) (batch_key m)) (sym did)
        ∙ ap (λ c. c || false) (same_key m n) ∙ or-false (n % 128 == m % 128)

    tests : (g : ℕ) → is_tag own (marked_effect (again {V = V} {O = O} bytes_cmp) (Some n) (Ok (effect_of (look_at bytes_cmp a.slots) (opening n)))) g ≡ (n == g)
    tests g =
        ap (λ log. (n == g) || (has g (last_tags [] log) || false)) (r.log n ∙ none_before ns a.guesses.drawn n r.row next (let limit = r.limit in omega (arith, less, limit)))
        ∙ or-false (n == g)

    tags : step_tags own (marked_effect (again bytes_cmp) (Some n) (Ok t.effect)) ≡ n ∷ []
    tags =
        ap (λ (f : Effect (List ℕ) V (ℕ × O)). step_tags own (marked_effect (again {V = V} {O = O} bytes_cmp) (Some n) (Ok f))) (sym did)
        ∙ ap (λ os. filter (is_tag own (marked_effect (again {V = V} {O = O} bytes_cmp) (Some n) (Ok (effect_of (look_at bytes_cmp a.slots) (opening n))))) (numbers os ++ n ∷ [])) r.opens
        ∙ ap (λ gs. filter (is_tag own (marked_effect (again {V = V} {O = O} bytes_cmp) (Some n) (Ok (effect_of (look_at bytes_cmp a.slots) (opening n))))) (gs ++ n ∷ [])) (numbers_alone ns)
        ∙ only_new _ n ns tests (not_beyond ns a.guesses.drawn n r.row (omega (arith, next)))

-- the step that draws the next guess changes nothing that keys have
pub looks_as_before : {V O : Type 0} (a b : Parts (List ℕ) V O) (ns : List ℕ) (n : ℕ) → IsRow a ns → Takes bytes_cmp a (opening n) (Some n) b → (k : List ℕ) → look_at bytes_cmp b.slots k ≡ look_at bytes_cmp a.slots k
looks_as_before a b ns n r takes k =
    t.look k
    ∙ ap (λ (f : Effect (List ℕ) _ (ℕ × _)). written_value bytes_cmp f.written k (look_at bytes_cmp a.slots k)) (sym did)
    ∙ elim (eq_by_cmp bytes_cmp k (batch_key n)) as (λ c. eq_by_cmp bytes_cmp k (batch_key n) ≡ c → cond c None (look_at bytes_cmp a.slots k) ≡ look_at bytes_cmp a.slots k) [
      | true ↦ λ is. sym (ap (look_at bytes_cmp a.slots) ((same_bytes k (batch_key n)).0 is) ∙ r.look n)
      | false ↦ λ _. refl
    ] refl where
      t : MergedTakes (again bytes_cmp) (machine_of bytes_cmp a (status_in ns)) (record { deed = opening n; guess = Some n }) (machine_of bytes_cmp b (with_drawn (Some n) (status_in ns)))
      t = takes.takes (status_in ns) (agrees a ns r)

      did : effect_of (look_at bytes_cmp a.slots) (opening n) ≡ t.effect
      did = ap (ok_or t.effect) t.accepted

module _ {V O : Type 0} (a b : Parts (List ℕ) V O) (n : ℕ) (ns : List ℕ) (r : IsRow a (n ∷ ns)) where
  fewer : length ns ≤ a.guesses.limit
  fewer = let few = r.few in omega (arith, few)

  -- the first guess was committed
  pub committed_row : Commits bytes_cmp a n b → IsRow b ns
  committed_row commits = record {
    row = subst (λ (v : KeptView). AreInRow ns v.drawn) (sym commits.guesses) r.row.1;
    opens = commits.opens ∙ ap (still_open n) r.opens ∙ first_committed n ns once;
    struck = ap (λ (v : KeptView). v.struck) commits.guesses ∙ r.struck;
    few = subst (λ (v : KeptView). length ns ≤ v.limit) (sym commits.guesses) fewer;
    limit = subst (λ (v : KeptView). v.limit ≤ 128) (sym commits.guesses) r.limit;
    look = λ m. t.look (batch_key m) ∙ r.look m;
    log = λ m. kept a (n ∷ ns) r b ns a.guesses.drawn m _ r.row.1 (ap (committed n) (r.log m) ∙ notes_committed n m ns once) (t.logs (batch_key m));
  } where
    once : has n ns ≡ false
    once = not_again n ns a.guesses.drawn r.row

    t : MergedCommits (machine_of bytes_cmp a (status_in (n ∷ ns))) n (machine_of bytes_cmp b (with_status n StatusCommitted (status_in (n ∷ ns))))
    t = commits.commits (status_in (n ∷ ns)) (agrees a (n ∷ ns) r)

  -- it failed
  pub failed_row : FailsIn bytes_cmp a n b → IsRow b ns
  failed_row fails = record {
    row = subst (λ (v : KeptView). AreInRow ns v.drawn) (sym fails.guesses) r.row.1;
    opens = fails.opens ∙ ap (not_struck n) r.opens ∙ first_failed n ns once;
    struck = ap (λ (v : KeptView). v.struck) fails.guesses ∙ (λ i. r.struck i ++ strike i);
    few = subst (λ (v : KeptView). length ns ≤ v.limit) (sym fails.guesses) fewer;
    limit = subst (λ (v : KeptView). v.limit ≤ 128) (sym fails.guesses) r.limit;
    look = λ m. t.state.look (batch_key m) ∙ (λ i. unwound n (r.log m i) (r.look m i)) ∙ never_there n m (n ∷ ns);
    log = λ m. t.state.logs (batch_key m) ∙ ap (cut n) (r.log m) ∙ notes_cut n m ns a.guesses.drawn r.row (let few = r.few in let limit = r.limit in omega (arith, few, limit));
  } where
    once : has n ns ≡ false
    once = not_again n ns a.guesses.drawn r.row

    strike : struck_with n a.opens ≡ []
    strike = ap (struck_with n) r.opens ∙ strikes_none n (n ∷ ns)

    t : Fails (machine_of bytes_cmp a (status_in (n ∷ ns))) n (machine_of bytes_cmp b (with_failure n a.opens (status_in (n ∷ ns))))
    t = fails.fails (status_in (n ∷ ns)) (agrees a (n ∷ ns) r)
