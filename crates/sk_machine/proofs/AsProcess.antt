-- Steps that depend on just what their process depends on.
use Rattle.sk_machine.proofs.Names.{both_ways, or_left, ◌≡◌, ℕ, suc, ◌<◌, ◌≤◌, length, true, List, [], ◌∷◌, ◌++◌, None}
use Rattle.sk_machine.proofs.Names.{Result, Ok, Err, inl, inr, refl, sym, ◌∙◌, ap, subst, arith, list_any}
use Rattle.sk_machine.proofs.Names.{slice_index_or, eq_by_cmp_equiv, nat_cmp, eq_by_cmp, or_cases, status_since}
use Rattle.sk_machine.proofs.Names.{or_right, true≢false, false≢true, eqb-true, append-nil, list_any-append, above, has}
use Rattle.sk_machine.proofs.Names.{IsTidy, Open, numbers, step_tags, entity_cmp, Entity, Proc, Sig, entity_total}
use Rattle.sk_machine.proofs.Names.{entity_exact, OpenGuess, opens_of, tied_is, Input, is_empty, SlotMap, TerminalMap}
use Rattle.sk_machine.proofs.Names.{look_at, undo_state, PlanView, LooksView, Nowhere, Scripts, looked_at, read_by}
use Rattle.sk_machine.proofs.Names.{signals_read, written_by, looked, looks_of, seen_with, Plan, said_in_plan}
use Rattle.sk_machine.proofs.Names.{texts_after, Private, written_is, changed_are, tags_in, with_tags, AllExact, Covers}
use Rattle.sk_machine.proofs.Names.{IsEnough, plain, RestAlike, Parts, undo_state_of, planned_effect, Performed}
use Rattle.sk_machine.proofs.Names.{entities_of, machine_of, CanTake, HasTaken, RestsAsProcess, HasPerformed}
use Rattle.sk_machine.proofs.Names.{CanPerformWith, planned_writes, MergedTakes}
use Rattle.std.specs.declared.alloc.AllocError.{AllocError}
use Rattle.std.specs.List.Sorted.{IsStrictlySortedBy}
use Rattle.sk_script.specs.declared.instruction.Input.TheVariants as inputs
use Rattle.sk_machine.proofs.Becomes.{same_parts, takes_of}
use Rattle.sk_machine.proofs.Given.{on_ok, on_err}
use Rattle.sk_machine.proofs.Joins.{can_perform}
use Rattle.sk_machine.proofs.Listed.{exact_as, performed_exact}
use Rattle.sk_machine.proofs.Tags.{tags_are}
use Rattle.std.proofs.lemmas.Bool.Decides.{nat_tests}

-- ---- rising lists
next_above : (x y : ℕ) (xs : List ℕ) → IsStrictlySortedBy nat_cmp (x ∷ xs) → has y xs ≡ true → x < y
unfolding IsStrictlySortedBy
next_above x y xs s here = above x xs y s.0 here

rest_rises : (x : ℕ) (xs : List ℕ) → IsStrictlySortedBy nat_cmp (x ∷ xs) → IsStrictlySortedBy nat_cmp xs
unfolding IsStrictlySortedBy
rest_rises x xs s = s.1

itself : (g : ℕ) (gs : List ℕ) → has g (g ∷ gs) ≡ true
itself g gs = grind (arith, nat_tests)

-- what is behind the first of a list is behind the first of one that has all of it
rest_in : (x y : ℕ) (xs ys : List ℕ) → IsStrictlySortedBy nat_cmp (x ∷ xs) → IsStrictlySortedBy nat_cmp (y ∷ ys)
    → ((g : ℕ) → has g (x ∷ xs) ≡ true → has g (y ∷ ys) ≡ true) → (g : ℕ) → has g xs ≡ true → has g ys ≡ true
rest_in x y xs ys s t h g here = grind (arith, nat_tests, h g, h x, next_above x g xs s, next_above y x ys t)

-- a rising list is no longer than one that has all of it
no_longer : (xs ys : List ℕ) → IsStrictlySortedBy nat_cmp xs → IsStrictlySortedBy nat_cmp ys → ((g : ℕ) → has g xs ≡ true → has g ys ≡ true) → length xs ≤ length ys
no_longer [] ys s t h = omega arith
no_longer (x ∷ xs) [] s t h = absurd (false≢true (h x (itself x xs)))
no_longer (x ∷ xs) (y ∷ ys) s t h =
    let rest = no_longer xs ys (rest_rises x xs s) (rest_rises y ys t) (rest_in x y xs ys s t h) in omega arith

-- and is the same where it is as long
pub as_long : (xs ys : List ℕ) → IsStrictlySortedBy nat_cmp xs → IsStrictlySortedBy nat_cmp ys → ((g : ℕ) → has g xs ≡ true → has g ys ≡ true) → length xs ≡ length ys → xs ≡ ys
as_long [] [] s t h len = refl
as_long [] (y ∷ ys) s t h len = absurd (omega arith)
as_long (x ∷ xs) [] s t h len = absurd (omega arith)
as_long (x ∷ xs) (y ∷ ys) s t h len =
    elim (or_cases _ _ (h x (itself x xs))) [
      | inl at ↦
          let same = sym (eqb-true y x at) in
          let rest = as_long xs ys (rest_rises x xs s) (rest_rises y ys t) (rest_in x y xs ys s t h) (omega arith) in
          (λ i. same i ∷ rest i)
      | inr behind ↦
          let few =
          no_longer (x ∷ xs) ys s (rest_rises y ys t)
          (λ g here.
          elim (or_cases _ _ here) [
            | inl is ↦ subst (λ k. has k ys ≡ true) (eqb-true x g is) behind
            | inr later ↦ rest_in x y xs ys s t h g later
          ]) in
          absurd (omega arith)
    ]

pub count_is : (os : List (OpenGuess Entity)) → length (numbers (opens_of os)) ≡ length os
count_is [] = refl
count_is (o ∷ os) = ap suc (count_is os)

-- ---- what depends on no more
pub covers_one : (tags : List ℕ) (x : Entity) (base : Entity → List ℕ) → ((g : ℕ) → has g (base x) ≡ true → has g tags ≡ true) → Covers tags (x ∷ []) base
covers_one tags x base h e g there rests = grind (arith, h g, tied_is entity_total entity_exact e x)

-- where it depends on one
pub one_within : (xs own : List ℕ) (one id : ℕ) (x : Entity) (base : Entity → List ℕ) → length xs ≡ 1 → one ≡ slice_index_or xs 0 one → one ≡ id → xs ≡ own → own ≡ base x → Covers (id ∷ []) (x ∷ []) base
one_within [] own one id x base len at is same there = absurd (omega arith)
one_within (y ∷ []) own one id x base len at is same there =
    let whole : base x ≡ id ∷ [] = sym there ∙ sym same ∙ ap (λ n. n ∷ []) (sym at ∙ is) in
    covers_one (id ∷ []) x base (λ g here. subst (λ ts. has g ts ≡ true) whole here)
one_within (y ∷ z ∷ xs) own one id x base len at is same there = absurd (omega arith)

-- where it depends on nothing
pub none_within : (tags own : List ℕ) (x : Entity) (base : Entity → List ℕ) → is_empty own ≡ true → own ≡ base x → Covers tags (x ∷ []) base
none_within tags [] x base none is = covers_one tags x base (λ g here. absurd (false≢true (ap (has g) is ∙ here)))
none_within tags (t ∷ own) x base none is = absurd (true≢false (sym none))

pub covers_both : (tags : List ℕ) (xs ys : List Entity) (base : Entity → List ℕ) → Covers tags xs base → Covers tags ys base → Covers tags (xs ++ ys) base
covers_both tags xs ys base a b e g there rests =
    elim (or_cases _ _ (sym (list_any-append (eq_by_cmp entity_cmp e) xs ys) ∙ there)) [ inl first ↦ a e g first rests | inr later ↦ b e g later rests ]

pub covers_none : (tags : List ℕ) (base : Entity → List ℕ) → Covers tags [] base
covers_none tags base e g there rests = absurd (false≢true there)

pub covers_two : (tags : List ℕ) (x y : Entity) (base : Entity → List ℕ) → Covers tags (x ∷ []) base → Covers tags (y ∷ []) base → Covers tags (x ∷ y ∷ []) base
covers_two tags x y base = covers_both tags (x ∷ []) (y ∷ []) base

pub covers_reads : (tags : List ℕ) (pid : ℕ) (input : Input) (looks : LooksView) (base : Entity → List ℕ) → base (Proc pid) ≡ tags → Covers tags (signals_read pid input) base → Covers tags (looked_at looks) base
    → Covers tags (read_by pid input looks) base
covers_reads tags pid input looks base own signals looked =
    covers_both tags (Proc pid ∷ signals_read pid input) (looked_at looks) base
    (covers_both tags (Proc pid ∷ []) (signals_read pid input) base (covers_one tags (Proc pid) base (λ g here. ap (has g) (sym own) ∙ here)) signals) looked

pub alike_one : (tags : List ℕ) (x : Entity) (base : Entity → List ℕ) → base x ≡ tags → RestAlike tags (x ∷ []) base
alike_one tags x base own e there = grind (arith, tied_is entity_total entity_exact e x)

alike_both : (tags : List ℕ) (xs ys : List Entity) (base : Entity → List ℕ) → RestAlike tags xs base → RestAlike tags ys base → RestAlike tags (xs ++ ys) base
alike_both tags xs ys base a b e there =
    elim (or_cases _ _ (sym (list_any-append (eq_by_cmp entity_cmp e) xs ys) ∙ there)) [ inl first ↦ a e first | inr later ↦ b e later ]

pub alike_two : (tags : List ℕ) (x y : Entity) (base : Entity → List ℕ) → base x ≡ tags → base y ≡ tags → RestAlike tags (x ∷ y ∷ []) base
alike_two tags x y base a b = alike_both tags (x ∷ []) (y ∷ []) base (alike_one tags x base a) (alike_one tags y base b)

pub alike_four : (tags : List ℕ) (x y z w : Entity) (base : Entity → List ℕ) → base x ≡ tags → base y ≡ tags → base z ≡ tags → base w ≡ tags → RestAlike tags (x ∷ y ∷ z ∷ w ∷ []) base
alike_four tags x y z w base a b c d = alike_both tags (x ∷ y ∷ []) (z ∷ w ∷ []) base (alike_two tags x y base a b) (alike_two tags z w base c d)

-- ---- where a process depends on all that is open, or nothing is
module _ (m : SlotMap) (os : List Open) (tidy : IsTidy (undo_state m os)) where
  pub open_covered : (tags : List ℕ) (es : List Entity) → tags ≡ numbers os → Covers tags es (tags_in m)
  open_covered tags es all e g there rests = ap (has g) all ∙ tidy.known e g rests

  nothing_at : os ≡ [] → (e : Entity) (ts : List ℕ) → tags_in m e ≡ ts → ts ≡ []
  nothing_at none e [] is = refl
  nothing_at none e (t ∷ ts) is = absurd (false≢true (ap (λ ks. has t (numbers ks)) (sym none) ∙ tidy.known e t (ap (has t) is ∙ itself t ts)))

  untagged : os ≡ [] → (e : Entity) → tags_in m e ≡ []
  untagged none e = nothing_at none e (tags_in m e) refl

  pub none_open : os ≡ [] → (pid : ℕ) (input : Input) (plan : Plan) → RestsAsProcess m [] pid input plan
  unfolding IsStrictlySortedBy
  none_open none pid input plan = record {
    own = untagged none (Proc pid);
    reads = open_covered [] (read_by pid input (looked (looks_of plan))) (sym (ap numbers none));
    writes = λ e there. untagged none e;
    rising = tt;
  }

-- ---- where a process goes on with the guesses that it depends on
open_count : (os : List Open) → length (numbers os) ≡ length os
open_count [] = refl
open_count (o ∷ os) = ap suc (open_count os)

-- as many as are undecided are all
pub all_enough : (m : SlotMap) (os : List Open) (pid all : ℕ) → IsTidy (undo_state m os) → IsStrictlySortedBy nat_cmp (numbers os) → all ≡ length os → IsEnough all pid m
all_enough m os pid all tidy opens_rise count = λ many rises.
    let tags = tags_in m (Proc pid) in
    let known : (g : ℕ) → has g tags ≡ true → has g (numbers os) ≡ true = λ g here. tidy.known (Proc pid) g here in
    let few = no_longer tags (numbers os) rises opens_rise known in
    let len = open_count os in
    let as_many : length tags ≡ length (numbers os) = omega arith in
    open_covered m os tidy tags (Sig pid ∷ []) (as_long tags (numbers os) rises opens_rise known as_many)

-- a private step reads no more than its signals beside its process
pub reads_on : (pid : ℕ) (input : Input) (base : Entity → List ℕ) → Covers (base (Proc pid)) (Sig pid ∷ []) base → Covers (base (Proc pid)) (read_by pid input (looked (looks_of Private))) base
reads_on pid input base signals = covers_reads (base (Proc pid)) pid input Nowhere base refl (when input) (covers_none (base (Proc pid)) base) where
  when : (input : Input) → Covers (base (Proc pid)) (signals_read pid input) base
  when inputs.None = signals
  when other = covers_none (base (Proc pid)) base

-- ---- the tags of the step
covers_any : (tags : List ℕ) (base : Entity → List ℕ) (g : ℕ) (es : List Entity) → Covers tags es base → list_any (λ e. has g (base e)) es ≡ true → has g tags ≡ true
covers_any tags base g [] covers rests = absurd (false≢true rests)
covers_any tags base g (x ∷ es) covers rests =
    let later : list_any (λ e. has g (base e)) es ≡ true → has g tags ≡ true =
    covers_any tags base g es (λ e h there. covers e h (or_right _ _ there)) in
    grind (arith, covers x g, (eq_by_cmp_equiv entity_total).refl x)

alike_covers : (tags : List ℕ) (base : Entity → List ℕ) (es : List Entity) → RestAlike tags es base → Covers tags es base
alike_covers tags base es alike e g there rests = ap (has g) (sym (alike e there)) ∙ rests

-- ---- the lists stay as they are
pub alike_exact : (tags : List ℕ) (es : List Entity) (base : Entity → List ℕ) → RestAlike tags es base → (os : List (OpenGuess Entity)) → AllExact base os → AllExact (with_tags entity_cmp tags es base) os
alike_exact tags es base alike os all = exact_as base (with_tags entity_cmp tags es base) (λ e. grind (arith, alike e)) os all

-- ---- a planned step of this kind
module _ (p : Parts) (scripts : Scripts) (pid : ℕ) (input : Input) (plan : Plan) (tags : List ℕ) (can : CanTake p scripts pid input plan) (alike : RestsAsProcess p.slots tags pid input plan) where
  abbrev seen : PlanView
  seen = seen_with (look_at p.slots) scripts pid input plan

  written_alike : RestAlike tags (written_by pid seen.beside) (tags_in p.slots)
  written_alike = subst (λ es. RestAlike tags es (tags_in p.slots)) (sym (written_is (look_at p.slots) scripts pid input plan)) alike.writes

  tags_same : tags ≡ step_tags (undo_state_of p) (planned_effect p (record { pid = pid; input = input; guess = None }) seen)
  tags_same =
      let base = tags_in p.slots in
      tags_are p (record { pid = pid; input = input; guess = None }) seen tags can.order.tidy
      (subst (IsStrictlySortedBy nat_cmp) (sym (append-nil (numbers p.opens))) can.order.rising) alike.rising
      (λ g. both_ways _ _
      (λ here. or_left _ _ (or_left _ _ (ap (has g) alike.own ∙ here)))
      (λ rests.
      elim (or_cases _ _ rests) [
        | inl r ↦ covers_any tags base g (read_by pid input seen.looks) alike.reads r
        | inr w ↦ covers_any tags base g (written_by pid seen.beside) (alike_covers tags base (written_by pid seen.beside) written_alike) w
      ]))

  pub can_with : CanPerformWith p.slots tags scripts pid input plan
  can_with = can_perform p scripts (record { pid = pid; input = input; guess = None }) plan tags can.planned can.order.tidy tags_same

  pub exact_after : (n : SlotMap) → Performed p.slots tags (planned_writes p.slots scripts pid input plan) n → (os : List (OpenGuess Entity)) → AllExact (tags_in p.slots) os → AllExact (tags_in n) os
  exact_after n did os all =
      let ws = planned_writes p.slots scripts pid input plan in
      performed_exact p.slots n tags (entities_of ws) ws refl can_with.clean did os
      (alike_exact tags (entities_of ws) (tags_in p.slots) (subst (λ es. RestAlike tags es (tags_in p.slots)) (sym (changed_are (look_at p.slots) pid seen)) written_alike) os all)

  pub taken_after : (b : Parts) → Performed p.slots tags (planned_writes p.slots scripts pid input plan) b.slots → b.opens ≡ p.opens → b.guesses ≡ p.guesses
      → b.texts ≡ texts_after p.texts tags (said_in_plan seen)
      → MergedTakes (plain scripts) (machine_of p) (record { pid = pid; input = input; guess = None }) (machine_of b)
  taken_after b did opens guesses texts =
      takes_of scripts p b (record { pid = pid; input = input; guess = None }) seen tags can.planned.accepted tags_same did
      (opens ∙ sym (append-nil p.opens)) (λ g. ap (λ v. status_since v g) guesses) texts

  -- where it was performed or not
  pub exact_either : (r : Result (Unit {0}) AllocError) (n : SlotMap) (before after : TerminalMap) → HasPerformed r p.slots tags scripts pid input plan n before after
      → (os : List (OpenGuess Entity)) → AllExact (tags_in p.slots) os → AllExact (tags_in n) os
  exact_either (Ok done) n before after h os all = exact_after n h.writes os all
  exact_either (Err why) n before after h os all = subst (λ x. AllExact (tags_in x) os) (sym h.unwritten) all

  pub taken_either : (r : Result (Unit {0}) AllocError) (b : Parts) → HasPerformed r p.slots tags scripts pid input plan b.slots p.texts b.texts → b.opens ≡ p.opens → b.guesses ≡ p.guesses
      → HasTaken r scripts pid input p b
  taken_either r b h opens guesses = record {
    ok = on_ok r h.writes h.says (λ writes says. taken_after b writes opens guesses says);
    guesses = guesses;
    err = on_err r h.unwritten h.unsaid (λ slots texts. same_parts b p slots opens guesses texts);
  }
