-- A new store that has carried out work which is in the log already is a new one with what the work leaves.
use Rattle.sk_durable.proofs.Names.{arith, ◌≡◌, ℕ, Bool, true, false, cond, List, [], ◌∷◌, ◌++◌, Option, Some, None}
use Rattle.sk_durable.proofs.Names.{Result, Ok, Err, inl, inr, refl, sym, ap, ◌∙◌, subst, ◌==◌, filter, eq-eqb}
use Rattle.sk_durable.proofs.Names.{MarkedEffect, written_value, released, MergedTakes, has, noted, marked_effect}
use Rattle.sk_durable.proofs.Names.{Effect, is_tag, numbers, step_tags, Status, none_left, AreStatuses, again}
use Rattle.sk_durable.proofs.Names.{effect_of, Deed, performs, look_at, log_at, said_at, Said, bytes_cmp, Takes}
use Rattle.sk_durable.proofs.Names.{machine_of, undo_state_of, IsSame, Parts, IsStill, all_same, Answer, Work, Have}
use Rattle.sk_durable.proofs.Names.{Written, after, comes_to, with_value, held, keys_of, Entries, bytes_same}
use Rattle.sk_durable.proofs.Names.{holds_written, stays_in_order, KnowsAll, names_reserved, free_after, work_free}
use Rattle.sk_durable.proofs.Names.{alone_work, more_known, store_knows, Limits, NotDone, Next, Asker, asked_by}
use Rattle.sk_durable.proofs.Names.{deed_now, has_now, Batches, IsNotRestored, Kernel, KnowsIfTold, LacksNone}
use Rattle.sk_durable.proofs.Names.{LetsOut, Restores, RestorePost, IsNew, StoreView}
use Rattle.std.proofs.lemmas.Bool.Decides.{nat_tests}
use Rattle.sk_durable.proofs.Tagged.{ok_or}
use Rattle.sk_replay.specs.Snapshot.{after_work}
use Rattle.sk_durable.specs.Works as works

abbrev Told : Type 0
Told = ℕ × Answer

abbrev State : Type 0
State = Parts (List ℕ) (List ℕ) Told

abbrev Done : Type 0
Done = Deed (List ℕ) (List ℕ) Told

-- ---- what is said of channels

nothing : {A P : Type 0} (x : A) (xs : List A) → x ∷ xs ≡ [] → P
nothing x xs is = cc

rest_of : {A : Type 0} (x y : A) (xs ys : List A) → x ∷ xs ≡ y ∷ ys → xs ≡ ys
rest_of x y xs ys is = cc

-- where no channel has any there is none
none_said : (xs : Said Told) → ((t : ℕ) → said_at xs t ≡ []) → xs ≡ []
none_said [] none = refl
none_said (x ∷ xs) none =
    nothing x (said_at xs x.0.0)
    (ap (λ b. cond b (x ∷ said_at xs x.0.0) (said_at xs x.0.0)) (sym (eq-eqb x.0.0 x.0.0 refl)) ∙ none x.0.0)

-- ---- what is written

written_is : (ws : Written) (has : Have) (key : List ℕ) → written_value bytes_cmp ws key (has key) ≡ after ws has key
written_is [] has key = refl
written_is (w ∷ ws) has key = grind (arith, nat_tests, bytes_same key w.0, written_is ws (with_value w.0 w.1 has) key)

-- ---- a step in a kernel in which no guess is undecided and nothing waits

not_noted : (b : Bool) (v : Option (List ℕ)) → noted b [] v [] ≡ []
not_noted true v = refl
not_noted false v = refl

-- no guess was drawn
abbrev no_status : ℕ → Option Status
no_status g = None

abbrev Shown : Type 0
Shown = Effect (List ℕ) (List ℕ) (ℕ × Told)

module _ (a b : State) (d : Done) (w : ℕ × Told) (says : d.said ≡ Some w) (opens : a.opens ≡ []) (said : a.said ≡ [])
    (log : (key : List ℕ) → log_at bytes_cmp a.slots key ≡ [])
    (are : AreStatuses a.guesses a.opens no_status) (takes : Takes bytes_cmp a d None b) where
  t : MergedTakes (again bytes_cmp) (machine_of bytes_cmp a no_status) (record { deed = d; guess = None })
      (machine_of bytes_cmp b no_status)
  t = takes.takes no_status are

  did : effect_of (look_at bytes_cmp a.slots) d ≡ t.effect
  did = ap (ok_or t.effect) (sym (performs (look_at bytes_cmp a.slots) d) ∙ t.accepted)

  abbrev left : MarkedEffect (List ℕ) (List ℕ) (ℕ × Told)
  left = marked_effect (again {V = List ℕ} {O = Told} bytes_cmp) None (Ok t.effect)

  abbrev tags : List ℕ
  tags = step_tags (undo_state_of bytes_cmp a) left

  no_tags : tags ≡ []
  no_tags = ap (λ os. filter (is_tag (undo_state_of bytes_cmp a) left) (numbers os ++ [])) opens

  look_after : (key : List ℕ)
      → look_at bytes_cmp b.slots key ≡ written_value bytes_cmp d.written key (look_at bytes_cmp a.slots key)
  look_after key = grind (arith, nat_tests, did)

  log_after : (key : List ℕ) → log_at bytes_cmp b.slots key ≡ []
  log_after key = grind (arith, nat_tests, no_tags, not_noted, none_left [] (log_at bytes_cmp b.slots key))

  opens_after : b.opens ≡ []
  opens_after = t.opens ∙ ap (λ os. os ++ []) opens

  -- only the answer is said
  said_after : (u : ℕ) → said_at b.said u ≡ cond (w.0 == u) ((w, []) ∷ []) []
  said_after u = grind (arith, nat_tests, did, no_tags)

  said_here : said_at b.said w.0 ≡ (w, []) ∷ []
  said_here = said_after w.0 ∙ ap (λ e. cond e ((w, []) ∷ []) []) (eq-eqb w.0 w.0 refl)

-- ---- the store

module _ (limits : Limits) (next : Next) (start : Entries) (a : StoreView) (new : IsNew limits next start a) where
  none_known : AreStatuses a.batched.kernel.parts.guesses a.batched.kernel.parts.opens no_status
  none_known = grind (arith, nat_tests)

  -- with what is seen as it was
  still_new : (c : Batches) → IsSame bytes_cmp a.batched.kernel.parts c.kernel.parts → c.queue ≡ a.batched.queue
      → c.begun ≡ a.batched.begun → IsNew limits next start (record a { batched = c })
  still_new c same queue begun = grind (arith, nat_tests)

  seen : (c : Kernel) → IsStill a.batched.kernel c → IsSame bytes_cmp a.batched.kernel.parts c.parts
  seen c (inl is) =
      let parts = a.batched.kernel.parts in
      subst (λ (k : Kernel). IsSame bytes_cmp parts k.parts) (sym is) (all_same bytes_cmp parts)
  seen c (inr still) = still.parts

  -- nothing was there to be dropped
  none_dropped : (b c : Batches) (channel : ℕ) (dropped : Option Told) → b.kernel.parts.said ≡ []
      → LetsOut channel dropped b c → c ≡ b
  none_dropped b c channel None none lets = lets.1
  none_dropped b c channel (Some told) none lets =
      let first = sym lets.0.first ∙ ap (λ xs. said_at xs channel) none in
      nothing ((channel, told), []) (said_at c.kernel.parts.said channel) first

  pub not_restored : (c : Batches) (why : NotDone) (asker : Asker) → IsNotRestored why asker a.batched c
      → IsNew limits next start (record a { batched = c })
  not_restored c why asker r =
      grind (
        arith,
        nat_tests,
        seen r.behind.kernel r.stays.kernel,
        none_dropped r.behind c asker.channel r.dropped,
        still_new r.behind,
      )

  -- ---- work is carried out

  module _ (work : Work) (free : names_reserved work ≡ false) where
    abbrev ws : Written
    ws = (comes_to (keys_of start) work (held start)).written

    same_have : has_now a.batched.kernel ≡ held start
    same_have i key = new.look key i

    knows_all : (known : List (List ℕ)) → LacksNone a.batched.kernel known → KnowsAll known (held start)
    knows_all known lacks = grind (arith, nat_tests)

    -- it comes to what it comes to by these entries
    comes_same : (known : List (List ℕ)) → KnowsIfTold a.batched.kernel work known
        → comes_to known work (has_now a.batched.kernel) ≡ comes_to (keys_of start) work (held start)
    comes_same known knows =
        grind (
          arith,
          nat_tests,
          same_have,
          knows_all known,
          more_known work known (keys_of start) (held start) new.none_reserved,
          store_knows start new.in_order,
          alone_work work known (keys_of start) (held start),
        )

    module _ (asker : Asker) (known : List (List ℕ)) (knows : KnowsIfTold a.batched.kernel work known) (b : Batches)
        (took : works.TakenIn false a.batched (asked_by asker known work) b) where
      abbrev d : Done
      d = deed_now a.batched.kernel (asked_by asker known work)

      abbrev answer : ℕ × Told
      answer = (asker.channel, (asker.ticket, (comes_to known work (has_now a.batched.kernel)).reply))

      abbrev old : State
      old = a.batched.kernel.parts

      look_behind : (key : List ℕ) → has_now b.kernel key ≡ held (after_work work start) key
      look_behind key =
          look_after old b.kernel.parts d answer refl new.opens new.said new.log none_known took.0 key
          ∙ written_is d.written (has_now a.batched.kernel) key
          ∙ (λ i. after ((comes_same known knows i).written) (same_have i) key)
          ∙ sym (holds_written ws start key)

      said_behind : (u : ℕ) → said_at b.kernel.parts.said u ≡ cond (asker.channel == u) ((answer, []) ∷ []) []
      said_behind u = said_after old b.kernel.parts d answer refl new.opens new.said new.log none_known took.0 u

      said_there : said_at b.kernel.parts.said asker.channel ≡ (answer, []) ∷ []
      said_there = said_here old b.kernel.parts d answer refl new.opens new.said new.log none_known took.0

      module _ (c : Batches) (told : Told) (lets : LetsOut asker.channel (Some told) b c) where
        none_left_of : (u : ℕ) → said_at c.kernel.parts.said u ≡ []
        none_left_of u = grind (arith, nat_tests, rest_of, said_there, said_behind u)

        let_go : IsNew limits next (after_work work start) (record a { batched = c })
        let_go = record {
          takes = new.takes;
          look = λ key. ap (λ (m : State). look_at bytes_cmp m.slots key) lets.0.same ∙ look_behind key;
          in_order = stays_in_order ws start new.in_order;
          none_reserved = λ key reserved.
              let free_ws = work_free work (keys_of start) (held start) free in
              holds_written ws start key ∙ free_after ws (held start) free_ws new.none_reserved key reserved;
          log = λ key.
              ap (λ (m : State). log_at bytes_cmp m.slots key) lets.0.same
              ∙ log_after old b.kernel.parts d answer refl new.opens new.said new.log none_known took.0 key;
          guesses = (new.guesses.0, ap (λ (m : State). m.guesses) lets.0.same ∙ took.0.guesses ∙ new.guesses.1);
          opens = ap (λ (m : State). m.opens) lets.0.same
              ∙ opens_after old b.kernel.parts d answer refl new.opens new.said new.log none_known took.0;
          said = none_said c.kernel.parts.said none_left_of;
          queue = lets.1 ∙ took.1 ∙ new.queue;
          begun = lets.2 ∙ took.2 ∙ new.begun;
          channels = new.channels;
          places = new.places;
        }

      -- the answer depends on nothing, so it was taken out
      let_out : (c : Batches) (dropped : Option Told) → LetsOut asker.channel dropped b c
          → IsNew limits next (after_work work start) (record a { batched = c })
      let_out c None lets = nothing answer [] (ap released (sym said_there) ∙ lets.0)
      let_out c (Some told) lets = let_go c told lets

    pub restored : (c : Batches) (asker : Asker) → Restores asker work a.batched c
        → IsNew limits next (after_work work start) (record a { batched = c })
    restored c asker r = let_out asker r.takes.known r.takes.knows r.behind r.takes.taken c r.dropped r.lets

-- what the call leaves
module _ (a : StoreView) (c : Batches) (asker : Asker) (work : Work) (free : names_reserved work ≡ false) where
  pub restores : (result : Result (Unit {0}) NotDone) → works.RestorePost asker work result a.batched c
      → RestorePost work result a (record a { batched = c })
  restores (Ok done) post = λ next start new. restored a.limits next start a new work free c asker post
  restores (Err why) post = λ next start new. not_restored a.limits next start a new c why asker post
