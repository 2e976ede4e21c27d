-- All that a store did, told to the machine of records.
use Rattle.sk_durable.proofs.Names.{arith, ◌≡◌, ℕ, Bool, true, false, List, [], ◌∷◌, ◌++◌, length, map, Option, Some}
use Rattle.sk_durable.proofs.Names.{None, inl, inr, refl, sym, ap, subst, if◌then◌else◌, option_or, Status, told_more}
use Rattle.sk_durable.proofs.Names.{bytes_cmp, IsSame, Queued, frame_refused, is_full, Begins, Logged, cut_kept}
use Rattle.sk_durable.proofs.Names.{word_kept, IsNumbered, all_same, Work, Out, NotDone, Asker, IsNotDone, Kernel}
use Rattle.sk_durable.proofs.Names.{MayDraw, StoreView, Call, Connects, HangsUp, Frees, Hears, Carries, Declines}
use Rattle.sk_durable.proofs.Names.{Tells, Drops, Refuses, Hands, DrawsGuess, Sends, Turns, Learns, Cuts, Stops}
use Rattle.sk_durable.proofs.Names.{Decides, Rests, Does, Serves, carried, carried_by, decided, decided_by}
use Rattle.std.proofs.lemmas.Bool.Decides.{nat_tests}
use Rattle.std.proofs.lemmas.Grind.{flat_map-append}
use Rattle.sk_batches.specs.declared.refusal.Refusal.TheVariants as queued
use Rattle.sk_batched.specs.declared.batched.Outcome.TheVariants.{Refused}
use Rattle.sk_durable.specs.declared.refusal.NotDone.TheVariants as undone
use Rattle.sk_durable.proofs.Carried.{carried_out}
use Rattle.sk_durable.proofs.Decided.{logged, refused, sent}
use Rattle.sk_durable.proofs.Inside.{drawn, drawn_store, idle, let_out, same, still}
use Rattle.sk_durable.proofs.Machines.{Agree, led_on, machine, InStep, Led, Machine}

-- no more is refused, so the open batch has or gets its guess
not_full : (o : Option Queued) (b : Bool) → option_or o (if b then Some queued.Busy else None) ≡ None → b ≡ false
not_full None true is = cc
not_full None false is = refl
not_full (Some why) b is = cc

module _ (told : Out) (a : StoreView) (status : ℕ → Option Status)
    (are : Agree a.batched.kernel status) (known : InStep a.batched) where
  abbrev x : Machine
  x = machine a.batched.kernel status

  -- the queue alone is another
  requeued : (s : StoreView) → s.batched.kernel ≡ a.batched.kernel → IsNumbered a.batched.queue s.batched.queue
      → s.batched.begun ≡ a.batched.begun → Led told told x [] [] s
  requeued s kernel numbered begun = idle told a status are known s
      (subst (λ (k : Kernel). IsSame bytes_cmp a.batched.kernel.parts k.parts) (sym kernel)
      (all_same bytes_cmp a.batched.kernel.parts))
      numbered begun

  -- the guess of the open batch is drawn, and nothing else is seen to change
  begins : (s : StoreView) → is_full a.batched ≡ false → Begins a.batched s.batched → Led told told x [] [] s
  begins s room (draws, queue, begun) =
      grind (
        arith,
        nat_tests,
        drawn told a status are known s.batched.kernel room draws,
        led_on told told told,
        drawn_store a s.batched.kernel,
        idle told (drawn_store a s.batched.kernel),
        all_same bytes_cmp s.batched.kernel.parts,
      )

  may_draw : (s : StoreView) → MayDraw a.batched s.batched → Led told told x [] [] s
  may_draw s (inl stays) = still told a status are known s stays
  may_draw s (inr draws) = begins s draws.0 draws.1

  -- nothing of some work is done
  not_done : (s : StoreView) (why : NotDone) (asker : Asker) (work : Work)
      → IsNotDone why a.batched asker work s.batched → Led told told x [] [] s
  not_done s undone.Memory asker work draws = may_draw s draws
  not_done s other asker work (known_keys, knows, against, stays) = still told a status are known s stays

-- what was taken out after a call
abbrev pub outs_by : Call → Out → Out
outs_by (Tells t ticket answer) told = told_more t (ticket, answer) told
outs_by (Drops t ticket answer) told = told_more t (ticket, answer) told
outs_by other told = told

abbrev pub outs_from : Out → List Call → Out
outs_from told [] = told
outs_from told (c ∷ cs) = outs_from (outs_by c told) cs

-- where each call leads
pub call : (told : Out) (a : StoreView) (status : ℕ → Option Status) → Agree a.batched.kernel status → InStep a.batched
    → (s : StoreView) (c : Call) → Does a c s
    → Led told (outs_by c told) (machine a.batched.kernel status) (carried_by c) (decided_by c) s
call told a status are known s (Connects t) (channel, past, most, connects, is) = same told a status are known s is.1
call told a status are known s (HangsUp t) (hangs, is) = same told a status are known s is.1
call told a status are known s (Frees t) (none, frees, is) = same told a status are known s is.1
call told a status are known s (Hears t bytes) (passes, is) = same told a status are known s is.1
call told a status are known s (Carries t bytes ask asked answer rests) (none, from, asks, done, is) =
    let seen : StoreView = record a { batched = done.seen } in
    let one = still told a status are known seen done.still in
    let two = carried_out told seen one.status one.agrees one.known s asked answer rests done.free done.carries
    done.told in
    subst (λ u. Led told told (machine a.batched.kernel status)
    (carried_by (Carries u bytes ask asked answer rests)) [] s) (sym from)
    (led_on told told told (machine a.batched.kernel status) []
    (carried_by (Carries asked.channel bytes ask asked answer rests)) [] [] seen s one two)
call told a status are known s (Declines t bytes ask ticket why) (asks, (seen, stays, work, is_for, not), is) =
    let mid : StoreView = record a { batched = seen } in
    let one = still told a status are known mid stays in
    led_on told told told (machine a.batched.kernel status) [] [] [] [] mid s one
    (not_done told mid one.status one.agrees one.known s why (record { channel = t; ticket = ticket }) work not)
call told a status are known s (Tells t ticket answer) (may, passes, out, queue, begun, is) =
    let_out told a status are known s t ticket answer out queue begun
call told a status are known s (Drops t ticket answer) (gone, out, queue, begun, is, places) =
    let_out told a status are known s t ticket answer out queue begun
call told a status are known s (Refuses t ticket) (bound, passes, is) = same told a status are known s is.1
call told a status are known s (Hands t bytes) (passes, is) = same told a status are known s is.1
call told a status are known s DrawsGuess (room, draws, is, places) = begins told a status are known s room draws
call told a status are known s (Sends sealed records) (room, filled, (none, draws, begun, framed), these, is) =
    let free = not_full (frame_refused a.batched.queue a.places (length room)) (is_full a.batched) none in
    let one = drawn told a status are known s.batched.kernel free draws in
    led_on told told told (machine a.batched.kernel status) [] [] [] [] (drawn_store a s.batched.kernel) s one
    (sent told (drawn_store a s.batched.kernel) one.status one.agrees one.known s refl refl framed.2 begun)
call told a status are known s Turns (segment, next, is) =
    same told a status are known s (ap (λ (b : StoreView). b.batched) is)
call told a status are known s (Learns frame stage) (stages, awaited, is) =
    requeued told a status are known s (ap (λ (b : StoreView). b.batched.kernel) is)
    (word_kept frame stage a.batched.queue s.batched.queue (ap (λ (b : StoreView). b.batched.queue) is))
    (ap (λ (b : StoreView). b.batched.begun) is)
call told a status are known s (Cuts cut) (going, due, (segment, next, is)) =
    requeued told a status are known s (ap (λ (b : StoreView). b.batched.kernel) is)
    (cut_kept cut a.batched.queue s.batched.queue (ap (λ (b : StoreView). b.batched.queue) is))
    (ap (λ (b : StoreView). b.batched.begun) is)
call told a status are known s Stops (going, due, is) =
    requeued told a status are known s (ap (λ (b : StoreView). b.batched.kernel) is) (
      ap (λ (b : StoreView). map (λ c. c.number) b.batched.queue.batches) is,
      ap (λ (b : StoreView). b.batched.queue.number) is,
    )
    (ap (λ (b : StoreView). b.batched.begun) is)
call told a status are known s (Decides (Logged n)) ((decides, commits, queue, begun), is, places) =
    logged told a status are known s n decides commits queue begun
call told a status are known s (Decides (Refused n keys)) ((decides, fails, tells, queue, begun), is, places) =
    refused told a status are known s n decides fails queue begun
call told a status are known s Rests (stays, keeps, is) = still told a status are known s stays

-- where all of them lead
pub calls : (told : Out) (a : StoreView) (status : ℕ → Option Status) → Agree a.batched.kernel status → InStep a.batched
    → (cs : List Call) (s : StoreView) → Serves a cs s
    → Led told (outs_from told cs) (machine a.batched.kernel status) (carried cs) (decided cs) s
calls told a status are known [] s is =
    subst (Led told told (machine a.batched.kernel status) [] []) is (same told a status are known a refl)
calls told a status are known (c ∷ cs) s (m, does, rest) =
    let one = call told a status are known m c does in
    led_on told (outs_by c told) (outs_from told (c ∷ cs)) (machine a.batched.kernel status) (carried_by c) (carried cs)
    (decided_by c) (decided cs) m s one
    (calls (outs_by c told) m one.status one.agrees one.known cs s rest)

-- ---- calls in turn

-- what it was between them
pub between : (a b : StoreView) (cs ds : List Call) → Serves a (cs ++ ds) b
    → (m : StoreView) × Serves a cs m × Serves m ds b
between a b [] ds serves = (a, refl, serves)
between a b (c ∷ cs) ds (n, does, more) = let at = between n b cs ds more in (at.0, (n, does, at.1), at.2)

pub carried_behind : (cs ds : List Call) → carried (cs ++ ds) ≡ carried cs ++ carried ds
carried_behind cs ds = flat_map-append carried_by cs ds

pub decided_behind : (cs ds : List Call) → decided (cs ++ ds) ≡ decided cs ++ decided ds
decided_behind cs ds = flat_map-append decided_by cs ds
