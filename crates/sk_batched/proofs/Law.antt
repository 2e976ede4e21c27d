-- Each call is told to the kernel inside as steps, guesses, commits and failures of one trace.
use Rattle.sk_batched.proofs.Names.{◌≡◌, ℕ, ◌+◌, ◌*◌, ◌<◌, Bool, true, false, not, ◌&&◌, List, [], ◌∷◌, ◌++◌, length}
use Rattle.sk_batched.proofs.Names.{map, Option, Some, Result, Ok, Err, inl, inr, refl, sym, ◌∙◌, ap, subst, ◌↔◌}
use Rattle.sk_batched.proofs.Names.{nat_le, slice_index_or, list_any, remove, eq_by_cmp, empty, true≢false, leb-false}
use Rattle.sk_batched.proofs.Names.{or_parts, or_from, false_from_ne_true, map-append, list_any-append, is_in, Step}
use Rattle.sk_batched.proofs.Names.{Ask, Effect, perform, with_read, System, Taken, KeptView, Token, IsPlainRun, Deed}
use Rattle.sk_batched.proofs.Names.{effect_of, Told, told_more, with_told, look_at, bytes_cmp, same_bytes, next_of}
use Rattle.sk_batched.proofs.Names.{Commits, FailsIn, Takes, KernelCall, Calls, Does, events_of, Hands, IsFirst, Parts}
use Rattle.sk_batched.proofs.Names.{IsSame, ByteView, QueueView, decided, left, Decision, Logged, Refused, batch_key}
use Rattle.sk_batched.proofs.Names.{is_reserved, capped, in_batch, is_full, opening, BatchedView, Draws, IsNew, open_if}
use Rattle.sk_batched.proofs.Names.{open_numbers, tokens_of, IsInStep, in_batches, kernel_calls, looking_at}
use Rattle.sk_batched.proofs.Names.{opens_first, BatchStep, Opens, InBatch, Call, Steps, LogsStep, IsRefused}
use Rattle.sk_batched.proofs.Names.{DrawsGuess, Sends, Hears, Cuts, Stops, Decides, LetsOut, Runs, BatchesAsPlain}
use Rattle.sk_batched.proofs.Names.{runs_whole, bytes_exact, bytes_total, get-empty}
use Rattle.sk_batched.proofs.Answering.{capped_small, still_parts}
use Rattle.sk_batched.proofs.Moves.{looks_as_before, Spares}
use Rattle.sk_batched.proofs.Queues.{batch_of, begins, cut_kept, decided_first, new_in_step, new_row, oldest_committed, oldest_failed, requeued, said_less, same_seen, step_taken, taken, word_kept, IsNumbered}
use Rattle.sk_record.specs.declared.status.Status.TheVariants as status_as
use Rattle.sk_batched.proofs.Decided.{commits_told, failures_told}
use Rattle.sk_batched.proofs.Same.{all_same, leads_from, same_machine, same_statuses, Leads}

-- ---- a step that looks at one key more
module _ {K V W F : Type 0} (look : K → Option V) (k : K) where
  abbrev with_look : Result (Effect K V W) F → Result (Effect K V W) F
  with_look (Ok f) = Ok (record { read = f.read ++ (k, look k) ∷ []; written = f.written; said = f.said })
  with_look (Err why) = Err why

  in_turn : (q : K) (v : Option V) (r : Result (Effect K V W) F) → with_read q v (with_look r) ≡ with_look (with_read q v r)
  in_turn q v (Ok f) = refl
  in_turn q v (Err why) = refl

  looks : (s : Step K V W F) → perform look (looking_at k s) ≡ with_look (perform look s)
  looks (Ask q next) = ap (with_read q (look q)) (looks (next (look q))) ∙ in_turn q (look q) (perform look (next (look q)))
  looks s = refl

looks_too : {V O F : Type 0} (look : List ℕ → Option V) (n : ℕ) (d : Deed (List ℕ) V O) (s : Step (List ℕ) V (ℕ × O) F) → perform look s ≡ Ok (effect_of look d)
    → perform look (looking_at (batch_key n) s) ≡ Ok (effect_of look (in_batch n d))
looks_too look n d s does =
    looks look (batch_key n) s
    ∙ ap (with_look look (batch_key n)) does
    ∙ (λ i. Ok (record { read = sym (map-append (λ k. (k, look k)) d.looked (batch_key n ∷ [])) i; written = d.written; said = d.said }))

-- a step that names no key as those of batches are
reserves : (n : ℕ) → is_reserved (batch_key n) ≡ true
reserves n = refl

not_in : (ks : List (List ℕ)) (n : ℕ) → list_any is_reserved ks ≡ false → is_in bytes_cmp ks (batch_key n) ≡ false
not_in [] n none = refl
not_in (k ∷ ks) n none =
    let parts = or_parts (is_reserved k) (list_any is_reserved ks) none in
    or_from (eq_by_cmp bytes_cmp (batch_key n) k) _
    (false_from_ne_true (eq_by_cmp bytes_cmp (batch_key n) k) (λ same. true≢false (sym (reserves n) ∙ ap is_reserved ((same_bytes (batch_key n) k).0 same) ∙ parts.0)))
    (not_in ks n parts.1)

pub spares_named : {V O : Type 0} (d : Deed (List ℕ) V O) → list_any is_reserved (d.looked ++ map (λ w. w.0) d.written) ≡ false → Spares d
spares_named d none n = not_in (map (λ w. w.0) d.written) n (or_parts (list_any is_reserved d.looked) _ (sym (list_any-append is_reserved d.looked (map (λ w. w.0) d.written)) ∙ none)).1

-- ---- what holds along a run
abbrev Known : {V O : Type 0} → BatchedView V O → Type 0
Known b = (ts : List Token) × IsInStep b.kernel.parts b.queue b.begun ts

-- parts that are drawn to, with the queue as it was
abbrev KnownDrawn : {V O : Type 0} → Parts (List ℕ) V O → QueueView → Type 0
KnownDrawn m q = (ts : List Token) × IsInStep m q true ts

few : (limit many : ℕ) → nat_le limit many ≡ false → many < limit
few limit many is = leb-false limit many is

drawn_to : {V O : Type 0} (a : BatchedView V O) (m : ByteView V O) (begun : Bool) → begun ≡ a.begun → Known a → is_full a ≡ false → Draws begun a.kernel a.queue.number m → KnownDrawn m.parts a.queue
drawn_to a m true is (ts, h) room same = (ts, subst (λ (k : ByteView _ _). IsInStep k.parts a.queue true ts) (sym same) (subst (λ b. IsInStep a.kernel.parts a.queue b ts) (sym is) h))
drawn_to a m false is (ts, h) room takes =
    let open_now : IsInStep a.kernel.parts a.queue false ts = subst (λ b. IsInStep a.kernel.parts a.queue b ts) (sym is) h in
    let less = few a.kernel.parts.guesses.limit (length a.kernel.parts.opens) (ap (λ b. not b && nat_le a.kernel.parts.guesses.limit (length a.kernel.parts.opens)) is ∙ room) in
    let t : Token = record { kernel = a.kernel.parts.guesses.kernel; id = next_of a.kernel.parts.guesses } in
    (ts ++ t ∷ [], begins a.kernel.parts m.parts a.queue ts (ts ++ t ∷ []) t open_now less refl refl takes)

look_drawn : {V O : Type 0} (a : BatchedView V O) (m : ByteView V O) (begun : Bool) → Known a → Draws begun a.kernel a.queue.number m → (k : List ℕ) → look_at bytes_cmp m.parts.slots k ≡ look_at bytes_cmp a.kernel.parts.slots k
look_drawn a m true (ts, h) same k = ap (λ (e : ByteView _ _). look_at bytes_cmp e.parts.slots k) same
look_drawn a m false (ts, h) takes k = looks_as_before a.kernel.parts m.parts (open_numbers a.queue a.begun) a.queue.number h.row takes k

-- the oldest guess is decided
decided_row : {V O : Type 0} (m : Parts (List ℕ) V O) (q : QueueView) (begun : Bool) (ts : List Token) → IsInStep m q begun ts → (d : Decision) → decided q.batches ≡ Some d
    → (us : List Token) × (((n : Parts (List ℕ) V O) (r : QueueView) → r ≡ record q { batches = left q.batches } → Commits bytes_cmp m (batch_of d) n → IsInStep n r begun us)
    × ((n : Parts (List ℕ) V O) (r : QueueView) → r ≡ record q { batches = left q.batches } → FailsIn bytes_cmp m (batch_of d) n → IsInStep n r begun us))
decided_row m q begun ts h d decides =
    let t : Token = record { kernel = m.guesses.kernel; id = batch_of d } in
    let value : t ≡ slice_index_or ts 0 t = sym (ap (λ xs. slice_index_or xs 0 t) (h.tokens_are ∙ ap (λ ns. tokens_of m.guesses.kernel (ns ++ open_if begun q.number)) (decided_first q.batches d decides))) in
    (remove ts 0, ((λ n r is commits. oldest_committed m q begun ts (remove ts 0) t h d decides value refl n r is commits), (λ n r is fails. oldest_failed m q begun ts (remove ts 0) t h d decides value refl n r is fails)))

module _ {V O F N : Type 0} (own : System (List ℕ) V (ℕ × O) F N) where
  abbrev inner : System (List ℕ) V (ℕ × O) F (BatchStep N)
  inner = in_batches own

  -- the step that draws a guess
  hands_opening : (a : BatchedView V O) (m : Parts (List ℕ) V O) (ts : List Token) → IsInStep a.kernel.parts a.queue false ts → Takes bytes_cmp a.kernel.parts (opening a.queue.number) (Some a.queue.number) m
      → Hands inner a.kernel.parts (Opens a.queue.number) m
  hands_opening a m ts h takes = record { deed = opening a.queue.number; honest = refl; mark = inr (ap Some (sym h.number)); takes = takes }

  -- a guess may be drawn before other calls
  draws_first : (told last : Told O) (a : BatchedView V O) (m : ByteView V O) (begun : Bool) (cs : List (KernelCall (BatchStep N) O)) (b : Parts (List ℕ) V O) → begun ≡ a.begun → Known a
      → Draws begun a.kernel a.queue.number m → Leads inner told m.parts cs last b → Leads inner told a.kernel.parts (opens_first begun a.queue.number cs) last b
  draws_first told last a m true cs b is known same leads = subst (λ (k : ByteView V O). Leads inner told k.parts cs last b) same leads
  draws_first told last a m false cs b is (ts, h) takes (c, calls, to) =
      (c, (m.parts, hands_opening a m.parts ts (subst (λ e. IsInStep a.kernel.parts a.queue e ts) (sym is) h) takes, calls), to)

  -- the calls that come after one are those of its state
  rest_of : (told last : Told O) (m : BatchedView V O) (begun : Bool) (number : ℕ) (cs : List (Call N O)) (b : Parts (List ℕ) V O) → m.begun ≡ begun → m.queue.number ≡ number
      → Leads inner told m.kernel.parts (kernel_calls m.begun m.queue.number cs) last b → Leads inner told m.kernel.parts (kernel_calls begun number cs) last b
  rest_of told last m begun number cs b is at leads = subst (λ n. Leads inner told m.kernel.parts (kernel_calls begun n cs) last b) at (subst (λ e. Leads inner told m.kernel.parts (kernel_calls e m.queue.number cs) last b) is leads)

  heard_known : (a m : BatchedView V O) → Known a → IsNumbered a.queue m.queue → m.kernel ≡ a.kernel → m.begun ≡ a.begun → Known m
  heard_known a m (ts, h) same kernel begun =
      (ts, subst (λ e. IsInStep m.kernel.parts m.queue e ts) (sym begun) (subst (λ (k : ByteView V O). IsInStep k.parts m.queue a.begun ts) (sym kernel) (requeued a.kernel.parts a.queue a.begun ts h m.queue same)))

  inside : (told : Told O) (a : BatchedView V O) (cs : List (Call N O)) (last : Told O) (b : BatchedView V O) → Known a → Runs own told a cs last b
      → Leads inner told a.kernel.parts (kernel_calls a.begun a.queue.number cs) last b.kernel.parts
  inside told a [] last b known (t, is) = (a.kernel.parts, (t, refl), subst (λ (c : BatchedView V O). IsSame bytes_cmp a.kernel.parts c.kernel.parts) is (all_same bytes_cmp a.kernel.parts))
  inside told a (Steps n ∷ cs) last b (ts, h) (m, (d, hands, takes, queue, begun), runs) =
      let known : Known m = (ts, subst (λ e. IsInStep m.kernel.parts m.queue e ts) (sym begun) (subst (λ q. IsInStep m.kernel.parts q a.begun ts) (sym queue) (step_taken a.kernel.parts a.queue a.begun ts h m.kernel.parts d (spares_named d hands.plain) takes))) in
      let after = rest_of told last m a.begun a.queue.number cs b.kernel.parts begun (ap (λ q. q.number) queue) (inside told m cs last b known runs) in
      (after.0, (m.kernel.parts, record { deed = d; honest = hands.honest; mark = inl refl; takes = takes }, after.1), after.2)
  inside told a (LogsStep n bytes ∷ cs) last b known (m, (d, hands, room, logs), runs) =
      let at = drawn_to a logs.drawn a.begun refl known room logs.draws in
      let numbered : IsNumbered a.queue m.queue = (ap (λ q. map (λ c. c.number) q.batches) logs.queue, ap (λ q. q.number) logs.queue) in
      let taken_in = step_taken logs.drawn.parts a.queue true at.0 at.1 m.kernel.parts (in_batch a.queue.number d) (spares_named d hands.plain) logs.takes in
      let known_then : Known m = (at.0, subst (λ e. IsInStep m.kernel.parts m.queue e at.0) (sym logs.begun) (requeued m.kernel.parts a.queue true at.0 taken_in m.queue numbered)) in
      let after = rest_of told last m true a.queue.number cs b.kernel.parts logs.begun numbered.1 (inside told m cs last b known_then runs) in
      let same : look_at bytes_cmp a.kernel.parts.slots ≡ look_at bytes_cmp logs.drawn.parts.slots = (λ i k. sym (look_drawn a logs.drawn a.begun known logs.draws k) i) in
      draws_first told last a logs.drawn a.begun (Does (Taken (InBatch a.queue.number n)) ∷ kernel_calls true a.queue.number cs) b.kernel.parts refl known logs.draws (
        after.0,
        (
          m.kernel.parts,
          record {
            deed = in_batch a.queue.number d;
            honest = subst (λ look. perform look (looking_at (batch_key a.queue.number) (own.act n)) ≡ Ok (effect_of look (in_batch a.queue.number d))) same (looks_too (look_at bytes_cmp a.kernel.parts.slots) a.queue.number d (own.act n) hands.honest);
            mark = inl refl;
            takes = logs.takes;
          },
          after.1,
        ),
        after.2,
      )
  inside told a (IsRefused ∷ cs) last b (ts, h) (m, stays, runs) =
      let same = still_parts a.kernel m.kernel stays.kernel in
      let known : Known m = (ts, subst (λ e. IsInStep m.kernel.parts m.queue e ts) (sym stays.begun) (subst (λ q. IsInStep m.kernel.parts q a.begun ts) (sym stays.queue) (same_seen a.kernel.parts a.queue a.begun ts h m.kernel.parts same))) in
      leads_from inner told a.kernel.parts m.kernel.parts (kernel_calls a.begun a.queue.number cs) last b.kernel.parts same
      (rest_of told last m a.begun a.queue.number cs b.kernel.parts stays.begun (ap (λ q. q.number) stays.queue) (inside told m cs last b known runs))
  inside told a (DrawsGuess ∷ cs) last b known (m, (room, (draws, queue, begun)), runs) =
      let at = drawn_to a m.kernel a.begun refl known room draws in
      let known_then : Known m = (at.0, subst (λ e. IsInStep m.kernel.parts m.queue e at.0) (sym begun) (subst (λ q. IsInStep m.kernel.parts q true at.0) (sym queue) at.1)) in
      draws_first told last a m.kernel a.begun (kernel_calls true a.queue.number cs) b.kernel.parts refl known draws
      (rest_of told last m true a.queue.number cs b.kernel.parts begun (ap (λ q. q.number) queue) (inside told m cs last b known_then runs))
  inside told a (Sends ∷ cs) last b known (m, (room, draws, queue, begun), runs) =
      let at = drawn_to a m.kernel a.begun refl known room draws in
      let known_then : Known m = (at.0, subst (λ e. IsInStep m.kernel.parts m.queue e at.0) (sym begun) (subst (λ q. IsInStep m.kernel.parts q false at.0) (sym queue) (taken m.kernel.parts a.queue at.0 at.1))) in
      draws_first told last a m.kernel a.begun (kernel_calls false (a.queue.number + 1) cs) b.kernel.parts refl known draws
      (rest_of told last m false (a.queue.number + 1) cs b.kernel.parts begun (ap (λ q. q.number) queue) (inside told m cs last b known_then runs))
  inside told a (Hears frame stage ∷ cs) last b known (m, (heard, kernel, begun), runs) =
      let numbered = word_kept frame stage a.queue m.queue heard in
      subst (λ (k : ByteView V O). Leads inner told k.parts (kernel_calls a.begun a.queue.number cs) last b.kernel.parts) kernel
      (rest_of told last m a.begun a.queue.number cs b.kernel.parts begun numbered.1 (inside told m cs last b (heard_known a m known numbered kernel begun) runs))
  inside told a (Cuts cut ∷ cs) last b known (m, ((due, heard), kernel, begun), runs) =
      let numbered = cut_kept cut a.queue m.queue heard in
      subst (λ (k : ByteView V O). Leads inner told k.parts (kernel_calls a.begun a.queue.number cs) last b.kernel.parts) kernel
      (rest_of told last m a.begun a.queue.number cs b.kernel.parts begun numbered.1 (inside told m cs last b (heard_known a m known numbered kernel begun) runs))
  inside told a (Stops ∷ cs) last b known (m, (heard, kernel, begun), runs) =
      let numbered : IsNumbered a.queue m.queue = (ap (λ q. map (λ c. c.number) q.batches) heard, ap (λ q. q.number) heard) in
      subst (λ (k : ByteView V O). Leads inner told k.parts (kernel_calls a.begun a.queue.number cs) last b.kernel.parts) kernel
      (rest_of told last m a.begun a.queue.number cs b.kernel.parts begun numbered.1 (inside told m cs last b (heard_known a m known numbered kernel begun) runs))
  inside told a (LetsOut t output ∷ cs) last b (ts, h) (m, (out, queue, begun), runs) =
      let known : Known m = (ts, subst (λ e. IsInStep m.kernel.parts m.queue e ts) (sym begun) (subst (λ q. IsInStep m.kernel.parts q a.begun ts) (sym queue) (said_less a.kernel.parts a.queue a.begun ts h m.kernel.parts out.same))) in
      let after = rest_of (told_more t output told) last m a.begun a.queue.number cs b.kernel.parts begun (ap (λ q. q.number) queue) (inside (told_more t output told) m cs last b known runs) in
      (after.0, (m.kernel.parts, out, after.1), after.2)
  inside told a (Decides (Logged n) ∷ cs) last b (ts, h) (m, (decides, commits, queue, begun), runs) =
      let first = decided_row a.kernel.parts a.queue a.begun ts h (Logged n) decides in
      let known : Known m = (first.0, subst (λ e. IsInStep m.kernel.parts m.queue e first.0) (sym begun) (first.1.0 m.kernel.parts m.queue queue commits)) in
      let after = rest_of told last m a.begun a.queue.number cs b.kernel.parts begun (ap (λ q. q.number) queue) (inside told m cs last b known runs) in
      (after.0, (m.kernel.parts, commits, after.1), after.2)
  inside told a (Decides (Refused n) ∷ cs) last b (ts, h) (m, (decides, fails, queue, begun), runs) =
      let first = decided_row a.kernel.parts a.queue a.begun ts h (Refused n) decides in
      let known : Known m = (first.0, subst (λ e. IsInStep m.kernel.parts m.queue e first.0) (sym begun) (first.1.1 m.kernel.parts m.queue queue fails)) in
      let after = rest_of told last m a.begun a.queue.number cs b.kernel.parts begun (ap (λ q. q.number) queue) (inside told m cs last b known runs) in
      (after.0, (m.kernel.parts, fails, after.1), after.2)

new_known : {V O : Type 0} (number most most_bytes frame : ℕ) (a : BatchedView V O) → IsNew number most most_bytes frame a → Known a
new_known number most most_bytes frame a new =
    let row = new_row a.kernel.parts number (capped most) (capped_small most) new.guesses new.opens new.look new.log in
    ([], subst (λ e. IsInStep a.kernel.parts a.queue e []) (sym new.begun) (new_in_step a.kernel.parts a.queue [] number (capped most) most_bytes frame (2 * capped most + 1) row new.guesses new.queue refl))

pub batches_as_plain : {V O F N : Type 0} (own : System (List ℕ) V (ℕ × O) F N) → BatchesAsPlain own
batches_as_plain {V} {O} own goes number most most_bytes frame a b cs told new runs =
    let led = inside own (λ t. []) a cs told b (new_known number most most_bytes frame a new) runs in
    let first : IsFirst (in_batches own) empty a.kernel.parts = record {
      look = λ k. new.look k ∙ sym (get-empty bytes_cmp k);
      log = new.log;
      drawn = ap (λ (v : KeptView). v.drawn) new.guesses;
      struck = ap (λ (v : KeptView). v.struck) new.guesses;
      opens = new.opens;
      said = new.said;
    } in
    let calls = subst (λ n. Calls (in_batches own) (λ t. []) a.kernel.parts (kernel_calls false n cs) told led.0) (ap (λ (q : QueueView). q.number) new.queue)
    (subst (λ e. Calls (in_batches own) (λ t. []) a.kernel.parts (kernel_calls e a.queue.number cs) told led.0) new.begun led.1) in
    let plain = runs_whole (in_batches own) bytes_total bytes_exact goes empty a.kernel.parts led.0 (kernel_calls false 1 cs) told first calls in
    record {
      status = plain.0;
      agrees = same_statuses bytes_cmp led.0 b.kernel.parts led.2 plain.0 plain.1;
      plain = subst (λ m. IsPlainRun (in_batches own) empty (events_of (kernel_calls false 1 cs)) (with_told told m)) (same_machine bytes_cmp led.0 b.kernel.parts led.2 plain.0) plain.2;
      committed = λ n. along (plain.2.statuses n status_as.Committed) (commits_told false 1 cs n);
      failed = λ n. along (plain.2.statuses n status_as.Failed) (failures_told false 1 cs n);
    } where
      along : {A B C : Type 0} → (A ↔ B) → (B ↔ C) → (A ↔ C)
      along first second = ((λ a. second.0 (first.0 a)), (λ c. first.1 (second.1 c)))
