-- A batch is decided, or sent: what that is to the machine of records.
use Rattle.sk_durable.proofs.Names.{arith, ◌≡◌, ℕ, Bool, true, false, List, [], ◌∷◌, Option, Some, refl, sym, ◌∙◌, ap}
use Rattle.sk_durable.proofs.Names.{subst, filter, moves_of, Logs, StoreCalls, slice_index_or, remove, Commit, Fail}
use Rattle.sk_durable.proofs.Names.{with_failure, with_status, Status, Token, open_is, Moves, bytes_cmp, Commits}
use Rattle.sk_durable.proofs.Names.{FailsIn, after_take, left, Decision, IsInStep, batch_of, decided_first}
use Rattle.sk_durable.proofs.Names.{oldest_committed, oldest_failed, taken, Out, served, Kernel, StoreView}
use Rattle.std.proofs.lemmas.Bool.Decides.{nat_tests}
use Rattle.sk_record.specs.declared.status.Status.TheVariants as status_as
use Rattle.sk_deeds.specs.Told.{Does}
use Rattle.sk_batches.specs.Queue.{decided}
use Rattle.sk_batches.specs.declared.queue.Decision.TheVariants as decision
use Rattle.sk_durable.proofs.Machines.{is_decision, Agree, machine, InStep, Led, Machine, Move}

module _ (told : Out) (a : StoreView) (status : ℕ → Option Status)
    (are : Agree a.batched.kernel status) (known : InStep a.batched)
    (s : StoreView) where
  abbrev x : Machine
  x = machine a.batched.kernel status

  abbrev t_of : ℕ → Token
  t_of n = record { kernel = a.batched.kernel.parts.guesses.kernel; id = n }

  first_token : (d : Decision) → decided a.batched.queue.batches ≡ Some d
      → t_of (batch_of d) ≡ slice_index_or known.0 0 (t_of (batch_of d))
  first_token d decides = grind (arith, nat_tests, batch_of d, decided_first a.batched.queue.batches d decides)

  -- no command is carried out
  led_to : (moves : List Move) (later : ℕ → Option Status) → Agree s.batched.kernel later
      → StoreCalls told x moves told (machine s.batched.kernel later)
      → Logs served told x moves [] told (machine s.batched.kernel later)
      → (tokens : List Token) (begun : Bool) → IsInStep s.batched.kernel.parts s.batched.queue begun tokens
      → s.batched.begun ≡ begun → Led told told x [] (filter is_decision (moves_of moves)) s
  led_to moves later agrees calls logs tokens begun known is = grind (arith, nat_tests)

  pub logged : (n : ℕ) → decided a.batched.queue.batches ≡ Some (decision.Logged n)
      → Commits bytes_cmp a.batched.kernel.parts n s.batched.kernel.parts
      → s.batched.queue ≡ record a.batched.queue { batches = left a.batched.queue.batches }
      → s.batched.begun ≡ a.batched.begun → Led told told x [] (Commit n ∷ []) s
  logged n decides commits queue begun =
      let later = with_status n status_as.Committed status in
      let next = machine s.batched.kernel later in
      let goes : Moves served x (Commit n) next =
      (open_is (status n) (sym (are.undecided n) ∙ commits.undecided), commits.commits status are) in
      led_to (Does (Commit n) ∷ []) later (commits.agrees status are) (next, tt, goes, (refl, refl))
      (next, [], [], refl, goes, refl, (refl, refl, refl)) (remove known.0 0) a.batched.begun
      (oldest_committed a.batched.kernel.parts a.batched.queue a.batched.begun known.0 (remove known.0 0)
      (t_of n) known.1 (decision.Logged n) decides
      (first_token (decision.Logged n) decides) refl s.batched.kernel.parts s.batched.queue queue commits) begun

  pub refused : (n : ℕ) → decided a.batched.queue.batches ≡ Some (decision.Refused n)
      → FailsIn bytes_cmp a.batched.kernel.parts n s.batched.kernel.parts
      → s.batched.queue ≡ record a.batched.queue { batches = left a.batched.queue.batches }
      → s.batched.begun ≡ a.batched.begun → Led told told x [] (Fail n ∷ []) s
  refused n decides fails queue begun =
      let later = with_failure n a.batched.kernel.parts.opens status in
      let next = machine s.batched.kernel later in
      let goes : Moves served x (Fail n) next =
      (open_is (status n) (sym (are.undecided n) ∙ fails.undecided), fails.fails status are) in
      led_to (Does (Fail n) ∷ []) later (fails.agrees status are) (next, tt, goes, (refl, refl))
      (next, [], [], refl, goes, refl, (refl, refl, refl)) (remove known.0 0) a.batched.begun
      (oldest_failed a.batched.kernel.parts a.batched.queue a.batched.begun known.0 (remove known.0 0)
      (t_of n) known.1 (decision.Refused n) decides
      (first_token (decision.Refused n) decides) refl s.batched.kernel.parts s.batched.queue queue fails) begun

  -- the open batch is sent, whose guess is drawn
  pub sent : a.batched.begun ≡ true → s.batched.kernel ≡ a.batched.kernel → s.batched.queue ≡ after_take a.batched.queue
      → s.batched.begun ≡ false → Led told told x [] [] s
  sent opened kernel queue begun =
      let at : IsInStep a.batched.kernel.parts (after_take a.batched.queue) false known.0 =
      taken a.batched.kernel.parts a.batched.queue known.0
      (subst (λ e. IsInStep a.batched.kernel.parts a.batched.queue e known.0) opened known.1) in
      let same : x ≡ machine s.batched.kernel status = ap (λ (k : Kernel). machine k status) (sym kernel) in
      led_to [] status (subst (λ (k : Kernel). Agree k status) (sym kernel) are) (refl, same) (refl, refl, same) known.0 false
      (subst (λ q. IsInStep s.batched.kernel.parts q false known.0) (sym queue)
      (subst (λ (k : Kernel). IsInStep k.parts (after_take a.batched.queue) false known.0) (sym kernel) at)) begun
