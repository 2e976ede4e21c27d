-- The oldest token is that of the oldest batch.
use Rattle.sk_batched.proofs.Names.{rules, ◌≡◌, Some, decided, open_numbers}
use Rattle.sk_batched.proofs.Barred.{committed_barred, failed_barred}
use Rattle.sk_batched.proofs.Moves.{agrees}
use Rattle.sk_batched.proofs.Queues.{oldest_alone, oldest_committed, oldest_failed}
use Rattle.sk_batched.proofs.batched.Batched.decide.Goals as goal

pub invariant_of-self-in-Logged : goal.invariant_of-self-in-Logged
invariant_of-self-in-Logged g c =
    let decides : decided c.self.inside.queue.batches ≡ Some c.in_ok-decision.decision = search rules in (
      oldest_committed c.self.inside.kernel.parts c.self.inside.queue c.self.inside.begun c.self.inside.tokens.items c.remove-token.new.self.items c.remove-token.result c.self.invariant.0 c.in_ok-decision.decision decides c.remove-token.ensures.value c.remove-token.ensures.items
          c.commit.new.kernel.parts c.next_decided.new.self c.next_decided.ensures.left c.commit.ensures,
      committed_barred c.self.inside.kernel.parts c.commit.new.kernel.parts c.self.invariant.1 _
          (agrees c.self.inside.kernel.parts (open_numbers c.self.inside.queue c.self.inside.begun) c.self.invariant.0.row) c.remove-token.result.id c.commit.ensures,
    )

pub fail-keys-requires-clause-alone : goal.fail-keys-requires-clause-alone
fail-keys-requires-clause-alone g c =
    let decides : decided c.self.inside.queue.batches ≡ Some c.in_ok-decision.decision = search rules in
    oldest_alone c.self.inside.kernel.parts c.self.inside.queue c.self.inside.begun c.self.inside.tokens.items c.remove-token.new.self.items c.remove-token.result c.self.invariant.0 c.in_ok-decision.decision decides c.remove-token.ensures.value c.remove-token.ensures.items

pub invariant_of-self-in-Refused : goal.invariant_of-self-in-Refused
invariant_of-self-in-Refused g c =
    let decides : decided c.self.inside.queue.batches ≡ Some c.in_ok-decision.decision = search rules in (
      oldest_failed c.self.inside.kernel.parts c.self.inside.queue c.self.inside.begun c.self.inside.tokens.items c.remove-token.new.self.items c.remove-token.result c.self.invariant.0 c.in_ok-decision.decision decides c.remove-token.ensures.value c.remove-token.ensures.items
          c.fail-keys.new.kernel.parts c.next_decided.new.self c.next_decided.ensures.left c.fail-keys.ensures.fails,
      failed_barred c.self.inside.kernel.parts c.fail-keys.new.kernel.parts c.self.invariant.1 _
          (agrees c.self.inside.kernel.parts (open_numbers c.self.inside.queue c.self.inside.begun) c.self.invariant.0.row) c.remove-token.result.id c.fail-keys.ensures.fails,
    )
