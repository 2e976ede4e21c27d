-- As many were sent as rounds are done.
use Rattle.threads_tests.proofs.Names.{◌≡◌, length, view, IsSending, IsReceiving}
use Rattle.threads_tests.proofs.rounds.go_by.Given as goal

abbrev pub invariant-loop-k : goal.invariant-loop-k
invariant-loop-k g l =
    IsSending l.wire l.sending × ((view l.sending).first ≡ l.first) × (length (view l.sending).sent ≡ l.k) × IsReceiving l.wire l.receiving
