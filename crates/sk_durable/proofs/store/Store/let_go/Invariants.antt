-- Answers were dropped, and nothing else has changed.
use Rattle.sk_durable.proofs.Names.{◌≡◌, length, said_at, the_view}
use Rattle.sk_durable.proofs.Calls.{AreDropped}
use Rattle.sk_durable.proofs.store.Store.let_go.Given as goal

abbrev pub invariant-loop : goal.invariant-loop
invariant-loop l =
    (l.self-inside ≡ record l.initial.self-inside { batched = l.self-inside.batched }) × AreDropped l.channel (the_view l.initial.self-inside) (the_view l.self-inside)

abbrev pub decreases-loop : goal.decreases-loop
decreases-loop l = length (said_at l.self-inside.batched.kernel.parts.said l.channel)
