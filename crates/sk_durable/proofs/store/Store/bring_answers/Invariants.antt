-- The answers so far were told, each taken out.
use Rattle.sk_durable.proofs.Names.{◌≡◌, true, ℕ, List, length, said_at, IsEmpty, Answer, the_view, are_sound}
use Rattle.sk_durable.proofs.Names.{HavePasts, Serves, tells}
use Rattle.sk_durable.proofs.store.Store.bring_answers.Given as goal

abbrev pub invariant-loop-told : goal.invariant-loop-told
invariant-loop-told l = record {
  empty : IsEmpty l.self-inside.step;
  sound : are_sound l.self-inside.limits ≡ true;
  pasts : HavePasts l.self-inside.limits.requests l.self-inside.channels;
  told : (answers : List (ℕ × Answer)) × Serves l.fn.self (tells l.channel answers) (the_view l.self-inside);
}

abbrev pub decreases-loop-told : goal.decreases-loop-told
decreases-loop-told l = length (said_at l.self-inside.batched.kernel.parts.said l.channel)
