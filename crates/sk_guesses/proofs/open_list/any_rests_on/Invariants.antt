use Rattle.sk_guesses.proofs.Names.{◌≡◌, drop, list_any, has, Listing}
use Rattle.sk_guesses.proofs.open_list.any_rests_on.Given as goal

abbrev pub invariant-loop-place : goal.invariant-loop-place
invariant-loop-place g l = list_any (λ (x : Listing _). has l.id x.guess.tags) l.opens.items ≡ list_any (λ (x : Listing _). has l.id x.guess.tags) (drop l.place l.opens.items)
