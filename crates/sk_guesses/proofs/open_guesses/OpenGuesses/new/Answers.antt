-- None is drawn.
use Rattle.sk_guesses.proofs.Names.{refl, vec_capacity, KeptView, AreBelow, opens_of, map, sym, subst}
use Rattle.sk_guesses.proofs.Kept.{kept_none}
use Rattle.sk_guesses.proofs.Opens.{guess_of}
use Rattle.sk_guesses.proofs.open_guesses.OpenGuesses.new.Goals as goal

pub invariant_of-result : goal.invariant_of-result
invariant_of-result g c =
    let v : KeptView = record { kernel = c.args.kernel; limit = c.args.limit; drawn = 0; struck = c.new-3.result.items } in (
      kept_none v c.new.result.items c.new-2.result.entities (vec_capacity c.new-3.result) refl c.new-3.ensures.items c.new.ensures c.new-2.ensures,
      λ _. subst (λ os. AreBelow (opens_of (map guess_of os))) (sym c.new.ensures) tt,
    )
