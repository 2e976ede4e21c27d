-- What agrees with what was kept agrees with what is left.
use Rattle.sk_guesses.proofs.Names.{map, sym, subst, Kept, KeptView, AreStatuses, opens_of}
use Rattle.std.proofs.Common.{Ok}
use Rattle.sk_guesses.specs.declared.guess.Redeemed.TheVariants as redeemed_as
use Rattle.sk_guesses.proofs.Opens.{guess_of}
use Rattle.sk_guesses.proofs.Kept.{kept_forgotten, statuses_redeemed}
use Rattle.sk_guesses.proofs.open_guesses.OpenGuesses.redeem.Goals as goal

pub invariant_of-self : goal.invariant_of-self
invariant_of-self g c = (kept_forgotten c.self.invariant c.forget.new.struck.items _ c.forget.ensures.fewer c.forget.ensures.room, c.self.invariant.1)

pub returns-in-Some-Struck-clause-statuses : goal.returns-in-Some-Struck-clause-statuses
returns-in-Some-Struck-clause-statuses g c = λ status are.
    let v : KeptView = record { kernel = c.self.inside.kernel; limit = c.self.inside.limit; drawn = c.self.inside.drawn; struck = c.self.inside.struck.items } in
    let os = opens_of (map guess_of c.self.inside.opens.items) in
    let before = subst (λ (r : Kept _). AreStatuses r.view (opens_of r.opens) status) (sym c.self.view_is) are in
    subst (λ xs. AreStatuses (record v { struck = xs }) os status) (sym c.forget.ensures.struck) (statuses_redeemed v os (Ok (redeemed_as.Struck c.spent-id.result)) status before)
