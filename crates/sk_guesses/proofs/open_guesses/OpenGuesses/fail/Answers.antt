-- It is undecided no more, and so are those whose own steps depend on it.
use Rattle.sk_guesses.proofs.Names.{◌≡◌, ◌++◌, map, sym, ◌∙◌, ap, subst, with_failure, has, not_struck, numbers, Kept}
use Rattle.sk_guesses.proofs.Names.{KeptView, AreStatuses, struck_with, with_struck, opens_of}
use Rattle.sk_guesses.proofs.Kept.{fail_opens, kept_failed, statuses_failed}
use Rattle.sk_guesses.proofs.Opens.{guess_of}
use Rattle.sk_guesses.proofs.open_guesses.OpenGuesses.fail.Goals as goal

pub strike_all-requires : goal.strike_all-requires
strike_all-requires g c = record { room = c.self.invariant.0.places; none_before = c.first_resting-from.ensures.none_before; bound = c.first_resting-from.ensures.bound }

pub returns-clause-machine : goal.returns-clause-machine
returns-clause-machine g c =
    ap opens_of c.close_resting.ensures.opens ∙ fail_opens c.args.id (map guess_of c.self.inside.opens.items) ∙ ap (λ (r : Kept _). not_struck c.args.id (opens_of r.opens)) c.self.view_is

pub invariant_of-self : goal.invariant_of-self
invariant_of-self g c =
    kept_failed c.self.invariant c.close_resting.new.opens.items c.args.id c.strike_all.new.struck.items _ c.strike_all.ensures.room c.strike_all.ensures.struck
    c.close_resting.ensures.opens c.close_resting.ensures.fewer

pub returns-clause-statuses : goal.returns-clause-statuses
returns-clause-statuses g c = λ status are here.
    let v : KeptView = record { kernel = c.self.inside.kernel; limit = c.self.inside.limit; drawn = c.self.inside.drawn; struck = c.self.inside.struck.items } in
    let os = map guess_of c.self.inside.opens.items in
    let so : c.strike_all.new.struck.items ≡ v.struck ++ struck_with c.args.id (opens_of os) =
    c.strike_all.ensures.struck in
    let before = subst (λ (r : Kept _). AreStatuses r.view (opens_of r.opens) status) (sym c.self.view_is) are in
    let among = ap (λ (r : Kept _). has c.args.id (numbers (opens_of r.opens))) c.self.view_is ∙ here in
    let after = statuses_failed v os status c.args.id c.self.invariant.0.rising c.self.invariant.0.own before among in
    subst (λ (r : Kept _). AreStatuses (record v { struck = c.strike_all.new.struck.items }) (opens_of (map guess_of c.close_resting.new.opens.items)) (with_failure c.args.id (opens_of r.opens) status)) c.self.view_is
    (subst (λ xs. AreStatuses (record v { struck = xs }) (opens_of (map guess_of c.close_resting.new.opens.items)) (with_failure c.args.id (opens_of os) status)) (sym so)
    (subst (λ xs. AreStatuses (with_struck c.args.id (opens_of os) v) (opens_of xs) (with_failure c.args.id (opens_of os) status)) (sym c.close_resting.ensures.opens) after))

pub first_resting-from-requires : goal.first_resting-from-requires
first_resting-from-requires g c = record { rising = c.self.invariant.0.rising; below = c.self.invariant.1 }
