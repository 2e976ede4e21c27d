-- It is undecided no more.
use Rattle.sk_guesses.proofs.Names.{map, sym, ◌∙◌, ap, subst, with_status, has, numbers, still_open, Committed, Kept}
use Rattle.sk_guesses.proofs.Names.{KeptView, AreStatuses, opens_of}
use Rattle.sk_guesses.proofs.Kept.{commit_opens, kept_committed, statuses_committed}
use Rattle.sk_guesses.proofs.Opens.{guess_of}
use Rattle.sk_guesses.proofs.open_guesses.OpenGuesses.commit.Goals as goal

pub invariant_of-self : goal.invariant_of-self
invariant_of-self g c = kept_committed c.self.invariant c.close_committed.new.opens.items c.args.id c.close_committed.ensures.opens c.close_committed.ensures.fewer

pub returns-clause-machine : goal.returns-clause-machine
returns-clause-machine g c =
    ap opens_of c.close_committed.ensures.opens ∙ commit_opens c.args.id (map guess_of c.self.inside.opens.items) ∙ ap (λ (r : Kept _). still_open c.args.id (opens_of r.opens)) c.self.view_is

pub returns-clause-statuses : goal.returns-clause-statuses
returns-clause-statuses g c = λ status are here.
    let v : KeptView = record { kernel = c.self.inside.kernel; limit = c.self.inside.limit; drawn = c.self.inside.drawn; struck = c.self.inside.struck.items } in
    let os = map guess_of c.self.inside.opens.items in
    subst (λ xs. AreStatuses v (opens_of xs) (with_status c.args.id Committed status)) (sym c.close_committed.ensures.opens)
    (statuses_committed v os status c.args.id (subst (λ (r : Kept _). AreStatuses r.view (opens_of r.opens) status) (sym c.self.view_is) are) (ap (λ (r : Kept _). has c.args.id (numbers (opens_of r.opens))) c.self.view_is ∙ here))

pub close_committed-requires : goal.close_committed-requires
close_committed-requires g c = record { rising = c.self.invariant.0.rising; none_before = c.first_resting-from.ensures.none_before; bound = c.first_resting-from.ensures.bound }

pub first_resting-from-requires : goal.first_resting-from-requires
first_resting-from-requires g c = record { rising = c.self.invariant.0.rising; below = c.self.invariant.1 }
