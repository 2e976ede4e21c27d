-- What is kept of the undecided guesses is all but the committed one.
use Rattle.sk_plain.proofs.Cites.{◌≡◌, not, refl, rules, ◌==◌, filter_same, without, Standing}
use Rattle.sk_plain.proofs.Settled.{commits}
use Rattle.sk_plain.proofs.standing.commit.Goals as goal

pub returns : goal.returns
returns c scripts =
    let old = c.args.standing.now in
    let new : Standing = record { settled = old.settled; after = old.after; behind = old.behind; undecided = c.retain.new.self } in
    let kept : c.retain.new.self.items ≡ without c.args.guess old.undecided.items =
    filter_same _ (λ t. not (t == c.args.guess)) _ (λ x b f step. search rules) old.undecided.items c.retain.new.self.items c.retain.ensures.filtered in
    commits scripts old new c.args.guess refl refl refl kept
