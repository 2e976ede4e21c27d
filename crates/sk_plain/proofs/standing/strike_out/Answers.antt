-- What is kept of the undecided guesses is what the entries that are left behind made.
use Rattle.sk_plain.proofs.Cites.{◌≡◌, refl, rules, filter, filter_same, strike, plain, is_made, Standing}
use Rattle.sk_plain.proofs.Settled.{fails}
use Rattle.sk_plain.proofs.standing.strike_out.Goals as goal

pub returns : goal.returns
returns c =
    let old = c.args.standing.now in
    let new : Standing = record { settled = old.settled; after = old.after; behind = c.in_ok-left.left; undecided = c.retain.new.self } in
    let left : c.in_ok-left.left.items ≡ strike (plain c.args.scripts.now) old.after old.behind.items c.args.guess = search rules in
    let kept : c.retain.new.self.items ≡ filter (is_made c.in_ok-left.left.items) old.undecided.items =
    filter_same _ (is_made c.in_ok-left.left.items) _ (λ x b f step. search rules) old.undecided.items c.retain.new.self.items c.retain.ensures.filtered in
    fails c.args.scripts.now old new c.args.guess refl refl left kept
