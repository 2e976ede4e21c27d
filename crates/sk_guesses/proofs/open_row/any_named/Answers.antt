-- None so far, and then none.
use Rattle.sk_guesses.proofs.Names.{◌≡◌, ◌+◌, arith, true, false}
use Rattle.sk_guesses.specs.Shared.{Sharing, is_named}
use Rattle.sk_guesses.proofs.Named.{more_none}
use Rattle.sk_guesses.proofs.Shared.{more_at, all_from}
use Rattle.sk_guesses.proofs.open_row.any_named.Goals as goal

pub loop-place-init : goal.loop-place-init
loop-place-init g c = λ k d lt shares. c.next_named-place.ensures.none k d (omega arith) lt

pub loop-place-preserved : goal.loop-place-preserved
loop-place-preserved g c =
    let c2 = is_named c.args.within c.args.tags.now in
    let os = c.args.row.now.items in
    more_none (λ (o : Sharing _). o.shares ≡ true → c2 o.guess.id ≡ false) c2 os (c.loop-place.place + 1) c.next_named-place-in-loop-place.result
    (more_at (λ (o : Sharing _). o.shares ≡ true → c2 o.guess.id ≡ false) os c.loop-place.place c.at.result.now c.loop-place.invariant (omega (arith, c.loop-place-test.true, c.len.ensures)) c.at.ensures
    (c.shares_named.ensures c.if-shares_named.false))
    (λ o none shares. none) c.next_named-place-in-loop-place.ensures.none

pub returns : goal.returns
returns g c = λ _.
    all_from (λ (o : Sharing _). o.shares ≡ true → is_named c.args.within c.args.tags.now o.guess.id ≡ false) c.args.row.now.items (λ k d lt. c.loop-place.invariant k d (omega (arith, lt, c.loop-place-test.false, c.len.ensures)))
