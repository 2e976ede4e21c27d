-- Each so far, and then all.
use Rattle.sk_guesses.proofs.Names.{arith, has}
use Rattle.sk_guesses.specs.Shared.{WillChange}
use Rattle.sk_guesses.proofs.Shared.{more_at, all_from}
use Rattle.sk_guesses.proofs.open_row.all_change.Goals as goal

pub loop-place-preserved : goal.loop-place-preserved
loop-place-preserved g c =
    more_at (WillChange (λ h. has h c.args.tags.now) c.args.shared) c.args.row.now.items c.loop-place.place c.at.result.now c.loop-place.invariant (omega (arith, c.loop-place-test.true, c.len-place-end.ensures)) c.at.ensures (c.will_change.ensures c.if-not-will_change.false)

pub returns : goal.returns
returns g c = λ _. all_from (WillChange (λ h. has h c.args.tags.now) c.args.shared) c.args.row.now.items (λ k d lt. c.loop-place.invariant k d (omega (arith, lt, c.loop-place-test.false, c.len-place-end.ensures)))
