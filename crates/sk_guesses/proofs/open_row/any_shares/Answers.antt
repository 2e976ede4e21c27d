-- None so far, and then none.
use Rattle.sk_guesses.proofs.Names.{◌≡◌, arith, false, sym, ◌∙◌, slice_index_or}
use Rattle.sk_guesses.specs.Shared.{Sharing, IsWithin}
use Rattle.sk_guesses.proofs.Named.{all_past, below_shares, none_behind}
use Rattle.sk_guesses.proofs.Shared.{all_at, more_at}
use Rattle.sk_guesses.proofs.open_row.any_shares.Goals as goal

pub loop-place-init : goal.loop-place-init
loop-place-init g c = λ k d lt.
    let os = c.args.row.now.items in
    let first = c.args.sharers.oldest in
    let last = c.args.sharers.newest in
    below_shares first last (slice_index_or os k d) (all_at (IsWithin first last) os k d c.requires.sharers (omega (arith, lt, c.first_from-place.ensures.bound)))
    (c.first_from-place.ensures.below k d (omega arith) lt)

pub loop-place-preserved : goal.loop-place-preserved
loop-place-preserved g c =
    more_at (λ (o : Sharing _). o.shares ≡ false) c.args.row.now.items c.loop-place.place c.at-open.result.now c.loop-place.invariant (omega (arith, c.loop-place-test.true, c.len-place-end.ensures)) c.at-open.ensures (sym c.shares.ensures ∙ c.if-shares.false)

pub returns-then-is_after : goal.returns-then-is_after
returns-then-is_after g c = λ _.
    none_behind c.args.sharers.oldest c.args.sharers.newest c.args.row.now.items c.requires.sharers c.loop-place.place c.loop-place.invariant
    (all_past c.args.row.now.items c.loop-place.place c.args.sharers.newest c.at-open.result.now c.requires.ids c.at-open.ensures (c.is_after.ensures c.if-is_after.true))

pub returns : goal.returns
returns g c = λ _.
    none_behind c.args.sharers.oldest c.args.sharers.newest c.args.row.now.items c.requires.sharers c.loop-place.place c.loop-place.invariant
    (λ k d low lt. absurd (omega (arith, low, lt, c.loop-place-test.false, c.len-place-end.ensures)))
