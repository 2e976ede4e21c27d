-- One guess more has the terminal listed.
use Rattle.sk_terminal.proofs.Names.{◌<◌, ◌≤◌, ◌+◌, ◌^◌, ◌||◌, ◌&&◌, length, take, sym, ◌∙◌, ap, subst, arith, rules}
use Rattle.sk_terminal.proofs.Names.{prefix_len-le-length, ◌==◌, has, is_listed}
use Rattle.sk_terminal.proofs.Listed.{at_most, has_more, on_err_given, one_more}
use Rattle.sk_terminal.proofs.listing.list.Goals as goal

pub loop-guess-preserved : goal.loop-guess-preserved
loop-guess-preserved c = (
  c.add.ensures.tidy,
  λ g t.
      let tags = c.ids-guess-items.result.now in
      let i = c.loop-guess.guess-index in
      let x = c.guess-item.result in
      let old = is_listed g t c.args.lists.now.items in
      c.in_ok-add.ensures.ok g t
      ∙ ap (λ b. b || ((x == g) && (c.args.number == t))) (c.loop-guess.invariant.1 g t)
      ∙ one_more old (has g (take i tags)) (x == g) (c.args.number == t)
      ∙ sym (ap (λ b. old || (b && (c.args.number == t))) (has_more g tags i x c.loop-guess-test.true c.guess-item.is)),
)

pub returns-in_err-add-clause-err : goal.returns-in_err-add-clause-err
returns-in_err-add-clause-err c =
    on_err_given c.from_residual.result
    (at_most c.args.lists.now.items c.add.new.lists.items c.args.number (λ g. has g (take c.loop-guess.guess-index c.ids-guess-items.result.now)) (λ g t. c.in_err-add.ensures.err g t ∙ c.loop-guess.invariant.1 g t))

pub overflow_add-next : goal.overflow_add-next
overflow_add-next c =
    let lists = c.loop-guess.lists in
    let within : c.place_from-place.result ≤ length c.as_slice.result.now =
    subst (λ n. n ≤ length c.as_slice.result.now) (sym c.place_from-place.ensures) (prefix_len-le-length _ c.as_slice.result.now) in
    let below : c.place_from-place.result + 1 < 2 ^ 64 =
    omega (arith, within, c.as_slice.ensures.len, lists.ok.0, lists.ok.1, lists.small) in
    search (rules, below)
