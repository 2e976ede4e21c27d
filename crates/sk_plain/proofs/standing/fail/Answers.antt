-- What can be settled is, and the rest is struck out.
use Rattle.sk_plain.proofs.Others.{then_ok}
use Rattle.sk_plain.proofs.Cites.{◌≡◌, true, ◌∙◌, ap, has, Record, Fail, recorded, EntryView, plain}
use Rattle.sk_plain.proofs.standing.fail.Goals as goal

pub returns : goal.returns
returns c =
    then_ok c.strike_out.result c.strike_out.ensures
    (λ goes start stands fits.
    let still = c.in_ok-settle.ensures start stands in
    let there : has c.args.guess c.settle.new.standing.undecided.items ≡ true = ap (λ (r : Record EntryView). has c.args.guess r.undecided) still.1 ∙ fits in
    let went = goes start still.0 there in
    (went.0, went.1 ∙ ap (λ (r : Record EntryView). recorded (plain c.args.scripts.now) start r (Fail c.args.guess)) still.1))
