-- The number of the guess at that place.
use Rattle.sk_guesses.proofs.Names.{◌∙◌, sym, ap, arith, Some}
use Rattle.sk_guesses.proofs.Opens.{number_at}
use Rattle.sk_guesses.proofs.open_list.id_at.Goals as goal

pub returns : goal.returns
returns g c =
    ap Some c.id.ensures
    ∙ sym (number_at c.args.opens.now.items c.args.place c.at.result (omega (arith, c.if-place-len.false, c.len.ensures)) c.at.ensures)
