-- None changes, where none is named.
use Rattle.sk_guesses.proofs.Names.{◌≡◌, true, false, inl, refl}
use Rattle.sk_guesses.specs.Shared.{is_named, Agrees, Sharing}
use Rattle.sk_guesses.proofs.Shared.{pairs_self}
use Rattle.sk_guesses.proofs.open_row.agree.Goals as goal

pub returns : goal.returns
returns g c =
    let c2 = is_named c.args.within c.args.tags.now in
    pairs_self (λ (o : Sharing _). o.shares ≡ true → c2 o.guess.id ≡ false) (Agrees c.args.shared.now c2 false) c.args.row.now.items
    (λ o is. inl (refl, is)) (c.any_named.ensures c.if-any_named.false)
