-- It stands among the undecided ones where a search finds it.
use Rattle.sk_guesses.proofs.Names.{◌≡◌, length, ◌∙◌, ap, arith, nat_lt, has, numbers, Kept, opens_of}
use Rattle.sk_guesses.proofs.Opens.{is_there}
use Rattle.sk_guesses.proofs.open_guesses.OpenGuesses.is_open.Goals as goal

pub returns : goal.returns
returns g c =
    let ls = c.self.inside.opens.items in
    let as_many : c.len.result ≡ length ls = omega (arith, c.len.ensures) in
    ap (nat_lt c.place_of.result) as_many
    ∙ is_there c.args.id c.place_of.result ls c.place_of.ensures
    ∙ ap (λ (r : Kept _). has c.args.id (numbers (opens_of r.opens))) c.self.view_is

pub place_of-requires : goal.place_of-requires
place_of-requires g c = c.self.invariant.0.rising
