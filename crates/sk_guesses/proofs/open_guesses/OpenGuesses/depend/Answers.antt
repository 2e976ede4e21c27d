-- Numbers and tags stay.
use Rattle.sk_guesses.proofs.Names.{◌∙◌, ap, map, sym, Kept, depending}
use Rattle.sk_guesses.proofs.Opens.{depending_keeps}
use Rattle.sk_guesses.proofs.Kept.{kept_mapped}
use Rattle.sk_guesses.proofs.open_guesses.OpenGuesses.depend.Goals as goal

pub are_earlier-requires : goal.are_earlier-requires
are_earlier-requires g c = c.self.invariant.0.rising

pub returns-then-are_earlier-clause-ok : goal.returns-then-are_earlier-clause-ok
returns-then-are_earlier-clause-ok g c =
    let f = depending g.E.Key.order c.args.tags.now c.args.entity.now in
    let same = c.are_earlier.ensures.same c.if-are_earlier.true c.args.entity.now in
    ap (λ (r : Kept _). r.opens) (sym c.self.view_is) ∙ sym same ∙ ap (λ (r : Kept _). map f r.opens) c.self.view_is

pub invariant_of-self-2 : goal.invariant_of-self-2
invariant_of-self-2 g c =
    let R = g.E.Key.order in
    let e = c.args.entity.now in
    kept_mapped c.self.invariant c.depend.new.self.items (depending R c.args.tags.now e) (depending_keeps R c.args.tags.now e) c.in_ok-depend.ensures.ok

pub depend-requires : goal.depend-requires
depend-requires g c = c.self.invariant.0.rising
