-- What is seen of it goes.
use Rattle.sk_guesses.proofs.Names.{◌<◌, ◌∙◌, length, length-map, map, ap, sym, subst, arith, remove, InOrder}
use Rattle.sk_guesses.specs.Shared.{seen, AreReady, AreWithin}
use Rattle.sk_guesses.proofs.Named.{within_remove}
use Rattle.sk_guesses.proofs.Shared.{seen_remove, ready_remove}
use Rattle.sk_guesses.proofs.open_row.Opens.remove.Goals as goal

pub invariant_of-self : goal.invariant_of-self
invariant_of-self g c =
    let os = c.self.inside.row.items in
    let es = c.self.inside.shared.entities in
    let near : c.args.place < length os = omega (arith, c.requires, ap (λ (r : InOrder _). length r.items) c.self.view_is, length-map os (seen es)) in
    let first = c.self.inside.sharers.oldest in
    let last = c.self.inside.sharers.newest in (
      subst (AreReady (length es)) (sym c.remove.ensures.items) (ready_remove (length es) os c.args.place near c.self.invariant.0),
      c.self.invariant.1,
      subst (AreWithin first last) (sym c.remove.ensures.items) (within_remove first last os c.args.place near c.self.invariant.2),
    )

pub returns-clause-items : goal.returns-clause-items
returns-clause-items g c =
    let os = c.self.inside.row.items in
    let es = c.self.inside.shared.entities in
    let near : c.args.place < length os = omega (arith, c.requires, ap (λ (r : InOrder _). length r.items) c.self.view_is, length-map os (seen es)) in
    ap (map (seen es)) c.remove.ensures.items ∙ seen_remove es os c.args.place near ∙ ap (λ (r : InOrder _). remove r.items c.args.place) c.self.view_is
