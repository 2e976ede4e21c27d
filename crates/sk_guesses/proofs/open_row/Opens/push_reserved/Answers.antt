-- What is seen of it is what it begins with.
use Rattle.sk_guesses.proofs.Names.{◌≡◌, ◌∙◌, ◌∷◌, ◌++◌, ◌≤◌, [], true, length, map, map-append, ap, sym, subst, InOrder}
use Rattle.sk_guesses.specs.Shared.{seen, AreReady, AreWithin, IsWithin}
use Rattle.sk_guesses.proofs.Named.{wider, within_more}
use Rattle.sk_guesses.proofs.Shared.{ready_more}
use Rattle.sk_guesses.proofs.open_row.Opens.push_reserved.Goals as goal

pub invariant_of-self : goal.invariant_of-self
invariant_of-self g c =
    let es = c.self.inside.shared.entities in
    let just : c.is_shared-shares.result ≡ true → es ≡ c.args.dependents.entities = λ is. c.is_shared-shares.ensures is ∙ c.as_slice-2.ensures.entities in
    let first = c.spanning-self-inside.result.oldest in
    let last = c.spanning-self-inside.result.newest in
    let wide = wider c.self.inside.sharers.oldest c.self.inside.sharers.newest first last c.self.inside.row.items c.spanning-self-inside.ensures.wider.0 c.spanning-self-inside.ensures.wider.1 c.self.invariant.2 in
    let own : IsWithin first last c.begun.result = λ here. subst (λ n. (first ≤ n) × (n ≤ last)) (sym c.begun.ensures.id) (c.spanning-self-inside.ensures.one (sym c.begun.ensures.shares ∙ here)) in (
      subst (AreReady (length es)) (sym c.push_reserved.ensures.items) (ready_more (length es) c.self.inside.row.items c.begun.result c.self.invariant.0 (c.begun.ensures.ready es just)),
      c.self.invariant.1,
      subst (AreWithin first last) (sym c.push_reserved.ensures.items) (within_more first last c.self.inside.row.items c.begun.result wide own),
    )

pub returns-clause-items : goal.returns-clause-items
returns-clause-items g c =
    let es = c.self.inside.shared.entities in
    let just : c.is_shared-shares.result ≡ true → es ≡ c.args.dependents.entities = λ is. c.is_shared-shares.ensures is ∙ c.as_slice-2.ensures.entities in
    let before = ap (λ (r : InOrder _). r.items) (c.self.view_is ∙ c.found.ensures) in
    let last = c.begun.ensures.seen es just in
    ap (map (seen es)) c.push_reserved.ensures.items ∙ map-append (seen es) c.self.inside.row.items (c.begun.result ∷ []) ∙ (λ j. before j ++ last j ∷ [])
