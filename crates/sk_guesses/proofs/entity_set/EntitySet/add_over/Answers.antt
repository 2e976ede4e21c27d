-- The search tells the place.
use Rattle.sk_guesses.proofs.Names.{◌≡◌, ◌∙◌, ap, subst, SetView, with_entity}
use Rattle.sk_guesses.proofs.Places.{put_in, there_in}
use Rattle.sk_guesses.proofs.entity_set.EntitySet.add_over.Goals as goal

pub invariant_of-self : goal.invariant_of-self
invariant_of-self g c =
    (put_in g.met.E.Key.same g.met.E.Ord.total g.met.E.Key.exact c.args.entity.now c.as_slice.ensures.value c.self.invariant c.in-Err.place _
    c.in-Err.ensures.bound c.in-Err.ensures.position c.put_over.ensures.items).1

pub returns-in-Err-clause-entities : goal.returns-in-Err-clause-entities
returns-in-Err-clause-entities g c =
    (put_in g.met.E.Key.same g.met.E.Ord.total g.met.E.Key.exact c.args.entity.now c.as_slice.ensures.value c.self.invariant c.in-Err.place _
    c.in-Err.ensures.bound c.in-Err.ensures.position c.put_over.ensures.items).0
    ∙ ap (λ (s : SetView _). with_entity g.E.Key.order s.entities c.args.entity.now) c.self.view_is

pub returns-in_default-clause-entities : goal.returns-in_default-clause-entities
returns-in_default-clause-entities g c =
    subst (λ ys. ys ≡ with_entity g.E.Key.order ys c.args.entity.now) (ap (λ (s : SetView _). s.entities) c.self.view_is)
    (there_in g.met.E.Key.same g.met.E.Ord.total g.met.E.Key.exact c.args.entity.now c.as_slice.ensures.value c.self.invariant c.in_default.field-0
    c.in_default.ensures.bound c.in_default.ensures.position)
