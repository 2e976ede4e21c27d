-- The guess is taken out at its place, and the list rises still.
use Rattle.sk_ids.proofs.Names.{◌≡◌, refl, sym, ◌∙◌, ap, subst, nat_cmp, remove, IsStrictlySortedBy}
use Rattle.sk_ids.proofs.Names.{IsStrictlySortedBy-filter, without}
use Rattle.std.specs.Prelude.{eqb, not}
use Rattle.sk_ids.proofs.Newest.{without_none}
use Rattle.sk_ids.proofs.Searches.{taken_at}
use Rattle.sk_ids.proofs.tags.TagSet.without.Goals as goal

pub invariant_of-self : goal.invariant_of-self
invariant_of-self c =
    let rises = subst (IsStrictlySortedBy nat_cmp) c.self.view_is c.self.invariant in
    let left : c.remove.new.self ≡ without c.args.id c.args.self.now = c.remove.ensures ∙ ap (λ xs. remove xs c.in-Some.place) c.self.view_is ∙ taken_at c.args.id c.args.self.now rises c.in-Some.place c.in-Some.ensures.there.0 c.in-Some.ensures.there.1 in
    subst (IsStrictlySortedBy nat_cmp) (sym left) (IsStrictlySortedBy-filter nat_cmp (λ y. not (eqb y c.args.id)) c.args.self.now rises)

pub returns-in-Some : goal.returns-in-Some
returns-in-Some c =
    let rises = subst (IsStrictlySortedBy nat_cmp) c.self.view_is c.self.invariant in
    c.remove.ensures ∙ ap (λ xs. remove xs c.in-Some.place) c.self.view_is ∙ taken_at c.args.id c.args.self.now rises c.in-Some.place c.in-Some.ensures.there.0 c.in-Some.ensures.there.1

pub returns-in_default : goal.returns-in_default
returns-in_default c = sym (without_none c.args.id c.args.self.now (c.in_default.ensures.none refl))
