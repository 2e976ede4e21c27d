-- The search tells the place.
use Rattle.sk_terminal.proofs.Names.{sym, ◌∙◌, ap, subst, eqb, Ok, Err, nat_cmp, IsStrictlySortedBy}
use Rattle.sk_terminal.proofs.Names.{IsBinarySearchResult, IsStrictlySortedBy-filter, has, without, without_none}
use Rattle.sk_terminal.proofs.Names.{taken_at, tells}
use Rattle.std.specs.Prelude.{not}
use Rattle.sk_terminal.proofs.Numbers.{place_at}
use Rattle.sk_terminal.proofs.number_set.NumberSet.without.Goals as goal

pub invariant_of-self : goal.invariant_of-self
invariant_of-self c =
    let xs = c.self.inside.numbers.items in
    let there = subst (λ ys. IsBinarySearchResult (λ y. nat_cmp y c.args.number) ys (Ok c.in-Ok.place)) c.as_slice.ensures.value c.in-Ok.ensures.position in
    let at = place_at c.args.number xs c.in-Ok.place c.self.invariant there in
    subst (IsStrictlySortedBy nat_cmp) (sym (c.remove.ensures.items ∙ taken_at c.args.number xs c.self.invariant c.in-Ok.place at.0 at.1))
    (IsStrictlySortedBy-filter nat_cmp (λ y. not (eqb y c.args.number)) xs c.self.invariant)

pub returns-in-Ok : goal.returns-in-Ok
returns-in-Ok c =
    let xs = c.self.inside.numbers.items in
    let there = subst (λ ys. IsBinarySearchResult (λ y. nat_cmp y c.args.number) ys (Ok c.in-Ok.place)) c.as_slice.ensures.value c.in-Ok.ensures.position in
    let at = place_at c.args.number xs c.in-Ok.place c.self.invariant there in
    c.remove.ensures.items ∙ taken_at c.args.number xs c.self.invariant c.in-Ok.place at.0 at.1 ∙ ap (without c.args.number) c.self.view_is

pub returns-in_default : goal.returns-in_default
returns-in_default c =
    let xs = c.self.inside.numbers.items in
    let there = subst (λ ys. IsBinarySearchResult (λ y. nat_cmp y c.args.number) ys (Err c.in_default.field-0)) c.as_slice.ensures.value c.in_default.ensures.position in
    sym (without_none c.args.number c.args.self.now (ap (has c.args.number) (sym c.self.view_is) ∙ sym (tells c.args.number xs c.self.invariant (Err c.in_default.field-0) there)))
