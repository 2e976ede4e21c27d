-- The search tells the place.
use Rattle.sk_terminal.proofs.Names.{◌≡◌, ◌||◌, sym, ◌∙◌, ap, subst, ◌==◌, Ok, Err, nat_cmp, IsStrictlySortedBy}
use Rattle.sk_terminal.proofs.Names.{IsBinarySearchResult, has, found}
use Rattle.sk_terminal.proofs.Numbers.{has_insert, place_at, place_for, put_rises, there_already}
use Rattle.sk_terminal.proofs.number_set.NumberSet.add.Goals as goal

pub invariant_of-self : goal.invariant_of-self
invariant_of-self c =
    let xs = c.self.inside.numbers.items in
    let there = subst (λ ys. IsBinarySearchResult (λ y. nat_cmp y c.args.number) ys (Err c.in-Err.place)) c.as_slice.ensures.value c.in-Err.ensures.position in
    subst (IsStrictlySortedBy nat_cmp) (sym c.in_ok-insert.ensures.items) (put_rises c.args.number xs c.in-Err.place c.self.invariant there)

pub returns-in_ok-insert-clause-ok : goal.returns-in_ok-insert-clause-ok
returns-in_ok-insert-clause-ok c = λ q.
    let xs = c.self.inside.numbers.items in
    let there = subst (λ ys. IsBinarySearchResult (λ y. nat_cmp y c.args.number) ys (Err c.in-Err.place)) c.as_slice.ensures.value c.in-Err.ensures.position in
    ap (has q) c.in_ok-insert.ensures.items ∙ has_insert q c.args.number xs c.in-Err.place (place_for c.args.number xs c.in-Err.place c.self.invariant there).0
    ∙ ap (λ ys. has q ys || (c.args.number == q)) c.self.view_is

pub returns-in_default-clause-ok : goal.returns-in_default-clause-ok
returns-in_default-clause-ok c = λ q.
    let xs = c.self.inside.numbers.items in
    let there = subst (λ ys. IsBinarySearchResult (λ y. nat_cmp y c.args.number) ys (Ok c.in_default.field-0)) c.as_slice.ensures.value c.in_default.ensures.position in
    let at = place_at c.args.number xs c.in_default.field-0 c.self.invariant there in
    subst (λ ys. has q ys ≡ (has q ys || (c.args.number == q))) c.self.view_is (there_already q c.args.number xs (found c.args.number xs c.in_default.field-0 at.0 at.1))
