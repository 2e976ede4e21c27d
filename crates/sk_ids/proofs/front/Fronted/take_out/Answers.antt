-- The front goes by a number, and what stands behind it is moved.
use Rattle.sk_ids.proofs.Names.{rules, ◌<◌, ◌+◌, ◌≤◌, length, arith, sym, ◌∙◌, ap, subst, remove, length-remove}
use Rattle.std.specs.Prelude.{drop}
use Rattle.sk_ids.proofs.Fronts.{front_gone, removed, behind}
use Rattle.sk_ids.proofs.front.Fronted.take_out.Goals as goal

pub overflow_add-self : goal.overflow_add-self
overflow_add-self c =
    let within = behind c.self.inside.gone c.args.place c.self.inside.list.items (subst (λ xs. c.args.place < length xs) (sym c.self.view_is) c.requires) in
    let some : c.self.inside.gone + 1 ≤ length c.self.inside.list.items = omega (within, arith) in
    search (rules, some)

pub invariant_of-self : goal.invariant_of-self
invariant_of-self c =
    let within = behind c.self.inside.gone c.args.place c.self.inside.list.items (subst (λ xs. c.args.place < length xs) (sym c.self.view_is) c.requires) in
    omega (within, arith)

pub overflow_add-self-inside : goal.overflow_add-self-inside
overflow_add-self-inside c =
    let within = behind c.self.inside.gone c.args.place c.self.inside.list.items (subst (λ xs. c.args.place < length xs) (sym c.self.view_is) c.requires) in
    search (rules, within)

pub remove-requires : goal.remove-requires
remove-requires c = (omega arith, behind c.self.inside.gone c.args.place c.self.inside.list.items (subst (λ xs. c.args.place < length xs) (sym c.self.view_is) c.requires))

pub invariant_of-self-else-place-eq0 : goal.invariant_of-self-else-place-eq0
invariant_of-self-else-place-eq0 c =
    let within = behind c.self.inside.gone c.args.place c.self.inside.list.items (subst (λ xs. c.args.place < length xs) (sym c.self.view_is) c.requires) in
    let left = ap length c.remove.ensures.items in
    let one_less = length-remove c.self.inside.list.items (c.self.inside.gone + c.args.place) within in
    let other = c.if-place-eq0.false in
    omega (within, left, one_less, arith)

pub returns-then-place-eq0 : goal.returns-then-place-eq0
returns-then-place-eq0 c =
    let within = behind c.self.inside.gone c.args.place c.self.inside.list.items (subst (λ xs. c.args.place < length xs) (sym c.self.view_is) c.requires) in
    front_gone c.self.inside.gone c.self.inside.list.items (omega (within, arith)) ∙ (λ i. remove (c.self.view_is i) (sym c.if-place-eq0.true i))

pub returns-else-place-eq0 : goal.returns-else-place-eq0
returns-else-place-eq0 c =
    ap (λ xs. drop c.self.inside.gone xs) c.remove.ensures.items ∙ removed c.self.inside.gone c.args.place c.self.inside.list.items ∙ ap (λ xs. remove xs c.args.place) c.self.view_is
