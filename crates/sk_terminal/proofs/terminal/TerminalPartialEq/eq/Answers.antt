-- The released texts and those that wait are compared apart.
use Rattle.sk_terminal.proofs.Names.{◌≡◌, ◌&&◌, ap, sym, ◌∙◌, pointwise, Decides-at, texts_of, same_texts, exact_texts}
use Rattle.sk_ids.specs.contracts.text.TextPartialEq.TheImpl as text
use Rattle.sk_terminal.proofs.SameViews.{test_views}
use Rattle.sk_terminal.proofs.terminal.TerminalPartialEq.eq.Goals as goal

pub returns-then-released-clause-computed : goal.returns-then-released-clause-computed
returns-then-released-clause-computed c =
    let wait = same_texts (texts_of c.self.inside.waiting.items) (texts_of c.other.inside.waiting.items) in
    let out : c.eq-released.result ≡ pointwise (text.ghosts).eq c.self.inside.out.items c.other.inside.out.items = c.eq-released.ensures ∙ (λ i. pointwise (text.ghosts).eq (c.as_slice.ensures.value i) (c.as_slice-2.ensures.value i)) in
    c.same_waiting.ensures
    ∙ (λ i. same_texts (texts_of (c.as_slice-then-released.ensures.value i)) (texts_of (c.as_slice-then-released-2.ensures.value i)))
    ∙ ap (λ b. b && wait) (sym c.if-released.true ∙ out)
    ∙ test_views c.self.inside.out.items c.other.inside.out.items (texts_of c.self.inside.waiting.items) (texts_of c.other.inside.waiting.items) c.self.invariant.held c.other.invariant.held
    ∙ (λ i. same_texts (c.self.view_is i) (c.other.view_is i))

pub returns-then-released-clause-exact : goal.returns-then-released-clause-exact
returns-then-released-clause-exact c =
    Decides-at c.same_waiting.result (same_texts c.args.self.now c.args.other.now) (returns-then-released-clause-computed c) (exact_texts c.args.self.now c.args.other.now)

pub returns-else-released-clause-computed : goal.returns-else-released-clause-computed
returns-else-released-clause-computed c =
    let wait = same_texts (texts_of c.self.inside.waiting.items) (texts_of c.other.inside.waiting.items) in
    let out : c.eq-released.result ≡ pointwise (text.ghosts).eq c.self.inside.out.items c.other.inside.out.items = c.eq-released.ensures ∙ (λ i. pointwise (text.ghosts).eq (c.as_slice.ensures.value i) (c.as_slice-2.ensures.value i)) in
    c.if-released.false
    ∙ ap (λ b. b && wait) (sym c.if-released.false ∙ out)
    ∙ test_views c.self.inside.out.items c.other.inside.out.items (texts_of c.self.inside.waiting.items) (texts_of c.other.inside.waiting.items) c.self.invariant.held c.other.invariant.held
    ∙ (λ i. same_texts (c.self.view_is i) (c.other.view_is i))

pub returns-else-released-clause-exact : goal.returns-else-released-clause-exact
returns-else-released-clause-exact c =
    Decides-at c.eq-released.result (same_texts c.args.self.now c.args.other.now) (returns-else-released-clause-computed c) (exact_texts c.args.self.now c.args.other.now)
