use Rattle.sk_requests.proofs.Names.{◌≡◌, length, sym, ◌∙◌, subst, arith, eqb-true, append-nil, IsBehind}
use Rattle.sk_requests.proofs.reader.Reader.step.Goals as goal

pub returns-then-is_empty-clause-read : goal.returns-then-is_empty-clause-read
returns-then-is_empty-clause-read c = λ text behind.
    let none : length c.args.bytes.now ≡ 0 = eqb-true (length c.args.bytes.now) 0 (sym c.is_empty.ensures ∙ c.if-is_empty.true) in
    rw c.part.ensures (omega arith, λ some. omega (arith, some, none), subst (λ xs. IsBehind xs c.args.self.now) (sym (append-nil text)) behind)
