use Rattle.std.proofs.Common.{◌≡◌, ◌∷◌, ◌++◌, [], decimal, sym, ◌∙◌, ap}
use Rattle.sk_requests.proofs.Lines.{head_parts}
use Rattle.sk_requests.proofs.reply.array.Goals as goal

pub returns-clause-ok : goal.returns-clause-ok
returns-clause-ok c =
    let digits : c.as_bytes-digits.result.now ≡ decimal c.args.count = c.as_bytes-digits.ensures.value ∙ c.format.ensures.text in
    c.append_head.ensures.items ∙ (λ i. c.in_ok-reserve.ensures.items i ++ 42 ∷ (digits i ++ 13 ∷ 10 ∷ [])) ∙ ap (λ xs. c.args.out.now.items ++ xs) (sym (head_parts 42 c.args.count))
