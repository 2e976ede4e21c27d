use Rattle.sk_requests.proofs.Names.{◌≡◌, ◌∷◌, ◌++◌, [], length, decimal, sym, ◌∙◌, ap, append_assoc, head}
use Rattle.sk_requests.proofs.Lines.{head_parts}
use Rattle.sk_requests.proofs.reply.bulk.Goals as goal

pub returns-clause-ok : goal.returns-clause-ok
returns-clause-ok c =
    let old = c.args.out.now.items in
    let bytes = c.args.bytes.now in
    let size = length bytes in
    let digits : c.as_bytes-digits.result.now ≡ decimal size = c.as_bytes-digits.ensures.value ∙ c.format.ensures.text in
    let start : c.append_head.new.out.items ≡ old ++ head 36 size =
    c.append_head.ensures.items ∙ (λ i. c.in_ok-reserve.ensures.items i ++ 36 ∷ (digits i ++ 13 ∷ 10 ∷ [])) ∙ ap (λ xs. old ++ xs) (sym (head_parts 36 size)) in
    c.append_end.ensures.items
    ∙ ap (λ xs. xs ++ 13 ∷ 10 ∷ []) (c.append.ensures.items ∙ ap (λ xs. xs ++ bytes) start)
    ∙ append_assoc (old ++ head 36 size) bytes (13 ∷ 10 ∷ [])
    ∙ append_assoc old (head 36 size) (bytes ++ 13 ∷ 10 ∷ [])
