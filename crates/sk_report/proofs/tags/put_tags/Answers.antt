-- The first, and then the others.
use Rattle.sk_report.proofs.Names.{◌≡◌, ◌≤◌, ◌∙◌, ◌++◌, ◌∷◌, ℕ, List, [], length, drop, ap, sym, arith, decimal, flat_map, append_assoc, append-nil, take, take_all, ◌-◌, refl}
use Rattle.std.specs.Prelude.{get_or}
use Rattle.sk_report.specs.Printed.{tags_text}
use Rattle.sk_report.proofs.tags.put_tags.Goals as goal

first_and_others : (ids : List ℕ) (first : ℕ) → 1 ≤ length ids → first ≡ get_or ids 0 first → decimal first ++ flat_map (λ id. 44 ∷ decimal id) (drop 1 ids) ≡ tags_text ids
first_and_others [] first some at = absurd (omega arith)
first_and_others (x ∷ xs) first some at = ap (λ n. decimal n ++ flat_map (λ id. 44 ∷ decimal id) xs) at

rest_whole : (ids : List ℕ) → take (length ids - 1) (drop 1 ids) ≡ drop 1 ids
rest_whole [] = refl
rest_whole (x ∷ xs) = take_all (length (x ∷ xs) - 1) xs (omega arith)

pub returns-in-len1-up-clause-line : goal.returns-in-len1-up-clause-line
returns-in-len1-up-clause-line c =
    let ids = c.args.ids.now in
    let more : List ℕ = flat_map (λ (id : ℕ). 44 ∷ decimal id) (drop 1 ids) in
    c.put_number.ensures.line
    ∙ ap (λ (l : List ℕ). l ++ drop c.put_more-start.result c.put_more-start.new.line) (append-nil (decimal c.number.result))
    ∙ (λ j. decimal (c.number.ensures.value j) ++ c.put_more-start.ensures.line j)
    ∙ ap (λ (xs : List ℕ). decimal c.first-item.result ++ (flat_map (λ (id : ℕ). 44 ∷ decimal id) xs ++ drop c.args.end c.args.line.now)) (rest_whole ids)
    ∙ sym (append_assoc (decimal c.first-item.result) more (drop c.args.end c.args.line.now))
    ∙ ap (λ l. l ++ drop c.args.end c.args.line.now) (first_and_others ids c.first-item.result c.in-len1-up.len_at_least c.first-item.is)
