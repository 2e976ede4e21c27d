-- The texts of the prefix went over, and the rest stayed: from the lemmas on the prefix.
use Rattle.sk_terminal.proofs.Names.{◌≡◌, ◌++◌, List, length, map, take, drop, sym, ◌∙◌, ap, subst, arith, prefix_len}
use Rattle.sk_terminal.proofs.Names.{released, TaggedText, clear, is_clear, texts_of, AreBounded, Held}
use Rattle.sk_terminal.proofs.HeldTexts.{prefix_texts, texts_drop, texts_take, bounded_drop}
use Rattle.sk_terminal.proofs.Views.{prefix-released, released-parts, released-rest, released-taken}
use Rattle.sk_terminal.proofs.terminal.release.Goals as goal

pub returns-then-count-gt0-clause-texts : goal.returns-then-count-gt0-clause-texts
returns-then-count-gt0-clause-texts c =
    let hs = c.args.waiting.now.items in
    let rs = c.args.out.now.items in
    let n = c.clear_count-count.result in
    let long : n ≡ length (released (texts_of hs)) = c.clear_count-count.ensures ∙ ap (prefix_len (λ (h : Held). is_clear h.said)) c.as_slice.ensures.value ∙ prefix_texts hs ∙ prefix-released (texts_of hs) in
    let over : c.append.new.out.items ≡ rs ++ released (texts_of hs) = c.append.ensures.texts ∙ ap (λ xs. rs ++ map (λ (h : Held). h.said.0) (take n xs)) c.deref.ensures.value
    ∙ ap (λ xs. rs ++ xs) (texts_take n hs ∙ ap (λ k. map (λ (x : TaggedText). x.0) (take k (texts_of hs))) long ∙ released-taken (texts_of hs)) in
    let rest : texts_of c.drop_front.new.texts.items ≡ drop (length (released (texts_of hs))) (texts_of hs) = ap texts_of c.drop_front.ensures ∙ texts_drop n hs ∙ ap (λ k. drop k (texts_of hs)) long in
    (λ i. map clear (over i) ++ rest i) ∙ released-parts rs (texts_of hs)

pub returns-then-count-gt0-clause-held : goal.returns-then-count-gt0-clause-held
returns-then-count-gt0-clause-held c =
    let hs = c.args.waiting.now.items in
    let n = c.clear_count-count.result in
    let long : n ≡ length (released (texts_of hs)) = c.clear_count-count.ensures ∙ ap (prefix_len (λ (h : Held). is_clear h.said)) c.as_slice.ensures.value ∙ prefix_texts hs ∙ prefix-released (texts_of hs) in
    ap released (ap texts_of c.drop_front.ensures ∙ texts_drop n hs ∙ ap (λ k. drop k (texts_of hs)) long) ∙ released-rest (texts_of hs)

pub returns-then-count-gt0-clause-bounds : goal.returns-then-count-gt0-clause-bounds
returns-then-count-gt0-clause-bounds c high b = subst (λ (xs : List Held). AreBounded 0 xs high) (sym c.drop_front.ensures) (bounded_drop 0 high c.clear_count-count.result c.args.waiting.now.items b)

pub returns-else-count-gt0-clause-held : goal.returns-else-count-gt0-clause-held
returns-else-count-gt0-clause-held c =
    let hs = c.args.waiting.now.items in
    let n = c.clear_count-count.result in
    let long : n ≡ length (released (texts_of hs)) = c.clear_count-count.ensures ∙ ap (prefix_len (λ (h : Held). is_clear h.said)) c.as_slice.ensures.value ∙ prefix_texts hs ∙ prefix-released (texts_of hs) in
    let none = c.if-count-gt0.false in
    let zero_is : length (released (texts_of hs)) ≡ 0 = omega arith in
    sym (ap (λ k. released (drop k (texts_of hs))) zero_is) ∙ released-rest (texts_of hs)
