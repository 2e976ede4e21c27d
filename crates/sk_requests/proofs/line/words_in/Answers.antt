use Rattle.sk_requests.proofs.Names.{◌≡◌, ◌+◌, [], ◌∷◌, ◌++◌, slice_index, drop, sym, ◌∙◌, ap, arith, at_drop_more}
use Rattle.sk_requests.proofs.Names.{at_drop_all, words_from, words_of}
use Rattle.sk_requests.proofs.line.words_in.Goals as goal

pub loop-byte-init : goal.loop-byte-init
loop-byte-init c = λ i. words_of (c.new-words.ensures.items i) ++ words_from (c.new-word.ensures.items i) c.trimmed-text.result.now

pub loop-byte-preserved : goal.loop-byte-preserved
loop-byte-preserved c =
    let text = c.trimmed-text.result.now in
    let at = c.loop-byte.byte-index in
    let more : words_from c.loop-byte.word.items (drop at text) ≡ words_from c.loop-byte.word.items (slice_index text at ∷ drop (at + 1) text) = at_drop_more (words_from c.loop-byte.word.items) text at 0 (omega arith) in
    c.in_ok-take_byte.ensures (drop (at + 1) text) ∙ ap (λ ws. words_of c.loop-byte.words.items ++ ws) (sym more) ∙ c.loop-byte.invariant

pub returns : goal.returns
returns c =
    let text = c.trimmed-text.result.now in
    let done : words_from c.loop-byte.word.items (drop c.loop-byte.byte-index text) ≡ words_from c.loop-byte.word.items [] = at_drop_all (words_from c.loop-byte.word.items) text c.loop-byte.byte-index (omega arith) in
    c.in_ok-end_word.ensures ∙ ap (λ ws. words_of c.loop-byte.words.items ++ ws) (sym done) ∙ c.loop-byte.invariant ∙ ap (words_from []) c.trimmed-text.ensures
