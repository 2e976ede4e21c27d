-- One key more.
use Rattle.sk_bytes.proofs.Names.{map_push, ◌≡◌, ◌+◌, ◌++◌, ◌∷◌, [], map, take, sym, ap, ◌∙◌, vec_items, at_key}
use Rattle.sk_bytes.proofs.Names.{keys_of, number_of, take_next}
use Rattle.sk_bytes.proofs.Moves.{keys_push}
use Rattle.sk_bytes.proofs.numbers.number_looked.Goals as goal

pub loop-key-preserved : goal.loop-key-preserved
loop-key-preserved g c =
    let key = number_of c.args.index.now in
    let ks = c.args.looked.now in
    let i = c.loop-key.key-index in
    let w = c.key-item.result in
    let next : map vec_items (take (i + 1) ks) ≡ map vec_items (take i ks) ++ vec_items w ∷ [] = ap (map vec_items) (take_next ks i w c.loop-key-test.true c.key-item.is) ∙ map_push vec_items (take i ks) w in
    let found : c.find_looked.result ≡ key (vec_items w) = c.find_looked.ensures ∙ ap key c.as_slice.ensures.value in
    c.push_found.ensures
    ∙ (λ j. (c.reserve.ensures.items ∙ c.loop-key.invariant) j ++ at_key [] (λ n. n ∷ []) (found j))
    ∙ sym (ap (keys_of key) next ∙ keys_push key (map vec_items (take i ks)) (vec_items w))
