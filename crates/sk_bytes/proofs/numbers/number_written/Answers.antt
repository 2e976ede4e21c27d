-- One key more.
use Rattle.sk_bytes.proofs.Names.{map_push, ◌≡◌, ◌+◌, ◌++◌, ◌∷◌, [], None, map, take, sym, ap, ◌∙◌, subst, vec_items}
use Rattle.sk_bytes.proofs.Names.{number_of, take_next, names, AreNames, Gains}
use Rattle.sk_bytes.proofs.Moves.{names_kept, names_more, names_push, one_more_comes}
use Rattle.sk_bytes.proofs.numbers.number_written.Goals as goal

pub loop-write-preserved : goal.loop-write-preserved
loop-write-preserved g c =
    let l = c.loop-write in
    let es = l.index in
    let fs = c.number_for.new.index in
    let n = c.in_ok-number.number in
    let w = c.write-item.result in
    let ws = c.args.written.now in
    let i = l.write-index in
    let more = c.in_ok-number.ensures.more in
    let next : map (λ (v : _ × _). vec_items v.0) (take (i + 1) ws) ≡ map (λ (v : _ × _). vec_items v.0) (take i ws) ++ vec_items w.0 ∷ [] =
    ap (map (λ (v : _ × _). vec_items v.0)) (take_next ws i w c.loop-write-test.true c.write-item.is) ∙ map_push (λ (v : _ × _). vec_items v.0) (take i ws) w in
    let loose : c.push_reserved.new.self.items ≡ l.loose.items ++ n ∷ [] = c.push_reserved.ensures.items ∙ ap (λ xs. xs ++ n ∷ []) c.reserve.ensures.items in
    let numbers : names c.push_reserved-in-loop-write.new.self.items ≡ names l.numbered.items ++ n ∷ [] =
    ap names (c.push_reserved-in-loop-write.ensures.items ∙ ap (λ xs. xs ++ (n, None) ∷ []) c.reserve-in-loop-write.ensures.items) ∙ names_push l.numbered.items n None in
    let is = ap (number_of fs) (sym c.as_slice.ensures.value) ∙ c.in_ok-number.ensures.ok in (
      subst (λ xs. Gains c.args.index.now xs fs) (sym loose) (one_more_comes c.args.index.now es fs l.loose.items n l.invariant.0 more),
      subst (λ bs. AreNames (number_of fs) bs (names c.push_reserved-in-loop-write.new.self.items)) (sym next)
          (subst (AreNames (number_of fs) (map (λ (v : _ × _). vec_items v.0) (take i ws) ++ vec_items w.0 ∷ [])) (sym numbers)
          (names_more (number_of fs) (map (λ (v : _ × _). vec_items v.0) (take i ws)) (names l.numbered.items) (vec_items w.0) n
          (names_kept es fs (n ∷ []) l.invariant.0.two_way more (map (λ (v : _ × _). vec_items v.0) (take i ws)) (names l.numbered.items) l.invariant.1) is)),
      loose ∙ ap (λ xs. xs ++ n ∷ []) l.invariant.2 ∙ sym numbers,
    )
