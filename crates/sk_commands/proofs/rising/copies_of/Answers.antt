-- Each key stands behind those before it.
use Rattle.sk_commands.proofs.Names.{◌≡◌, ◌<◌, ◌≤◌, length, map, vec_items, get_or, take, take_all, take_more, sym, ap, subst, ◌∙◌, get_or-map, length-map, with_known}
use Rattle.sk_commands.proofs.InOrder.{next_behind}
use Rattle.sk_commands.proofs.rising.copies_of.Goals as goal

pub loop-key-preserved : goal.loop-key-preserved
loop-key-preserved c =
    let ks = map vec_items c.args.known.now in
    let i = c.loop-key.key-index in
    let key = c.key-item.result in
    let small : i < length ks = subst (λ n. i < n) (sym (length-map c.args.known.now vec_items)) c.loop-key-test.true in
    let is : c.as_slice.result.now ≡ get_or ks i key.items =
    c.as_slice.ensures.value ∙ ap vec_items c.key-item.is ∙ sym (get_or-map vec_items c.args.known.now i key key.items c.loop-key-test.true) in
    c.in_ok-add_copy.ensures ∙ ap (λ all. with_known all c.as_slice.result.now) c.loop-key.invariant
    ∙ ap (with_known (take i ks)) is ∙ next_behind ks i key.items small c.requires ∙ sym (take_more ks i key.items small)

pub returns : goal.returns
returns c =
    let ks = map vec_items c.args.known.now in
    c.loop-key.invariant ∙ take_all c.loop-key.key-index ks (subst (λ n. n ≤ c.loop-key.key-index) (sym (length-map c.args.known.now vec_items)) c.loop-key-test.false)
