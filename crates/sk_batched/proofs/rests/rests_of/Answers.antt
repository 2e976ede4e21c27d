-- All keys were gone through.
use Rattle.sk_batched.proofs.Names.{◌≡◌, ◌||◌, ◌&&◌, not, ℕ, [], drop, sym, ◌∙◌, ap, arith, ◌==◌, list_any, Vec}
use Rattle.sk_batched.proofs.Names.{drop_all, has, tags_at, bytes_cmp, undo_state_of}
use Rattle.sk_batched.proofs.Touched.{any_touched, or_no}
use Rattle.sk_batched.proofs.rests.rests_of.Goals as goal

pub returns : goal.returns
returns g c = λ n.
    let st = undo_state_of bytes_cmp c.args.kernel.now.parts in
    let looked = c.args.step.now.looked.items in
    let written = c.args.step.now.written.items in
    let none : drop c.loop-write.write-index written ≡ [] = drop_all c.loop-write.write-index written (omega arith) in
    sym (or_no (has n c.loop-write.rests.items))
    ∙ ap (λ ws. has n c.loop-write.rests.items || (list_any (λ (w : Vec ℕ × _). has n (tags_at st w.0.items)) ws && not (n == c.args.own))) (sym none)
    ∙ c.loop-write.invariant n
    ∙ ap (λ b. b && not (n == c.args.own)) (sym (any_touched (λ k. has n (tags_at st k)) looked written))
