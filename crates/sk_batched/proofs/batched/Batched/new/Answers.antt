-- No guess is drawn, and no batch is undecided.
use Rattle.sk_batched.proofs.Names.{◌≤◌, ◌*◌, ◌+◌, refl, sym, ◌∙◌, ap, subst, new_queue, none_drawn}
use Rattle.sk_batched.proofs.Answering.{capped_small}
use Rattle.sk_batched.proofs.Barred.{new_barred}
use Rattle.sk_batched.proofs.Queues.{new_in_step, new_row}
use Rattle.sk_batched.proofs.batched.Batched.new.Goals as goal

pub invariant_of-result : goal.invariant_of-result
invariant_of-result g c =
    let most = c.capped-most.result.value in
    let small : c.capped-most.result.value ≤ 63 = subst (λ n. n ≤ 63) (sym c.capped-most.ensures) (capped_small c.args.most.value) in
    let guesses = c.new.ensures.guesses ∙ ap (none_drawn c.args.number) c.limit_of.ensures in (
      new_in_step c.new.result.parts c.new-2.result c.new-3.result.items c.args.number most c.args.most_bytes c.args.frame _
          (new_row c.new.result.parts c.args.number most small guesses c.new.ensures.opens c.new.ensures.look c.new.ensures.log) guesses c.new-2.ensures c.new-3.ensures.items,
      new_barred c.new.result.parts c.new.ensures.look c.new.ensures.log,
    )

pub returns : goal.returns
returns g c = record {
  look = c.new.ensures.look;
  log = c.new.ensures.log;
  guesses = c.new.ensures.guesses ∙ ap (none_drawn c.args.number) (c.limit_of.ensures ∙ ap (λ n. 2 * n + 1) c.capped-most.ensures);
  opens = c.new.ensures.opens;
  said = c.new.ensures.said;
  undone = c.new.ensures.undone;
  queue = c.new-2.ensures ∙ ap (λ n. new_queue n c.args.most_bytes c.args.frame) c.capped-most.ensures;
  begun = refl;
}
