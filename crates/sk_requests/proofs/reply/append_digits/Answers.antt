use Rattle.sk_requests.proofs.Names.{ℕ, List, [], ◌∷◌, ◌++◌, length, slice_index, take, sym, ◌∙◌, ap, arith}
use Rattle.sk_requests.proofs.Names.{length-append, append-nil, append_assoc, take_more, take_all}
use Rattle.sk_requests.proofs.reply.append_digits.Goals as goal

pub loop-digit-init : goal.loop-digit-init
loop-digit-init c = record {
  items = sym (append-nil c.args.out.now.items);
  room = omega (arith, c.requires);
  capacity = omega arith;
}

pub loop-digit-preserved : goal.loop-digit-preserved
loop-digit-preserved c =
    let digits = c.args.digits.now in
    let at = c.loop-digit.digit-index in
    let old = c.args.out.now.items in
    let one = slice_index digits at ∷ [] in
    let grown = c.push_reserved.ensures.items in
    record {
      items = grown ∙ ap (λ xs. xs ++ one) c.loop-digit.invariant.items ∙ append_assoc old (take at digits) one
          ∙ ap (λ xs. old ++ xs) (sym (take_more digits at 0 (omega arith)));
      room = omega (
        arith,
        c.loop-digit.invariant.room,
        c.push_reserved.ensures.capacity,
        ap (λ (xs : List ℕ). length xs) grown,
        length-append c.loop-digit.out.items one,
      );
      capacity = omega (arith, c.loop-digit.invariant.capacity, c.push_reserved.ensures.capacity);
    }

pub returns-clause-items : goal.returns-clause-items
returns-clause-items c =
    let index = c.loop-digit.digit-index in
    c.loop-digit.invariant.items ∙ ap (λ xs. c.args.out.now.items ++ xs) (take_all index c.args.digits.now (omega arith))
