use Rattle.sk_requests.proofs.Names.{◌≡◌, ℕ, ◌+◌, ◌<◌, List, [], ◌∷◌, ◌++◌, length, slice_index, take, sym, ◌∙◌, ap}
use Rattle.sk_requests.proofs.Names.{arith, length-append, map, append-nil, append_assoc, map-append, take_more}
use Rattle.sk_requests.proofs.Names.{take_all, in_line}
use Rattle.sk_requests.proofs.reply.append_text.Goals as goal

-- one byte more
mapped : (text : List ℕ) (i : ℕ) → i < length text → map in_line (take (i + 1) text) ≡ map in_line (take i text) ++ in_line (slice_index text i) ∷ []
mapped text i lt = ap (map in_line) (take_more text i 0 lt) ∙ map-append in_line (take i text) (slice_index text i ∷ [])

pub loop-byte-init : goal.loop-byte-init
loop-byte-init c = record {
  items = sym (append-nil c.args.out.now.items);
  room = omega (arith, c.requires);
  capacity = omega arith;
}

pub loop-byte-preserved : goal.loop-byte-preserved
loop-byte-preserved c =
    let text = c.args.text.now in
    let at = c.loop-byte.byte-index in
    let old = c.args.out.now.items in
    let front = map in_line (take at text) in
    let grown = c.push_reserved.ensures.items in
    record {
      items = grown ∙ (λ i. c.loop-byte.invariant.items i ++ c.in_line.ensures i ∷ []) ∙ append_assoc old front (in_line (slice_index text at) ∷ []) ∙ ap (λ xs. old ++ xs) (sym (mapped text at (omega arith)));
      room = omega (arith, c.loop-byte.invariant.room, c.push_reserved.ensures.capacity, ap (λ (xs : List ℕ). length xs) grown, length-append c.loop-byte.out.items (c.in_line.result ∷ []));
      capacity = omega (arith, c.loop-byte.invariant.capacity, c.push_reserved.ensures.capacity);
    }

pub returns-clause-items : goal.returns-clause-items
returns-clause-items c =
    c.loop-byte.invariant.items ∙ ap (λ xs. c.args.out.now.items ++ map in_line xs) (take_all c.loop-byte.byte-index c.args.text.now (omega arith))
