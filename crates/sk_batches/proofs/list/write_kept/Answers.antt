-- One piece stands behind the other.
use Rattle.sk_batches.proofs.Names.{◌≡◌, ◌+◌, ◌<◌, ◌++◌, length, take, drop, sym, ◌∙◌, ap, subst, arith, drop_all}
use Rattle.sk_batches.proofs.Names.{payload, kept_of, kept_records}
use Rattle.sk_batches.proofs.Lists.{IsWritten, both_length, payload_append, next_at, none_written, one_written, all_written}
use Rattle.sk_batches.proofs.list.write_kept.Goals as goal

pub loop-batch-init : goal.loop-batch-init
loop-batch-init c = none_written 0 (payload (kept_records c.args.batches.now)) c.args.room.now (omega (arith, c.requires))

pub write_kept-requires : goal.write_kept-requires
write_kept-requires c =
    let bs = c.args.batches.now in
    let i = c.loop-batch.batch-index in
    let b = c.batch-item.result in
    let lt : i < length bs = omega arith in
    let next = ap (λ xs. length (payload (kept_records xs))) (next_at bs i b lt c.batch-item.is) ∙ both_length (kept_of b) (kept_records (drop (i + 1) bs)) in
    omega (arith, next, c.loop-batch.invariant.within)

pub loop-batch-preserved : goal.loop-batch-preserved
loop-batch-preserved c =
    let bs = c.args.batches.now in
    let i = c.loop-batch.batch-index in
    let b = c.batch-item.result in
    let lt : i < length bs = omega arith in
    let rest = payload (kept_records (drop (i + 1) bs)) in
    subst (λ n. IsWritten (take 0 c.args.room.now) (payload (kept_records bs)) rest c.args.room.now c.write_kept.new.room (c.loop-batch.place + n)) (sym c.kept_len-place.ensures)
    (one_written (take 0 c.args.room.now) (payload (kept_records bs)) (payload (kept_records (drop i bs))) c.args.room.now c.loop-batch.room c.loop-batch.place (payload (kept_of b)) rest c.write_kept.new.room
    c.loop-batch.invariant (ap (λ xs. payload (kept_records xs)) (next_at bs i b lt c.batch-item.is) ∙ payload_append (kept_of b) (kept_records (drop (i + 1) bs))) c.write_kept.ensures)

pub returns : goal.returns
returns c =
    let bs = c.args.batches.now in
    let none = ap (λ xs. payload (kept_records xs)) (drop_all c.loop-batch.batch-index bs (omega arith)) in
    let whole = payload (kept_records bs) in
    let same : 0 + length whole ≡ length whole = omega arith in
    all_written 0 whole c.args.room.now c.loop-batch.room c.loop-batch.place (omega arith)
    (subst (λ ys. IsWritten (take 0 c.args.room.now) whole ys c.args.room.now c.loop-batch.room c.loop-batch.place) none c.loop-batch.invariant)
    ∙ (λ k. whole ++ drop (same k) c.args.room.now)
