-- Both stand one behind the other.
use Rattle.sk_batches.proofs.Names.{◌≡◌, ◌++◌, length, drop, sym, subst, payload, kept_records}
use Rattle.sk_batches.proofs.Lists.{payload_append, filled}
use Rattle.sk_batches.proofs.queue.fill.Goals as goal

pub returns : goal.returns
returns c =
    let kept = kept_records c.args.batches.now in
    subst (λ bs. c.write.new.room ≡ bs ++ drop (length bs) c.args.room.now) (sym (payload_append kept c.args.records.now))
    (filled (payload kept) (payload c.args.records.now) c.args.room.now c.write_kept.new.room c.write.new.room c.kept_len.result c.kept_len.ensures c.write_kept.ensures c.write.ensures)
