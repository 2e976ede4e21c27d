-- One piece stands behind the other.
use Rattle.sk_batches.proofs.Names.{◌≡◌, ◌+◌, ◌<◌, ◌≤◌, ◌++◌, length, take, drop, sym, ◌∙◌, ap, subst, arith, drop_all}
use Rattle.sk_batches.proofs.Names.{length-append, payload}
use Rattle.sk_batches.proofs.Lists.{IsWritten, next_at, none_written, one_written, all_written}
use Rattle.sk_batches.proofs.records.Records.write.Goals as goal

pub loop-record-init : goal.loop-record-init
loop-record-init c =
    none_written c.args.place (payload c.as_slice-record-items.result.now) c.args.room.now
    (subst (λ rs. c.args.place + length (payload rs) ≤ length c.args.room.now) (sym (c.as_slice-record-items.ensures.value ∙ c.self.view_is)) c.requires)

pub put-requires : goal.put-requires
put-requires c =
    let rs = c.as_slice-record-items.result.now in
    let i = c.loop-record.record-index in
    let r = c.record-item.result in
    let lt : i < length rs = omega arith in
    let next = ap (λ xs. length (payload xs)) (next_at rs i r lt c.record-item.is) ∙ length-append r.bytes (payload (drop (i + 1) rs)) in
    omega (arith, next, c.loop-record.invariant.within, ap length c.bytes-piece.ensures)

pub loop-record-preserved : goal.loop-record-preserved
loop-record-preserved c =
    let rs = c.as_slice-record-items.result.now in
    let i = c.loop-record.record-index in
    let r = c.record-item.result in
    let lt : i < length rs = omega arith in
    one_written (take c.args.place c.args.room.now) (payload rs) (payload (drop i rs)) c.args.room.now c.loop-record.room c.loop-record.at c.bytes-piece.result.now (payload (drop (i + 1) rs)) c.put.new.room
    c.loop-record.invariant (ap payload (next_at rs i r lt c.record-item.is) ∙ ap (λ bs. bs ++ payload (drop (i + 1) rs)) (sym c.bytes-piece.ensures)) c.put.ensures

pub returns : goal.returns
returns c =
    let rs = c.as_slice-record-items.result.now in
    let same = c.as_slice-record-items.ensures.value ∙ c.self.view_is in
    let none = ap payload (drop_all c.loop-record.record-index rs (omega arith)) in
    subst (λ xs. c.loop-record.room ≡ take c.args.place c.args.room.now ++ (payload xs ++ drop (c.args.place + length (payload xs)) c.args.room.now)) same
    (all_written c.args.place (payload rs) c.args.room.now c.loop-record.room c.loop-record.at (omega (arith, c.requires))
    (subst (λ ys. IsWritten (take c.args.place c.args.room.now) (payload rs) ys c.args.room.now c.loop-record.room c.loop-record.at) none c.loop-record.invariant))
