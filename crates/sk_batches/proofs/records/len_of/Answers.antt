-- One record more is counted.
use Rattle.sk_batches.proofs.Names.{◌+◌, ◌<◌, length, drop, ◌∙◌, ap, arith, drop_all, length-append, payload}
use Rattle.sk_batches.proofs.Lists.{next_at}
use Rattle.sk_batches.proofs.records.len_of.Goals as goal

pub overflow_add-len : goal.overflow_add-len
overflow_add-len c =
    let rs = c.args.records.now in
    let i = c.loop-record.record-index in
    let r = c.record-item.result in
    let lt : i < length rs = omega arith in
    let next = ap (λ xs. length (payload xs)) (next_at rs i r lt c.record-item.is) ∙ length-append r.bytes (payload (drop (i + 1) rs)) in
    omega (arith, next, c.loop-record.invariant, ap length c.bytes.ensures, c.requires)

pub loop-record-preserved : goal.loop-record-preserved
loop-record-preserved c =
    let rs = c.args.records.now in
    let i = c.loop-record.record-index in
    let r = c.record-item.result in
    let lt : i < length rs = omega arith in
    let next = ap (λ xs. length (payload xs)) (next_at rs i r lt c.record-item.is) ∙ length-append r.bytes (payload (drop (i + 1) rs)) in
    omega (arith, next, c.loop-record.invariant, ap length c.bytes.ensures)

pub returns : goal.returns
returns c =
    let none = ap (λ xs. length (payload xs)) (drop_all c.loop-record.record-index c.args.records.now (omega arith)) in
    omega (arith, none, c.loop-record.invariant)
