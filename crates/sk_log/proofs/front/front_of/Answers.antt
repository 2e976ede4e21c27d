use Rattle.sk_log.proofs.Names.{◌≡◌, ◌+◌, ◌-◌, take, drop, sum, sym, ◌∙◌, ap, arith, false≢true}
use Rattle.sk_log.proofs.Told.{other_head, short_payload, other_sum, whole}
use Rattle.sk_log.proofs.front.front_of.Goals as goal

pub returns-then-not-are_same : goal.returns-then-not-are_same
returns-then-not-are_same c =
    other_head c.args.segment c.args.number c.said_len-len.result c.said_total-total.result c.args.bytes.now (omega (arith, c.if-bytes-lt-HEAD.false)) c.said_len-len.ensures.said c.said_total-total.ensures.said
    (λ equal. false≢true (sym c.if-not-are_same.true ∙ c.are_same.ensures.1 (equal ∙ sym c.head_bytes-whole_head.ensures)))

pub returns-then-bytes-len : goal.returns-then-bytes-len
returns-then-bytes-len c =
    short_payload c.args.segment c.args.number c.said_len-len.result c.said_total-total.result c.args.bytes.now (omega (arith, c.if-bytes-lt-HEAD.false)) c.said_len-len.ensures.said c.said_total-total.ensures.said
    (c.are_same.ensures.0 c.if-not-are_same.false ∙ c.head_bytes-whole_head.ensures) (omega (arith, c.if-bytes-len.true, c.if-bytes-lt-HEAD.false))

pub returns-then-sum_of-total : goal.returns-then-sum_of-total
returns-then-sum_of-total c =
    let len = c.said_len-len.result in
    let bytes = c.args.bytes.now in
    let same : 24 + len - 24 ≡ len = omega arith in
    let adds : c.sum_of.result ≡ sum (take len (drop 24 bytes)) = c.sum_of.ensures.value ∙ ap (λ n. sum (take n (drop 24 bytes))) same in
    other_sum c.args.segment c.args.number len c.said_total-total.result bytes (omega (arith, c.if-bytes-lt-HEAD.false)) c.said_len-len.ensures.said c.said_total-total.ensures.said
    (omega (arith, c.if-bytes-len.false, c.if-bytes-lt-HEAD.false)) (λ equal. omega (arith, c.if-sum_of-total.true, adds, equal))

pub returns : goal.returns
returns c =
    let len = c.said_len-len.result in
    let bytes = c.args.bytes.now in
    let same : 24 + len - 24 ≡ len = omega arith in
    let adds : c.sum_of.result ≡ sum (take len (drop 24 bytes)) = c.sum_of.ensures.value ∙ ap (λ n. sum (take n (drop 24 bytes))) same in
    whole c.args.segment c.args.number len c.said_total-total.result bytes (omega (arith, c.if-bytes-lt-HEAD.false)) c.said_len-len.ensures.said c.said_total-total.ensures.said
    (omega (arith, c.if-segment-ge-SEGMENT_LIMIT.false)) (omega (arith, c.if-number-ge-NUMBER_LIMIT.false)) c.said_len-len.ensures.small c.said_total-total.ensures.small
    (c.are_same.ensures.0 c.if-not-are_same.false ∙ c.head_bytes-whole_head.ensures) (omega (arith, c.if-bytes-len.false, c.if-bytes-lt-HEAD.false)) (omega (arith, c.if-sum_of-total.false, adds))
