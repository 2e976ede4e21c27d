use Rattle.sk_log.proofs.Names.{Some, sym, ◌∙◌, ap, arith, false≢true}
use Rattle.sk_log.proofs.Told.{no_first_as, short_as}
use Rattle.sk_log.proofs.First.{first_is, first_stands}
use Rattle.sk_log.proofs.front.first_number.Goals as goal

pub returns-then-segment-ge-SEGMENT_LIMIT-clause-none : goal.returns-then-segment-ge-SEGMENT_LIMIT-clause-none
returns-then-segment-ge-SEGMENT_LIMIT-clause-none c = λ none number left same p more made is. omega (arith, made.segment_small, c.if-segment-ge-SEGMENT_LIMIT.true)

pub returns-then-segment-ge-SEGMENT_LIMIT-clause-synced : goal.returns-then-segment-ge-SEGMENT_LIMIT-clause-synced
returns-then-segment-ge-SEGMENT_LIMIT-clause-synced c = λ number synced payloads left same crashed some.
    absurd (first_stands c.args.segment number synced payloads left crashed some (λ p more made is. omega (arith, made.segment_small, c.if-segment-ge-SEGMENT_LIMIT.true)))

pub returns-then-bytes-lt-HEAD-clause-none : goal.returns-then-bytes-lt-HEAD-clause-none
returns-then-bytes-lt-HEAD-clause-none c = λ none number left same. short_as c.args.segment number c.args.bytes.now left same c.if-bytes-lt-HEAD.true

pub returns-then-bytes-lt-HEAD-clause-synced : goal.returns-then-bytes-lt-HEAD-clause-synced
returns-then-bytes-lt-HEAD-clause-synced c = λ number synced payloads left same crashed some.
    absurd (first_stands c.args.segment number synced payloads left crashed some (short_as c.args.segment number c.args.bytes.now left same c.if-bytes-lt-HEAD.true))

pub returns-then-not-are_same-clause-none : goal.returns-then-not-are_same-clause-none
returns-then-not-are_same-clause-none c = λ none number left same.
    no_first_as c.args.segment number c.said_number-number.result c.said_len.result c.said_total.result c.args.bytes.now left same (omega (arith, c.if-bytes-lt-HEAD.false)) c.said_len.ensures.said c.said_total.ensures.said
    c.said_number-number.ensures.said (λ equal. false≢true (sym c.if-not-are_same.true ∙ c.are_same.ensures.1 (equal ∙ sym c.head_bytes-whole_head.ensures)))

pub returns-then-not-are_same-clause-synced : goal.returns-then-not-are_same-clause-synced
returns-then-not-are_same-clause-synced c = λ number synced payloads left same crashed some.
    absurd (first_stands c.args.segment number synced payloads left crashed some
    (no_first_as c.args.segment number c.said_number-number.result c.said_len.result c.said_total.result c.args.bytes.now left same (omega (arith, c.if-bytes-lt-HEAD.false)) c.said_len.ensures.said c.said_total.ensures.said
    c.said_number-number.ensures.said (λ equal. false≢true (sym c.if-not-are_same.true ∙ c.are_same.ensures.1 (equal ∙ sym c.head_bytes-whole_head.ensures)))))

pub returns-clause-written : goal.returns-clause-written
returns-clause-written c = λ number synced payloads left same crashed.
    first_is c.args.segment number synced c.said_number-number.result c.said_len.result c.said_total.result payloads left crashed c.said_number-number.ensures.small
    (same ∙ c.are_same.ensures.0 c.if-not-are_same.false ∙ c.head_bytes-whole_head.ensures)

pub returns-clause-synced : goal.returns-clause-synced
returns-clause-synced c = λ number synced payloads left same crashed some.
    ap Some (first_is c.args.segment number synced c.said_number-number.result c.said_len.result c.said_total.result payloads left crashed c.said_number-number.ensures.small
    (same ∙ c.are_same.ensures.0 c.if-not-are_same.false ∙ c.head_bytes-whole_head.ensures))
