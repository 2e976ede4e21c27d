-- Where a word ends: from the definition of words, byte by byte.
use Rattle.sk_words.proofs.Names.{rules, ◌≡◌, length, arith, drop-length}
use Rattle.sk_words.proofs.Cut.{goes_on, stops, ends}
use Rattle.sk_words.proofs.line.word_len.Goals as goal

pub returns-then-is_blank-clause-cut : goal.returns-then-is_blank-clause-cut
returns-then-is_blank-clause-cut c = stops c.args.from c.loop-i.place c.args.line.now c.loop-i.i (omega arith) c.loop-i.invariant.cut (search rules) (search rules)

pub loop-i-preserved : goal.loop-i-preserved
loop-i-preserved c = record {
  inside = c.behind-place.ensures.inside;
  cut = goes_on c.args.from c.loop-i.place c.behind-place.result c.args.line.now c.loop-i.i (omega arith) c.loop-i.invariant.cut c.behind-place.ensures.goes_on;
}

pub returns-clause-cut : goal.returns-clause-cut
returns-clause-cut c =
    let n : c.loop-i.i ≡ length c.args.line.now = omega arith in
    ends c.args.from c.loop-i.place c.args.line.now (length c.args.line.now) (drop-length c.args.line.now)
    (rw n at c.loop-i.invariant.cut) c.loop-i.invariant.inside
