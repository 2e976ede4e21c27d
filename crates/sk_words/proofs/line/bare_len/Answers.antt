-- Where a word ends: from the definition of words, byte by byte.
use Rattle.sk_words.proofs.Names.{rules, ◌≡◌, length, refl, arith, drop-length, Word}
use Rattle.sk_words.proofs.Cut.{goes_on_bare, stops, ends, word_is_inside}
use Rattle.sk_words.proofs.line.bare_len.Goals as goal

pub returns-then-is_blank-clause-cut : goal.returns-then-is_blank-clause-cut
returns-then-is_blank-clause-cut c = stops Word Word c.args.line.now c.loop-i.i (omega arith) c.loop-i.invariant refl (search rules)

pub loop-i-preserved : goal.loop-i-preserved
loop-i-preserved c = goes_on_bare c.args.line.now c.loop-i.i (omega arith) c.loop-i.invariant (search rules)

pub returns-clause-cut : goal.returns-clause-cut
returns-clause-cut c =
    let n : c.loop-i.i ≡ length c.args.line.now = omega arith in
    ends Word Word c.args.line.now (length c.args.line.now) (drop-length c.args.line.now)
    (rw n at c.loop-i.invariant) word_is_inside
