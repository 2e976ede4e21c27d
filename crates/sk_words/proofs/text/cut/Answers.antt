-- What stands before and behind the first separator: from the definition of parts, byte by byte.
use Rattle.sk_words.proofs.Names.{◌≡◌, ◌+◌, ◌-◌, length, take, drop, arith, drop-length, take_all, length-drop}
use Rattle.sk_words.proofs.Parts.{goes_on, stops, never}
use Rattle.sk_words.proofs.text.cut.Goals as goal

pub returns-then-byte-separator-clause-parts : goal.returns-then-byte-separator-clause-parts
returns-then-byte-separator-clause-parts c =
    let whole : take (length c.args.text.now - (c.loop-i.i + 1)) (drop (c.loop-i.i + 1) c.args.text.now) ≡ drop (c.loop-i.i + 1) c.args.text.now
    = take_all (length c.args.text.now - (c.loop-i.i + 1)) (drop (c.loop-i.i + 1) c.args.text.now) (omega (arith, length-drop (c.loop-i.i + 1) c.args.text.now)) in
    rw whole (stops c.args.separator c.args.text.now c.loop-i.i (omega arith) c.if-byte-separator.true c.loop-i.invariant)

pub loop-i-preserved : goal.loop-i-preserved
loop-i-preserved c = goes_on c.args.separator c.args.text.now c.loop-i.i (omega arith) c.if-byte-separator.false c.loop-i.invariant

pub returns-clause-parts : goal.returns-clause-parts
returns-clause-parts c =
    let n : c.loop-i.i ≡ length c.args.text.now = omega arith in
    never c.args.separator c.args.text.now (length c.args.text.now) (drop-length c.args.text.now) (take_all (length c.args.text.now) c.args.text.now (omega arith)) (rw n at c.loop-i.invariant)
