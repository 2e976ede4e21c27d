-- The fault of the line that was taken last is the first of all lines: from the lines that were left.
use Rattle.sk_words.proofs.Names.{◌≡◌, ◌≤◌, ◌+◌, ◌∷◌, length, refl, arith, last_line}
use Rattle.sk_words.proofs.FirstFault.{told_here}
use Rattle.sk_words.proofs.reader.read.Goals as goal

pub returns-in-Err : goal.returns-in-Err
returns-in-Err g c =
    let n = c.loop-line.lines.line + 1 in
    let some : length c.loop-line.lines.lines ≡ length (c.in-Some.line.now ∷ c.next.new.self.lines) = rw c.in-Some.ensures.lines refl in
    let within : c.loop-line.lines.line + 1 ≤ last_line c.args.lines.now = omega (arith, some, c.loop-line.invariant.last) in
    let from : c.args.lines.now.line + 1 ≤ n = omega (arith, c.loop-line.invariant.first) in
    let told = told_here g.R.Reader.said c.loop-line.reader (c.args.lines.now.line + 1) n (last_line c.args.lines.now) c.in-Some.line.now c.next.new.self.lines c.in-Err.kind from within c.in-Err.ensures.0 in
    rw (c.fault.ensures, c.in-Some.ensures.line, c.loop-line.invariant.same, c.in-Some.ensures.lines) told
