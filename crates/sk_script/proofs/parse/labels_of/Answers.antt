-- The labels of all lines: from what each line adds to them.
use Rattle.sk_script.proofs.Names.{rules, ◌≡◌, ◌∷◌, ◌∙◌, length, refl, sym, arith, words, line_of}
use Rattle.sk_script.proofs.Marks.{labels_on, labels_end, place_bound}
use Rattle.sk_script.proofs.parse.labels_of.Goals as goal

pub loop-line-preserved : goal.loop-line-preserved
loop-line-preserved c =
    let some : length c.loop-line.lines.lines ≡ length (c.in-Some.line.now ∷ c.next.new.self.lines) = rw c.in-Some.ensures.lines refl in
    record {
      place = rw c.in_ok-place.ensures.1 (place_bound c.loop-line.place (line_of (words c.in-Some.line.now)) c.loop-line.invariant.place);
      fewer = omega (arith, some, c.loop-line.invariant.fewer);
      same = c.loop-line.invariant.same ∙ labels_on c.loop-line.labels c.mark.new.labels c.loop-line.place c.in_ok-place.place c.in-Some.line.now c.loop-line.lines.lines c.next.new.self.lines c.in-Some.ensures.lines c.in_ok-place.ensures.0 c.in_ok-place.ensures.1;
    }

pub returns-clause-labels : goal.returns-clause-labels
returns-clause-labels c = sym (c.loop-line.invariant.same ∙ labels_end c.loop-line.labels c.loop-line.place c.loop-line.lines.lines (search rules))
