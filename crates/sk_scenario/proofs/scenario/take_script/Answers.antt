-- One line more is taken, which does not end the script.
use Rattle.sk_scenario.proofs.Names.{rules, arith, ◌≡◌, false, not, take, refl, ◌∙◌, add-one, is_end}
use Rattle.sk_scenario.proofs.Scripts.{drop_next, take_next, all_more}
use Rattle.sk_scenario.proofs.scenario.take_script.Goals as goal

pub loop-line-preserved : goal.loop-line-preserved
loop-line-preserved c =
    let before = c.loop-line.invariant in
    let line = c.in-Some.line.now in
    let at = before.left ∙ c.in-Some.ensures.lines in
    let no : is_end line ≡ false = search rules in
    let sum = rw c.in-Some.ensures.lines at before.within in
    record {
      first = before.first;
      lines = before.lines;
      counted = omega (arith, before.counted, c.in-Some.ensures.line);
      within = omega (arith, sum);
      left = rw add-one (drop_next c.loop-line.count c.again-lines.result.lines line c.next.new.self.lines at);
      none = rw (add-one, take_next c.loop-line.count c.again-lines.result.lines line c.next.new.self.lines at) (all_more (λ l. not (is_end l)) (take c.loop-line.count c.again-lines.result.lines) line before.none (rw no refl));
    }
