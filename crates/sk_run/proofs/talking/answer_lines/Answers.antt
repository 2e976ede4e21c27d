-- How far the talk has come where it ends.
use Rattle.sk_run.proofs.Names.{rules, ◌≡◌, [], ◌∷◌, true, false, Err, ap, sym, subst, lines, writer_contents, Stop}
use Rattle.sk_run.proofs.Names.{Talk, is_end, EndsTalk, TakesLine}
use Rattle.sk_command.specs.declared.end.End.TheVariants as ends
use Rattle.sk_run.proofs.Talked.{Going, begins, goes_on, ends_by_line, ends_behind, ends_in_trouble}
use Rattle.sk_run.proofs.talking.answer_lines.Goals as goal

pub returns-in-Err-clause-end : goal.returns-in-Err-clause-end
returns-in-Err-clause-end g c =
    let input = g.R.Read.remaining c.args.reader.now in
    let old = writer_contents g.W.Write.contents c.args.out.now in
    let now = writer_contents g.W.Write.contents c.loop-number.out in
    subst (λ end. EndsTalk c.args.play input end old now) (sym c.tell_unread.ensures)
    (ends_in_trouble c.args.play input c.loop-number.number c.loop-number.talk (g.R.Read.remaining c.loop-number.reader) old now c.loop-number.invariant.going)

pub returns-in_default-next-clause-end : goal.returns-in_default-next-clause-end
returns-in_default-next-clause-end g c =
    let left = g.R.Read.remaining c.loop-number.reader in
    let then = g.R.Read.remaining c.next_line.new.reader in
    let none : lines c.next_line.new.line.items ≡ [] = search rules in
    let taken = subst (λ ls. TakesLine left then ls) none c.in_default.ensures in
    ends_behind c.args.play (g.R.Read.remaining c.args.reader.now) c.loop-number.number c.loop-number.talk left then (writer_contents g.W.Write.contents c.args.out.now)
    (writer_contents g.W.Write.contents c.loop-number.out) (writer_contents g.W.Write.contents c.flushed.new.out) c.flushed.result _ c.loop-number.invariant.going taken c.flushed.ensures.end c.flushed.ensures.kept

pub returns-then-is_end-clause-end : goal.returns-then-is_end-clause-end
returns-then-is_end-clause-end g c =
    let left = g.R.Read.remaining c.loop-number.reader in
    let then = g.R.Read.remaining c.next_line.new.reader in
    let text = c.in-Some.text.now in
    let one : lines c.next_line.new.line.items ≡ text ∷ c.next.new.self.lines = search rules in
    let taken = subst (λ ls. TakesLine left then ls) one c.in_default.ensures in
    let ends : is_end text ≡ true = sym {b = is_end text} c.if-is_end.ensures in
    ends_by_line c.args.play (g.R.Read.remaining c.args.reader.now) c.loop-number.number c.loop-number.talk left then (writer_contents g.W.Write.contents c.args.out.now)
    (writer_contents g.W.Write.contents c.loop-number.out) (writer_contents g.W.Write.contents c.flushed-then-is_end.new.out) text c.next.new.self.lines c.flushed-then-is_end.result _
    c.loop-number.invariant.going taken ends c.flushed-then-is_end.ensures.end c.flushed-then-is_end.ensures.kept

pub returns-in-Err-Memory-clause-end : goal.returns-in-Err-Memory-clause-end
returns-in-Err-Memory-clause-end g c =
    let input = g.R.Read.remaining c.args.reader.now in
    let old = writer_contents g.W.Write.contents c.args.out.now in
    subst (λ out. EndsTalk c.args.play input ends.Trouble old (writer_contents g.W.Write.contents out)) (sym (c.in-Err-Memory.ensures.memory (ap (λ (stop : Stop). Err stop) c.in-Err-Memory.field-0-is)).1)
    (ends_in_trouble c.args.play input c.loop-number.number c.loop-number.talk (g.R.Read.remaining c.loop-number.reader) old (writer_contents g.W.Write.contents c.loop-number.out)
    c.loop-number.invariant.going)

pub loop-number-init : goal.loop-number-init
loop-number-init g c =
    let input = g.R.Read.remaining c.args.reader.now in
    let old = writer_contents g.W.Write.contents c.args.out.now in record {
      going = subst (λ (talk : Talk). Going c.args.play input 1 talk input old old) (sym c.begin-talk.ensures) (begins c.args.play input old);
      at_once = λ h. h;
    }

pub loop-number-preserved : goal.loop-number-preserved
loop-number-preserved g c =
    let left = g.R.Read.remaining c.loop-number.reader in
    let then = g.R.Read.remaining c.next_line.new.reader in
    let text = c.in-Some.text.now in
    let one : lines c.next_line.new.line.items ≡ text ∷ c.next.new.self.lines = search rules in
    let taken = subst (λ ls. TakesLine left then ls) one c.in_default.ensures in
    let goes : is_end text ≡ false = sym {b = is_end text} c.if-is_end.ensures in
    let written = c.in-Ok.ensures.written in record {
      going = goes_on c.args.play (g.R.Read.remaining c.args.reader.now) c.loop-number.number c.loop-number.talk c.answer.new.self left then (writer_contents g.W.Write.contents c.args.out.now)
          (writer_contents g.W.Write.contents c.loop-number.out) (writer_contents g.W.Write.contents c.answer.new.out) text written.0 c.next.new.self.lines c.loop-number.invariant.going taken goes
          written.1 written.2;
      at_once = λ _. c.in-Ok.ensures.flushed;
    }

pub returns-clause-end : goal.returns-clause-end
returns-clause-end g c =
    let input = g.R.Read.remaining c.args.reader.now in
    let old = writer_contents g.W.Write.contents c.args.out.now in
    let now = writer_contents g.W.Write.contents c.loop-number.out in
    subst (λ end. EndsTalk c.args.play input end old now) (sym c.tell_unread-2.ensures)
    (ends_in_trouble c.args.play input c.loop-number.number c.loop-number.talk (g.R.Read.remaining c.loop-number.reader) old now c.loop-number.invariant.going)
