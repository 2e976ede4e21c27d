use Rattle.sk_requests.proofs.Names.{◌≡◌, ◌≤◌, [], ◌∷◌, ◌++◌, length, slice_index, take, drop, Ok, sym, ◌∙◌, ap, subst}
use Rattle.sk_requests.proofs.Names.{if◌then◌else◌, ◌==◌, err_from_is_err_and, IsLine, TakesLine, HasFault, IsAt, Reads}
use Rattle.sk_requests.specs.declared.fault.Fault.TheVariants as faults
use Rattle.sk_requests.proofs.Steps.{begins_with, line_on, front_long, at_front}
use Rattle.sk_requests.proofs.reader.Reader.front.Goals as goal

pub returns-then-first-eq10-clause-read : goal.returns-then-first-eq10-clause-read
returns-then-first-eq10-clause-read c = λ text behind.
    let bytes = c.args.bytes.now in
    let is : bytes ≡ 10 ∷ drop 1 bytes = begins_with bytes c.requires.some ∙ ap (λ b. b ∷ drop 1 bytes) c.if-first-eq10.true in
    subst (λ xs. Reads text xs c.front_end.result c.front_end.new.self) (sym is) (c.front_end.ensures.read text (drop 1 bytes) behind)

pub returns-in_err-count-clause-read : goal.returns-in_err-count-clause-read
returns-in_err-count-clause-read c =
    let old = c.args.self.now in
    let new = record old { part = c.take_line.new.part } in
    let p = err_from_is_err_and c.from_residual.result c.from_residual.ensures.1 in
    rw (p.1, p.2) (λ text behind.
    let at = subst (λ p. IsAt p old text) c.requires.place behind.1 in
    let same = c.in_err-count.ensures in
    (behind.0, at_front new text c.requires.place (same ∙ at.0) (subst (λ xs. IsLine xs × (length xs ≤ old.limits.line)) (sym same) at.1)))

pub returns-in-Some-clause-read : goal.returns-in-Some-clause-read
returns-in-Some-clause-read c = λ text behind.
    let old = c.args.self.now in
    let new = record old { part = c.take_line.new.part } in
    let chunk = take c.in-Some.count c.args.bytes.now in
    let at = subst (λ p. IsAt p old text) c.requires.place behind.1 in
    let takes = subst (λ v. TakesLine old.limits.line old.part.items c.args.bytes.now (Ok v) c.take_line.new.part.items) c.in-Some.is c.in_ok-count.ensures in
    rw c.part.ensures (
      takes.0,
      λ some. takes.4 c.if-first-eq10.false some,
      (behind.0, at_front new (text ++ chunk) c.requires.place (takes.1 ∙ ap (λ xs. xs ++ chunk) at.0) (line_on old.part.items chunk c.take_line.new.part.items old.limits.line at.1 takes.2 takes.1 takes.3)),
    )

pub returns-in-None-clause-read : goal.returns-in-None-clause-read
returns-in-None-clause-read c = λ text behind.
    let old = c.args.self.now in
    let bytes = c.args.bytes.now in
    let new = record old { part = c.take_line.new.part } in
    let at = subst (λ p. IsAt p old text) c.requires.place behind.1 in
    let takes = subst (λ v. TakesLine old.limits.line old.part.items bytes (Ok v) c.take_line.new.part.items) c.in-None.is c.in_ok-count.ensures in
    let fault : c.front_fault.result ≡ (if slice_index (old.part.items ++ slice_index bytes 0 ∷ []) 0 == 42 then faults.Count else faults.Line) =
    c.front_fault.ensures ∙ ap (λ xs. if slice_index (xs ++ slice_index bytes 0 ∷ []) 0 == 42 then faults.Count else faults.Line) (c.deref.ensures.value ∙ takes.0) in (
      subst (λ f. HasFault old.limits f (text ++ bytes)) (sym fault) (front_long old.limits old.part.items text bytes takes.1.0 at.0 at.1.0 behind.0 c.requires.some takes.1.1 takes.1.2 takes.1.3),
      (behind.0, at_front new text c.requires.place (takes.0 ∙ at.0) (subst (λ xs. IsLine xs × (length xs ≤ old.limits.line)) (sym takes.0) at.1)),
    )
