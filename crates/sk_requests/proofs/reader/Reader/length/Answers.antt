use Rattle.sk_requests.proofs.Names.{◌≡◌, ℕ, ◌≤◌, List, [], ◌∷◌, ◌++◌, length, slice_index, take, drop, Ok, sym, ◌∙◌}
use Rattle.sk_requests.proofs.Names.{ap, subst, if◌then◌else◌, ◌==◌, err_from_is_err_and, IsLine, TakesLine, InWords}
use Rattle.sk_requests.proofs.Names.{HasFault, IsAt, Reads}
use Rattle.sk_requests.specs.declared.fault.Fault.TheVariants as faults
use Rattle.sk_requests.proofs.Steps.{begins_with, line_on, words_on, length_long, at_length}
use Rattle.sk_requests.proofs.reader.Reader.length.Goals as goal

pub returns-then-first-eq10-clause-read : goal.returns-then-first-eq10-clause-read
returns-then-first-eq10-clause-read c = λ text behind.
    let bytes = c.args.bytes.now in
    let is : bytes ≡ 10 ∷ drop 1 bytes = begins_with bytes c.requires.some ∙ ap (λ b. b ∷ drop 1 bytes) c.if-first-eq10.true in
    subst (λ xs. Reads text xs c.length_end.result c.length_end.new.self) (sym is) (c.length_end.ensures.read text (drop 1 bytes) behind)

pub returns-in_err-count-clause-read : goal.returns-in_err-count-clause-read
returns-in_err-count-clause-read c =
    let old = c.args.self.now in
    let left = c.args.left in
    let new = record old { part = c.take_line.new.part } in
    let p = err_from_is_err_and c.from_residual.result c.from_residual.ensures.1 in
    rw (p.1, p.2) (λ text behind.
    let at = subst (λ p. IsAt p old text) c.requires.place behind.1 in
    let same = c.in_err-count.ensures in (
      behind.0,
      at_length new text left c.requires.place (record { words = at.0.words; array = subst (InWords at.0.words text left) (sym same) at.0.array; keeps = at.0.keeps })
          (subst (λ xs. IsLine xs × (length xs ≤ old.limits.line)) (sym same) at.1),
    ))

pub returns-in-Some-clause-read : goal.returns-in-Some-clause-read
returns-in-Some-clause-read c = λ text behind.
    let said = c.in-Some.ensures in
    c.word_next.ensures.read text c.args.bytes.now behind said.1
    (ap (λ xs. xs ++ take c.in-Some.count c.args.bytes.now) (sym c.deref.ensures.value) ∙ said.3)

pub returns-in-Some-2-clause-read : goal.returns-in-Some-2-clause-read
returns-in-Some-2-clause-read c = λ text behind.
    let old = c.args.self.now in
    let left = c.args.left in
    let new = record old { part = c.take_line.new.part } in
    let chunk = take c.in-Some-2.count c.args.bytes.now in
    let at = subst (λ p. IsAt p old text) c.requires.place behind.1 in
    let takes = subst (λ v. TakesLine old.limits.line old.part.items c.args.bytes.now (Ok v) c.take_line.new.part.items) c.in-Some-2.is c.in_ok-count.ensures in
    rw c.part.ensures (
      takes.0,
      λ some. takes.4 c.if-first-eq10.false some,
      (
        behind.0,
        at_length new (text ++ chunk) left c.requires.place
            (record { words = at.0.words; array = subst (InWords at.0.words (text ++ chunk) left) (sym takes.1) (words_on at.0.words text left old.part.items chunk at.0.array); keeps = at.0.keeps })
            (line_on old.part.items chunk c.take_line.new.part.items old.limits.line at.1 takes.2 takes.1 takes.3),
      ),
    )

pub returns-in-None-clause-read : goal.returns-in-None-clause-read
returns-in-None-clause-read c = λ text behind.
    let old = c.args.self.now in
    let left = c.args.left in
    let bytes = c.args.bytes.now in
    let new = record old { part = c.take_line.new.part } in
    let at = subst (λ p. IsAt p old text) c.requires.place behind.1 in
    let takes = subst (λ v. TakesLine old.limits.line old.part.items bytes (Ok v) c.take_line.new.part.items) c.in-None.is c.in_ok-count.ensures in
    let told = λ (xs : List ℕ). if slice_index (xs ++ slice_index bytes 0 ∷ []) 0 == 36 then faults.Length else faults.Mark (slice_index (xs ++ slice_index bytes 0 ∷ []) 0) in
    let fault : c.length_fault.result ≡ told old.part.items = c.length_fault.ensures ∙ ap told (c.deref-in-None.ensures.value ∙ takes.0) in (
      subst (λ f. HasFault old.limits f (text ++ bytes)) (sym fault) (length_long old.limits at.0.words left old.part.items text bytes takes.1.0 at.0.array at.1.0 behind.0 c.requires.some takes.1.1 takes.1.2 takes.1.3),
      (
        behind.0,
        at_length new text left c.requires.place (record { words = at.0.words; array = subst (InWords at.0.words text left) (sym takes.0) at.0.array; keeps = at.0.keeps })
            (subst (λ xs. IsLine xs × (length xs ≤ old.limits.line)) (sym takes.0) at.1),
      ),
    )
