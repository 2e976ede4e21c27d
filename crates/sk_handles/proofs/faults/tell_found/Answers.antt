-- The fault that was found is told at its word, with the text that was shown.
use Rattle.sk_handles.proofs.Names.{rules, ℕ, ap, ◌∙◌, inr, Declarations, line_at, lines, FAULT, Told, just}
use Rattle.sk_handles.proofs.ToldAt.{told_at}
use Rattle.sk_handles.proofs.faults.tell_found.Goals as goal

pub returns : goal.returns
returns c =
    let fault = c.args.fault.now in
    let word = c.in-Some.detail.place.word.now in
    let bytes = ap (λ (n : ℕ). record (just FAULT fault.line) { bytes = n }) c.show.ensures.1 in
    let faulty = ap (λ (t : Told). record t { bytes = c.show.result }) c.of-3.ensures in
    let told = c.with_text.ensures ∙ faulty ∙ bytes in
    let line = line_at Declarations fault.line (lines c.args.text.now) in
    let at = told_at fault line c.in-Some.detail.place.start word c.in-Some.ensures.place in
    inr (search rules, rw c.of-2.ensures at, (c.show.ensures.0, told, c.show.ensures.2))
