-- The slots of the map are those that are counted, kind by kind.
use Rattle.sk_undo.proofs.Cites.{◌≡◌, ◌+◌, ◌-◌, sym, ap, ◌∙◌, arith, sum_by, note_count, notes_in}
use Rattle.std.proofs.lemmas.List.Sums.{sum_by-append}
use Rattle.std.specs.FinMap as fin
use Rattle.sk_undo.proofs.slots.Slots.notes.Goals as goal

pub returns : goal.returns
returns c =
    let v = c.values-values.result in
    let all : notes_in c.args.self.now ≡ sum_by note_count v.processes + (sum_by note_count v.signals + (sum_by note_count v.exits + (sum_by note_count v.objects + (sum_by note_count v.links + sum_by note_count v.copies)))) =
    ap (λ m. sum_by note_count (fin.values m)) (sym c.self.view_is) ∙ ap (sum_by note_count) (sym c.values-values.ensures)
    ∙ sum_by-append note_count v.processes _
    ∙ ap (λ n. sum_by note_count v.processes + n) (sum_by-append note_count v.signals _
    ∙ ap (λ n. sum_by note_count v.signals + n) (sum_by-append note_count v.exits _
    ∙ ap (λ n. sum_by note_count v.exits + n) (sum_by-append note_count v.objects _
    ∙ ap (λ n. sum_by note_count v.objects + n) (sum_by-append note_count v.links v.copies)))) in
    omega (arith, all, c.notes_among-own.ensures, c.notes_among-queued.ensures, c.notes_among-left.ensures, c.notes_among-objects.ensures, c.notes_among-links.ensures, c.notes_among.ensures)
