-- The notes without tags in front are the first ones.
use Rattle.sk_undo.proofs.Cites.{◌≤◌, length, sym, ◌∙◌, ap, subst, arith, drop, prefix_len, is_empty}
use Rattle.sk_undo.proofs.NewestNotes.{dropped_is, none_dropped, within_notes}
use Rattle.sk_undo.proofs.log.drop_bare.Goals as goal

pub drop_front-requires : goal.drop_front-requires
drop_front-requires g c =
    let ns = c.args.notes.now.items in
    subst (λ k. k ≤ length ns) (sym (c.bare_count-bare.ensures ∙ ap (prefix_len (λ n. is_empty n.tags)) c.as_slice.ensures.value)) (within_notes ns)

pub returns-then-bare-gt0-clause-notes : goal.returns-then-bare-gt0-clause-notes
returns-then-bare-gt0-clause-notes g c =
    let ns = c.args.notes.now.items in
    c.drop_front.ensures.notes ∙ ap (λ k. drop k ns) (c.bare_count-bare.ensures ∙ ap (prefix_len (λ n. is_empty n.tags)) c.as_slice.ensures.value) ∙ dropped_is ns

pub returns-else-bare-gt0-clause-notes : goal.returns-else-bare-gt0-clause-notes
returns-else-bare-gt0-clause-notes g c =
    let ns = c.args.notes.now.items in
    let none = c.if-bare-gt0.false in
    none_dropped ns c.bare_count-bare.result (c.bare_count-bare.ensures ∙ ap (prefix_len (λ n. is_empty n.tags)) c.as_slice.ensures.value) (omega arith)
