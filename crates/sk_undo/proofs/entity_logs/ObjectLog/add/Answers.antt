use Rattle.sk_undo.proofs.Cites.{◌≡◌, ◌++◌, ◌∷◌, [], subst, sym, ap, ◌∙◌, Grows}
use Rattle.sk_undo.proofs.Growing.{grows_more}
use Rattle.sk_undo.proofs.entity_logs.ObjectLog.add.Goals as goal

pub invariant_of-self-2 : goal.invariant_of-self-2
invariant_of-self-2 c =
    let whole : c.note_reserved.new.self.notes.items ≡ c.args.self.now.log.notes.items ++ record { tags = c.args.tags; undo = c.args.undo } ∷ [] =
    c.note_reserved.ensures ∙ ap (λ ns. ns ++ record { tags = c.args.tags; undo = c.args.undo } ∷ []) c.reserve.ensures.notes in
    record { grows = subst Grows (sym whole) (grows_more c.args.self.now.log.notes.items (record { tags = c.args.tags; undo = c.args.undo }) c.args.self.now.grows c.requires) }
