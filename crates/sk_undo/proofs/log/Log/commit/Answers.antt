-- The pass from the newest note back is the whole commit, where each note depends on what those before it depend on.
use Rattle.sk_undo.proofs.Cites.{sym, ◌∙◌, ap, subst, reverse, FitsBy, undone_by, dropped, CanGoBack}
use Rattle.sk_undo.proofs.NewestNotes.{whole_pass, commit_can, first_place}
use Rattle.sk_undo.proofs.log.Log.commit.Goals as goal

pub returns-clause-notes : goal.returns-clause-notes
returns-clause-notes g c grows =
    c.drop_bare.ensures.notes ∙ ap dropped (c.lighten-first.ensures.notes ∙ whole_pass c.args.guess c.lighten-first.result c.args.self.now.notes.items c.lighten-first.ensures.before grows)

pub returns-clause-first : goal.returns-clause-first
returns-clause-first g c grows =
    first_place c.args.guess c.lighten-first.result c.args.self.now.notes.items c.lighten-first.ensures.before c.lighten-first.ensures.resting c.lighten-first.ensures.within grows

pub returns-clause-can : goal.returns-clause-can
returns-clause-can g c now can =
    subst (λ ns. CanGoBack (FitsBy g.V.Logged.fits) (undone_by g.V.Logged.undone) now (reverse ns)) (sym (c.drop_bare.ensures.notes ∙ ap dropped c.lighten-first.ensures.notes))
    (commit_can (FitsBy g.V.Logged.fits) (undone_by g.V.Logged.undone) c.args.guess c.lighten-first.result now c.args.self.now.notes.items can)
