-- A name depends on the oldest epoch just where one that waits has changed it.
use Rattle.real_epochs.proofs.Names.{◌≡◌, ◌==◌, Some, refl, sym, ◌∙◌, subst, has, nat_cmp, tags_at, undo_state_of}
use Rattle.std.proofs.Common.{rules, slice_get}
use Rattle.real_epochs.specs.Tells.{EpochsView, Tells}
use Rattle.real_epochs.proofs.Plugs.{changed_told}
use Rattle.real_epochs.proofs.epochs.Epochs.has_changed.Goals as goal

pub returns-in-Some : goal.returns-in-Some
returns-in-Some c s t name =
    let first : slice_get c.self.inside.line.items 0 ≡ Some c.in-Some.oldest.now = search rules in
    let told : c.contains.result ≡ has c.in-Some.oldest.now.token.id (tags_at (undo_state_of nat_cmp c.self.inside.kernel) c.args.name) = search rules in
    told ∙ changed_told (record { parts = c.self.inside.kernel; line = c.self.inside.line.items }) c.self.inside.line.items c.in-Some.oldest.now refl first s
    (subst (λ (a : EpochsView). Tells s a) (sym c.self.view_is) t) c.args.name name
