-- A checkpoint is needed just where an epoch in the line goes back to it.
use Rattle.real_epochs.proofs.Names.{◌==◌, ◌∙◌, sym, subst, Begun}
use Rattle.std.proofs.Common.{rules, tests}
use Rattle.std.proofs.lemmas.Iterator.{YieldsList-from_slice}
use Rattle.std.proofs.lemmas.Iterator.Search.{any_from_yields_List}
use Rattle.real_epochs.specs.Tells.{EpochsView, Tells}
use Rattle.real_epochs.proofs.Plugs.{needed_told}
use Rattle.real_epochs.proofs.epochs.Epochs.needs.Goals as goal

pub returns : goal.returns
returns c s t =
    any_from_yields_List (λ (b : Begun). b.checkpoint == c.args.checkpoint) _ _ c.any.result c.any.ensures.ran (YieldsList-from_slice c.self.inside.line.items cc)
    (λ x b f k. search (rules, tests))
    ∙ needed_told (record { parts = c.self.inside.kernel; line = c.self.inside.line.items }) c.args.checkpoint s (subst (λ (v : EpochsView). Tells s v) (sym c.self.view_is) t)
