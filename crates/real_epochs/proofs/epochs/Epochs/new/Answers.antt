-- Nothing has happened.
use Rattle.real_epochs.proofs.Names.{ap, KeptView}
use Rattle.real_epochs.proofs.Plugs.{new_told}
use Rattle.real_epochs.specs.Story.{no_story}
use Rattle.real_epochs.proofs.epochs.Epochs.new.Goals as goal

pub invariant_of-result : goal.invariant_of-result
invariant_of-result c = (
  no_story,
  new_told (record { parts = c.new.result; line = c.new-2.result.items }) _ _ c.new.ensures.look c.new.ensures.log c.new.ensures.guesses c.new.ensures.opens c.new.ensures.said
      c.new-2.ensures.items,
)

pub returns : goal.returns
returns c =
    new_told (record { parts = c.new.result; line = c.new-2.result.items }) _ _ c.new.ensures.look c.new.ensures.log c.new.ensures.guesses c.new.ensures.opens c.new.ensures.said
    c.new-2.ensures.items
