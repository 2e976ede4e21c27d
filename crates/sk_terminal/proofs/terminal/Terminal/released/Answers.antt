-- The released texts are the longest prefix that depends on no guess: from the view.
use Rattle.sk_terminal.proofs.Views.{released-clear}
use Rattle.std.proofs.Common.{sym}
use Rattle.sk_terminal.proofs.terminal.Terminal.released.Goals as goal

pub returns : goal.returns
returns c = rw (c.as_slice.ensures.value, ← c.self.view_is) (sym (released-clear _ _ c.self.invariant.held))
