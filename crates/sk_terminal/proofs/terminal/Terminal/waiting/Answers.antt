-- The waiting texts are those that follow the prefix: from the view.
use Rattle.sk_terminal.proofs.Names.{rules, ◌≡◌, length, sym, ◌∙◌, texts_of}
use Rattle.sk_terminal.proofs.HeldTexts.{texts_length}
use Rattle.sk_terminal.proofs.Views.{waiting-clear}
use Rattle.sk_terminal.proofs.terminal.Terminal.waiting.Goals as goal

pub returns : goal.returns
returns c =
    let count : c.len.result ≡ length c.self.inside.waiting.items = search rules in
    rw (← c.self.view_is) (count ∙ sym (texts_length c.self.inside.waiting.items) ∙ sym (waiting-clear c.self.inside.out.items (texts_of c.self.inside.waiting.items) c.self.invariant.held))
