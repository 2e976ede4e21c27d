-- What is known is what a plain run knows.
use Rattle.real_epochs.proofs.Names.{◌≡◌, ◌==◌, ◌++◌, None, cond, false, sym, ◌∙◌, ap, subst, look_at, nat_cmp, all_in, known_after}
use Rattle.std.proofs.Common.{rules}
use Rattle.real_epochs.specs.Tells.{EpochsView, Tells}
use Rattle.real_epochs.proofs.Read.{known_told}
use Rattle.real_epochs.proofs.epochs.Epochs.version.Goals as goal

pub returns : goal.returns
returns c s t =
    let other : (c.args.name == 0) ≡ false = search rules in
    let value : c.copied.result ≡ look_at nat_cmp c.self.inside.kernel.slots c.args.name = c.copied.ensures ∙ c.value.ensures in
    value ∙ known_told s (record { parts = c.self.inside.kernel; line = c.self.inside.line.items }) (subst (λ (a : EpochsView). Tells s a) (sym c.self.view_is) t) c.args.name other
    ∙ ap (λ b. cond b None (known_after (s.accepted ++ all_in s.waiting) c.args.name None)) (sym other)
