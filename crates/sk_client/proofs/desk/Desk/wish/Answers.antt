-- A rule tells apart no more than what is told without a plan.
use Rattle.sk_client.proofs.Names.{refl, ℕ, ap, Ok, ◌≡◌, Result, ◌∙◌, rule_of, DeskView, Next, Refusal}
use Rattle.sk_kernel.specs.Kernel.{next_at}
use Rattle.sk_plain.specs.Next.{unplanned}
use Rattle.sk_client.proofs.desk.Desk.wish.Goals as goal

unplanned_rule : (d : DeskView) (pid : ℕ) (r : Result Next Refusal) → rule_of d pid (unplanned r) ≡ rule_of d pid r
unplanned_rule d pid (Ok Next.Full) = refl
unplanned_rule d pid r = refl

pub returns : goal.returns
returns c =
    let d = c.args.self.now in
    c.wish_behind.ensures
    ∙ ap (rule_of d c.args.pid) c.requires
    ∙ unplanned_rule d c.args.pid (next_at d.kernel c.args.pid)
