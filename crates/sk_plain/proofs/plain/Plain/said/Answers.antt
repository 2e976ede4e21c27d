-- All texts are released, since none depends on a guess.
use Rattle.sk_plain.proofs.Cites.{◌≡◌, ◌∙◌, sym, rules, texts_at, all_said}
use Rattle.sk_plain.specs.Plain.{texts_said}
use Rattle.sk_plain.proofs.Clear.{all_released}
use Rattle.sk_plain.proofs.plain.Plain.said.Goals as goal

pub returns-in-Some-clause-all : goal.returns-in-Some-clause-all
returns-in-Some-clause-all c =
    let released : c.released.result.now ≡ texts_said c.args.self.now c.args.terminal = search rules in
    let all : texts_said c.args.self.now c.args.terminal ≡ all_said c.args.self.now c.args.terminal = rw (sym c.self.view_is) (all_released (texts_at c.self.inside.texts c.args.terminal) (c.self.invariant c.args.terminal)) in
    released ∙ all
