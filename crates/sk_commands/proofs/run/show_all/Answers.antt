-- The values of all keys.
use Rattle.sk_commands.proofs.Names.{ap, ◌∙◌, Array}
use Rattle.sk_commands.proofs.Shown.{all_shown}
use Rattle.sk_commands.proofs.run.show_all.Goals as goal

pub returns : goal.returns
returns g c =
    ap Array
    (c.new.ensures ∙ c.loop-key.invariant
    ∙ all_shown (g.S.Look.look c.args.store.now) c.as_slice-key-items.result.now c.args.keys.now c.loop-key.key-index c.as_slice-key-items.ensures c.loop-key-test.false)
