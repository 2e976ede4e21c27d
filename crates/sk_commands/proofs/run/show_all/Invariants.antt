-- The values so far are those of the keys so far.
use Rattle.std.proofs.Common.{◌≡◌, take, map}
use Rattle.sk_commands.proofs.run.show_all.Given as goal

abbrev pub invariant-loop-key : goal.invariant-loop-key
invariant-loop-key g l = l.values.items ≡ map (λ key. g.S.Look.look l.store key.items) (take l.key-index l.key-items)
