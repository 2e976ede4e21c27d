-- None of the outputs so far is of the channel.
use Rattle.sk_held.proofs.Names.{◌≡◌, ◌+◌, drop, prefix_len}
use Rattle.sk_held.proofs.Outputs.{is_other}
use Rattle.sk_held.proofs.output.place_of.Given as goal

abbrev pub invariant-loop-place : goal.invariant-loop-place
invariant-loop-place l = prefix_len (is_other l.channel) l.outputs ≡ l.place + prefix_len (is_other l.channel) (drop l.place l.outputs)
