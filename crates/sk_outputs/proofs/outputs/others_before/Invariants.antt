-- Those so far are of other channels.
use Rattle.sk_outputs.proofs.Names.{◌≡◌, ◌+◌, drop, prefix_len}
use Rattle.sk_outputs.proofs.Firsts.{other}
use Rattle.sk_outputs.proofs.outputs.others_before.Given as goal

abbrev pub invariant-loop-place : goal.invariant-loop-place
invariant-loop-place g l = l.place + prefix_len (other l.to) (drop l.place l.said.items) ≡ prefix_len (other l.to) l.said.items
