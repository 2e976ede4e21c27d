-- The one at the place that was found goes, if there is one.
use Rattle.sk_held.proofs.Names.{rules, ◌≡◌, ◌<◌, ◌≤◌, length, ◌∙◌, prefix_len}
use Rattle.sk_held.proofs.Outputs.{but_at, but_none, is_other}
use Rattle.sk_held.proofs.output.drop_first.Goals as goal

pub returns-then-place-len : goal.returns-then-place-len
returns-then-place-len c =
    let within : c.place_of-place.result < length c.args.outputs.now.items = search rules in
    let at : c.place_of-place.result ≡ prefix_len (is_other c.args.channel) c.args.outputs.now.items = search rules in
    c.remove.ensures.items ∙ but_at c.args.channel c.place_of-place.result c.args.outputs.now.items at within

pub returns-else-place-len : goal.returns-else-place-len
returns-else-place-len c =
    let past : length c.args.outputs.now.items ≤ c.place_of-place.result = search rules in
    let at : c.place_of-place.result ≡ prefix_len (is_other c.args.channel) c.args.outputs.now.items = search rules in
    but_none c.args.channel c.place_of-place.result c.args.outputs.now.items at past
