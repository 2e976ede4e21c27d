-- The one at the place that was found, or none.
use Rattle.std.proofs.Common.{rules, ◌≡◌, ◌<◌, ◌≤◌, Some, length, get_or, sym, ap, ◌∙◌}
use Rattle.sk_held.proofs.Outputs.{first_at, first_none}
use Rattle.sk_held.proofs.output.first_of.Goals as goal

pub returns-in-Some : goal.returns-in-Some
returns-in-Some c =
    let within : c.place_of.result < length c.args.outputs.now = search rules in
    let one : c.in-Some.output.now ≡ get_or c.args.outputs.now c.place_of.result c.in-Some.output.now = search rules in
    ap Some c.as_slice.ensures.value ∙ ap (λ o. Some o.bytes.items) one ∙ sym (first_at c.args.channel c.place_of.result c.args.outputs.now c.in-Some.output.now c.place_of.ensures within)

pub returns-in-None : goal.returns-in-None
returns-in-None c =
    let past : length c.args.outputs.now ≤ c.place_of.result = search rules in
    sym (first_none c.args.channel c.place_of.result c.args.outputs.now c.place_of.ensures past)
