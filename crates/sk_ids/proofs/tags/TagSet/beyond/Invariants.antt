use Rattle.sk_ids.proofs.Names.{◌≡◌, take, filter, has}
use Rattle.std.specs.Prelude.{not}
use Rattle.sk_ids.proofs.tags.TagSet.beyond.Given as goal

abbrev pub invariant-loop-id : goal.invariant-loop-id
invariant-loop-id l = l.rest.items ≡ filter (λ g. not (has g l.other)) (take l.id-index l.id-items)
