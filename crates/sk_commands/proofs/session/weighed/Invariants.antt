use Rattle.sk_commands.proofs.Names.{◌≡◌, drop, map, vec_items}
use Rattle.sk_commands.specs.Session.{weighed}
use Rattle.sk_commands.proofs.session.weighed.Given as goal

abbrev pub invariant-loop-word : goal.invariant-loop-word
invariant-loop-word l = weighed (map vec_items (drop l.word-index l.words)) l.bytes ≡ weighed (map vec_items l.words) l.from
