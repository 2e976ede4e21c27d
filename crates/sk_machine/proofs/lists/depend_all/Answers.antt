-- Guesses that were drawn later have no list yet.
use Rattle.sk_machine.proofs.Names.{refl, tags_in}
use Rattle.sk_machine.proofs.Listed.{later_exact}
use Rattle.sk_machine.proofs.lists.depend_all.Goals as goal

pub returns-then-are_later : goal.returns-then-are_later
returns-then-are_later c = record {
  view = refl;
  opens = refl;
  ok = later_exact c.args.tags.now c.args.entities.now (tags_in c.args.logs.now.slots) c.requires.covers c.args.guesses.now.opens (c.are_later.ensures c.if-are_later.true) c.requires.exact;
  err = tt;
}
