-- Each key has something, and keeps its number.
use Rattle.sk_bytes.proofs.Names.{nat_cmp, is_in, string_of, slot_shown}
use Rattle.sk_bytes.proofs.Fitting.{all_kept}
use Rattle.sk_bytes.proofs.keys.Keys.let_go_taken.Goals as goal

pub returns-clause-gone : goal.returns-clause-gone
returns-clause-gone g c = record {
  two_way = c.requires.two_way;
  strings = λ n. all_kept (is_in nat_cmp c.args.self.now.loose.items n) (slot_shown c.args.kernel.now.slots n) (string_of c.args.self.now.index n) (c.requires.set c.if-makes_absent.false n);
}
