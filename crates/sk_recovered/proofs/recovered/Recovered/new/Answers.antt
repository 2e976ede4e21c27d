-- No segment was read.
use Rattle.std.proofs.Common.{[], refl, sym, subst, add-zero, arith}
use Rattle.sk_recovered.proofs.Names.{IfSome, Stands}
use Rattle.sk_recovered.proofs.recovered.Recovered.new.Goals as goal

pub returns : goal.returns
returns c = record {
  parts = [];
  read = tt;
  heads_are = refl;
  opened = refl;
  first_is = refl;
  taken = c.new.ensures.taken c.args.first;
  next = sym (add-zero c.args.first);
  reached = record { segment = refl; offset = refl; dropped = omega arith };
  damaged = subst (λ o. IfSome o (λ d. Stands c.args.heads [] d.place)) (sym c.new.ensures.none) tt;
}
