use Rattle.sk_objects.proofs.Names.{◌≤◌, length, take, arith, sym, ap, subst, ◌∙◌, IsZeroFrom}
use Rattle.sk_objects.proofs.Seen.{seen_len}
use Rattle.sk_objects.proofs.Changed.{shrunk_are, shrunk_seen}
use Rattle.sk_objects.proofs.file.File.drop_zeros.Goals as goal

pub invariant_of-self : goal.invariant_of-self
invariant_of-self c =
    let f = c.self.inside in
    let within : c.args.count ≤ c.self.inside.size = omega (arith, c.requires.within, seen_len f.slots.items f.size c.self.invariant.are, ap length c.self.view_is) in
    record {
      are = shrunk_are f.slots.items f.size c.self.invariant.are c.args.count within (subst (IsZeroFrom c.args.count) (sym c.self.view_is) c.requires.zeros);
      keeps = c.self.invariant.keeps;
    }

pub returns : goal.returns
returns c =
    let f = c.self.inside in
    let within : c.args.count ≤ c.self.inside.size = omega (arith, c.requires.within, seen_len f.slots.items f.size c.self.invariant.are, ap length c.self.view_is) in
    shrunk_seen f.slots.items f.size c.self.invariant.are c.args.count within (subst (IsZeroFrom c.args.count) (sym c.self.view_is) c.requires.zeros)
    ∙ ap (take c.args.count) c.self.view_is
