use Rattle.sk_objects.proofs.Names.{◌<◌, List, ℕ, length, take, arith, refl, sym, ap, subst, ◌∙◌, joined, cut, AreSlots}
use Rattle.sk_objects.proofs.Seen.{seen_len}
use Rattle.sk_objects.proofs.Changed.{on_err, cut_are, cut_seen}
use Rattle.sk_objects.proofs.file.File.shorten.Goals as goal

pub cut_slots-requires-clause-blocks : goal.cut_slots-requires-clause-blocks
cut_slots-requires-clause-blocks c = c.self.invariant.are.blocks

pub cut_slots-requires-clause-end : goal.cut_slots-requires-clause-end
cut_slots-requires-clause-end c =
    let f = c.self.inside in
    omega (arith, c.requires, seen_len f.slots.items f.size c.self.invariant.are, ap length c.self.view_is, c.self.invariant.are.covers)

pub invariant_of-self : goal.invariant_of-self
invariant_of-self c =
    let f = c.self.inside in
    record {
      are = subst (λ (l : List (List ℕ)). AreSlots l f.size) (sym c.in_err-cut_slots.ensures.err) c.self.invariant.are;
      keeps = omega (arith, c.cut_slots.ensures.room, c.self.invariant.keeps);
    }

pub returns-in_err-cut_slots-clause-err : goal.returns-in_err-cut_slots-clause-err
returns-in_err-cut_slots-clause-err c =
    let f = c.self.inside in
    on_err c.from_residual.result (ap (λ (l : List (List ℕ)). take f.size (joined l)) c.in_err-cut_slots.ensures.err ∙ c.self.view_is)

pub invariant_of-self-2 : goal.invariant_of-self-2
invariant_of-self-2 c =
    let f = c.self.inside in
    let less : c.args.len < c.self.inside.size = omega (arith, c.requires, seen_len f.slots.items f.size c.self.invariant.are, ap length c.self.view_is) in
    record {
      are = cut_are f.slots.items f.size c.self.invariant.are c.args.len less _ refl c.cut_slots.new.slots.items c.in_ok-cut_slots.ensures.ok;
      keeps = omega (arith, c.cut_slots.ensures.room, c.self.invariant.keeps);
    }

pub returns-clause-ok : goal.returns-clause-ok
returns-clause-ok c =
    let f = c.self.inside in
    let less : c.args.len < c.self.inside.size = omega (arith, c.requires, seen_len f.slots.items f.size c.self.invariant.are, ap length c.self.view_is) in
    cut_seen f.slots.items f.size c.self.invariant.are c.args.len less _ refl c.cut_slots.new.slots.items c.in_ok-cut_slots.ensures.ok
    ∙ ap (λ (l : List ℕ). cut l c.args.len) c.self.view_is
