use Rattle.sk_objects.proofs.Names.{◌≤◌, ◌+◌, ◌*◌, List, ℕ, length, take, arith, sym, ap, subst, ◌∙◌}
use Rattle.sk_objects.proofs.Names.{written, joined, AreSlots}
use Rattle.sk_objects.proofs.Seen.{filled_are, filled_len, filled_seen}
use Rattle.sk_objects.proofs.Changed.{on_err, written_are, written_seen}
use Rattle.sk_objects.proofs.file.File.write_at.Goals as goal

pub overwrite-requires-clause-slots : goal.overwrite-requires-clause-slots
overwrite-requires-clause-slots c =
    let f = c.self.inside in
    (filled_are f.slots.items f.size c.self.invariant.are c.blocks_of.result c.fill_slots.new.slots.items c.fill_slots.ensures.items c.blocks_of.ensures.limit).few

pub overwrite-requires-clause-blocks : goal.overwrite-requires-clause-blocks
overwrite-requires-clause-blocks c =
    let f = c.self.inside in
    (filled_are f.slots.items f.size c.self.invariant.are c.blocks_of.result c.fill_slots.new.slots.items c.fill_slots.ensures.items c.blocks_of.ensures.limit).blocks

pub overwrite-requires-clause-end : goal.overwrite-requires-clause-end
overwrite-requires-clause-end c =
    let f = c.self.inside in
    omega (arith, c.blocks_of.ensures.value, filled_len f.slots.items f.size c.self.invariant.are c.blocks_of.result c.fill_slots.new.slots.items c.fill_slots.ensures.items)

pub invariant_of-self : goal.invariant_of-self
invariant_of-self c =
    let f = c.self.inside in
    record {
      are = subst (λ (l : List (List ℕ)). AreSlots l f.size) (sym c.in_err-overwrite.ensures.err)
          (filled_are f.slots.items f.size c.self.invariant.are c.blocks_of.result c.fill_slots.new.slots.items c.fill_slots.ensures.items c.blocks_of.ensures.limit);
      keeps = omega (arith, c.overwrite.ensures.room, c.fill_slots.ensures.room);
    }

pub returns-in_err-overwrite-clause-err : goal.returns-in_err-overwrite-clause-err
returns-in_err-overwrite-clause-err c =
    let f = c.self.inside in
    on_err c.from_residual.result
    (ap (λ (l : List (List ℕ)). take f.size (joined l)) c.in_err-overwrite.ensures.err
    ∙ filled_seen f.slots.items f.size c.self.invariant.are c.blocks_of.result c.fill_slots.new.slots.items c.fill_slots.ensures.items
    ∙ c.self.view_is)

pub invariant_of-self-2 : goal.invariant_of-self-2
invariant_of-self-2 c =
    let f = c.self.inside in
    let ss = c.fill_slots.new.slots.items in
    let are : AreSlots ss f.size = filled_are f.slots.items f.size c.self.invariant.are c.blocks_of.result ss c.fill_slots.ensures.items c.blocks_of.ensures.limit in
    let end : c.args.at + length c.args.bytes.now ≤ 512 * length c.fill_slots.new.slots.items = omega (arith, c.blocks_of.ensures.value, filled_len f.slots.items f.size c.self.invariant.are c.blocks_of.result ss c.fill_slots.ensures.items) in
    record {
      are = written_are ss f.size are c.args.at c.args.bytes.now c.overwrite.new.slots.items c.max-self-inside.result end c.in_ok-overwrite.ensures.blocks c.in_ok-overwrite.ensures.len c.in_ok-overwrite.ensures.bytes (omega (arith, c.max-self-inside.ensures));
      keeps = omega (arith, c.overwrite.ensures.room, c.fill_slots.ensures.room);
    }

pub returns-clause-ok : goal.returns-clause-ok
returns-clause-ok c =
    let f = c.self.inside in
    let ss = c.fill_slots.new.slots.items in
    let are : AreSlots ss f.size = filled_are f.slots.items f.size c.self.invariant.are c.blocks_of.result ss c.fill_slots.ensures.items c.blocks_of.ensures.limit in
    let end : c.args.at + length c.args.bytes.now ≤ 512 * length c.fill_slots.new.slots.items = omega (arith, c.blocks_of.ensures.value, filled_len f.slots.items f.size c.self.invariant.are c.blocks_of.result ss c.fill_slots.ensures.items) in
    written_seen ss f.size are c.args.at c.args.bytes.now c.overwrite.new.slots.items c.max-self-inside.result end c.in_ok-overwrite.ensures.blocks c.in_ok-overwrite.ensures.len c.in_ok-overwrite.ensures.bytes (omega (arith, c.max-self-inside.ensures))
    ∙ ap (λ (l : List ℕ). written l c.args.at c.args.bytes.now)
    (filled_seen f.slots.items f.size c.self.invariant.are c.blocks_of.result ss c.fill_slots.ensures.items ∙ c.self.view_is)
