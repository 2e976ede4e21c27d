use Rattle.sk_objects.proofs.Names.{◌≤◌, ◌*◌, List, ℕ, length, arith, ap, ◌∙◌, cut, AreSlots}
use Rattle.sk_objects.proofs.Seen.{seen_len, filled_are, filled_len, filled_seen}
use Rattle.sk_objects.proofs.Changed.{extended_are, extended_seen}
use Rattle.sk_objects.proofs.file.File.extend.Goals as goal

pub invariant_of-self : goal.invariant_of-self
invariant_of-self c =
    let f = c.self.inside in
    let all = c.fill_slots.new.slots.items in
    let items = c.fill_slots.ensures.items in
    let are : AreSlots all f.size = filled_are f.slots.items f.size c.self.invariant.are c.blocks_of.result all items c.blocks_of.ensures.limit in
    let long : c.args.len ≤ 512 * length c.fill_slots.new.slots.items = omega (arith, c.blocks_of.ensures.value, filled_len f.slots.items f.size c.self.invariant.are c.blocks_of.result all items) in
    let more : c.self.inside.size ≤ c.args.len = omega (arith, c.requires.more, seen_len f.slots.items f.size c.self.invariant.are, ap length c.self.view_is) in
    record { are = extended_are all f.size are c.args.len long more; keeps = c.fill_slots.ensures.room }

pub returns : goal.returns
returns c =
    let f = c.self.inside in
    let all = c.fill_slots.new.slots.items in
    let items = c.fill_slots.ensures.items in
    let are : AreSlots all f.size = filled_are f.slots.items f.size c.self.invariant.are c.blocks_of.result all items c.blocks_of.ensures.limit in
    let long : c.args.len ≤ 512 * length c.fill_slots.new.slots.items = omega (arith, c.blocks_of.ensures.value, filled_len f.slots.items f.size c.self.invariant.are c.blocks_of.result all items) in
    let more : c.self.inside.size ≤ c.args.len = omega (arith, c.requires.more, seen_len f.slots.items f.size c.self.invariant.are, ap length c.self.view_is) in
    extended_seen all f.size are c.args.len long more
    ∙ ap (λ (l : List ℕ). cut l c.args.len) (filled_seen f.slots.items f.size c.self.invariant.are c.blocks_of.result all items ∙ c.self.view_is)
