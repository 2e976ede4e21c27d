use Rattle.sk_objects.proofs.Names.{◌≡◌, ◌*◌, ◌-◌, ◌≤◌, List, ℕ, length, arith, sym, ap, ◌∙◌, part, joined}
use Rattle.sk_objects.proofs.Seen.{seen_len, seen_rest, seen_block}
use Rattle.sk_objects.proofs.file.File.block.Goals as goal

pub returns-then-rest-lt-BLOCK : goal.returns-then-rest-lt-BLOCK
returns-then-rest-lt-BLOCK c =
    let f = c.self.inside in
    let from = 512 * c.args.index in
    let len : length c.args.self.now ≡ f.size = ap length (sym c.self.view_is) ∙ seen_len f.slots.items f.size c.self.invariant.are in
    let within : 512 * c.args.index ≤ f.size = omega (arith, c.requires, len) in
    c.block_start.ensures
    ∙ ap (λ (ss : List (List ℕ)). part (joined ss) from (f.size - from)) c.deref.ensures.value
    ∙ seen_rest (joined f.slots.items) f.size from within 512 c.if-rest-lt-BLOCK.true
    ∙ ap (λ (l : List ℕ). part l from 512) c.self.view_is

pub returns-else-rest-lt-BLOCK : goal.returns-else-rest-lt-BLOCK
returns-else-rest-lt-BLOCK c =
    let f = c.self.inside in
    let from = 512 * c.args.index in
    let len : length c.args.self.now ≡ f.size = ap length (sym c.self.view_is) ∙ seen_len f.slots.items f.size c.self.invariant.are in
    let within : 512 * c.args.index ≤ f.size = omega (arith, c.requires, len) in
    c.block_start-else-rest-lt-BLOCK.ensures
    ∙ ap (λ (ss : List (List ℕ)). part (joined ss) from 512) c.deref-else-rest-lt-BLOCK.ensures.value
    ∙ seen_block (joined f.slots.items) f.size from within 512 c.if-rest-lt-BLOCK.false
    ∙ ap (λ (l : List ℕ). part l from 512) c.self.view_is
