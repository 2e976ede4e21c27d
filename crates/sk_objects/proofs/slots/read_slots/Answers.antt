use Rattle.sk_objects.proofs.Names.{◌≡◌, ◌+◌, ◌-◌, ◌*◌, ◌/◌, ◌%◌, ◌++◌, List, ℕ, length, take, arith, ap, ap₂, ◌∙◌}
use Rattle.sk_objects.proofs.Names.{part, joined}
use Rattle.sk_objects.proofs.Seen.{block_mid, block_part, parts_joined}
use Rattle.sk_objects.proofs.slots.read_slots.Goals as goal

pub returns-then-count-room : goal.returns-then-count-room
returns-then-count-room c =
    let k = c.args.at / 512 in
    let w = c.args.at % 512 in
    let n = length c.args.out.now in
    let there : 512 * (c.args.at / 512) + c.args.at % 512 ≡ c.args.at = omega arith in
    let count : c.args.at % 512 + length c.args.out.now - c.args.at % 512 ≡ length c.args.out.now = omega arith in
    c.copy_from_slice.ensures.after
    ∙ ap (λ (m : ℕ). part c.as_slice.result.now w m) count
    ∙ ap (λ (l : List ℕ). part l w n) c.as_slice.ensures.value
    ∙ block_mid c.args.slots.now k w n c.index-slots-slot.result c.requires.blocks (omega (arith, c.requires.end, c.requires.slots, c.if-count-eq0.false)) c.index-slots-slot.is (omega (arith, c.if-count-room.true))
    ∙ ap (λ (m : ℕ). part (joined c.args.slots.now) m n) there

pub returns : goal.returns
returns c =
    let k = c.args.at / 512 in
    let w = c.args.at % 512 in
    let n = length c.args.out.now in
    let ss = c.args.slots.now in
    let there : 512 * (c.args.at / 512) + c.args.at % 512 ≡ c.args.at = omega arith in
    let room : length c.as_slice-2.result.now - c.args.at % 512 ≡ 512 - c.args.at % 512 = ap (λ (m : ℕ). m - w) c.as_slice-2.ensures.len in
    let first : c.copy_from_slice-2.new.self ≡ part (joined ss) (512 * k + w) (512 - w) =
    c.copy_from_slice-2.ensures.after
    ∙ ap (λ (m : ℕ). part c.as_slice-2.result.now w m) room
    ∙ ap (λ (l : List ℕ). part l w (512 - w)) c.as_slice-2.ensures.value
    ∙ block_mid ss k w (512 - w) c.index-slots-slot-2.result c.requires.blocks (omega (arith, c.requires.end, c.requires.slots, c.if-count-eq0.false)) c.index-slots-slot-2.is (omega arith) in
    let behind : 512 * (c.args.at / 512 + 1) ≡ 512 * (c.args.at / 512) + c.args.at % 512 + (512 - c.args.at % 512) = omega arith in
    let second : c.copy_from_slice-3.new.self ≡ part (joined ss) (512 * k + w + (512 - w)) (n - (512 - w)) =
    c.copy_from_slice-3.ensures.after
    ∙ ap (take (n - (512 - w))) c.as_slice-3.ensures.value
    ∙ block_part ss (k + 1) (n - (512 - w)) c.index-slots-slot-3.result c.requires.blocks (omega (arith, c.requires.end, c.requires.slots, c.if-count-room.false)) c.index-slots-slot-3.is (omega (arith, c.requires.short))
    ∙ ap (λ (m : ℕ). part (joined ss) m (n - (512 - w))) behind in
    let whole : 512 - c.args.at % 512 + (length c.args.out.now - (512 - c.args.at % 512)) ≡ length c.args.out.now = omega (arith, c.if-count-room.false) in
    ap₂ ◌++◌ first second
    ∙ parts_joined (joined ss) (512 * k + w) (512 - w) (n - (512 - w))
    ∙ ap (part (joined ss) (512 * k + w)) whole
    ∙ ap (λ (m : ℕ). part (joined ss) m n) there
