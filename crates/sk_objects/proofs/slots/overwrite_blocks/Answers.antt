use Rattle.sk_objects.proofs.Names.{◌≡◌, ◌<◌, ◌+◌, ◌*◌, ◌/◌, ◌%◌, ℕ, [], length, get_or}
use Rattle.sk_objects.proofs.Names.{arith, sym, ap, subst, ◌∙◌, length-set, overwritten, joined, AreBlocks}
use Rattle.sk_objects.proofs.Joined.{joined_set, set_are, over_len}
use Rattle.sk_objects.proofs.slots.overwrite_blocks.Goals as goal

pub returns-clause-bytes : goal.returns-clause-bytes
returns-clause-bytes c =
    let ss = c.args.slots.now in
    let at = c.args.at in
    let b = c.args.bytes.now in
    let there : c.args.at / 512 < length c.args.slots.now = omega (arith, c.requires.end, c.requires.some) in
    let place : 512 * (c.args.at / 512) + c.args.at % 512 ≡ c.args.at = omega arith in
    ap joined c.in_ok-overwrite_at.ensures.ok
    ∙ joined_set ss (at / 512) (at % 512) b c.requires.blocks there (omega (arith, c.if-bytes-within.false))
    ∙ ap (λ (n : ℕ). overwritten (joined ss) n b) place

pub returns-clause-blocks : goal.returns-clause-blocks
returns-clause-blocks c =
    let ss = c.args.slots.now in
    let at = c.args.at in
    let b = c.args.bytes.now in
    let there : c.args.at / 512 < length c.args.slots.now = omega (arith, c.requires.end, c.requires.some) in
    subst AreBlocks (sym c.in_ok-overwrite_at.ensures.ok)
    (set_are ss (at / 512) (overwritten (get_or ss (at / 512) []) (at % 512) b) c.requires.blocks
    (over_len ss c.requires.blocks (at / 512) (at % 512) b there (omega (arith, c.if-bytes-within.false))))

pub returns-clause-len : goal.returns-clause-len
returns-clause-len c =
    let ss = c.args.slots.now in
    let at = c.args.at in
    ap length c.in_ok-overwrite_at.ensures.ok ∙ length-set ss (at / 512) (overwritten (get_or ss (at / 512) []) (at % 512) c.args.bytes.now)
