use Rattle.sk_objects.proofs.Names.{◌≡◌, ◌≤◌, ◌+◌, ◌-◌, ◌*◌, ◌/◌, ◌%◌, List, ℕ, [], length, get_or, take, drop, slice_set}
use Rattle.sk_objects.proofs.Names.{arith, sym, ap, subst, ◌∙◌, get_or_default, overwritten, joined, AreBlocks}
use Rattle.sk_objects.proofs.Joined.{two_are, two_many, two_joined}
use Rattle.sk_objects.proofs.slots.overwrite_two.Goals as goal

pub returns-clause-bytes : goal.returns-clause-bytes
returns-clause-bytes c =
    let ss = c.args.slots.now in
    let k = c.args.at / 512 in
    let w = c.args.at % 512 in
    let b = c.args.bytes.now in
    let more : 512 - c.args.at % 512 ≤ length c.args.bytes.now = omega (arith, c.requires.two) in
    let block : get_or ss (k + 1) c.index-slots-slot.result ≡ get_or ss (k + 1) [] = get_or_default ss (k + 1) c.index-slots-slot.result [] c.requires.there in
    let second : c.in_ok-second.second ≡ overwritten (get_or ss (k + 1) []) 0 (drop (512 - w) b) =
    c.in_ok-second.ensures.value ∙ ap (overwritten (get_or ss (k + 1) c.index-slots-slot.result) 0) c.split_at.ensures.back ∙ ap (λ (l : List ℕ). overwritten l 0 (drop (512 - w) b)) block in
    let first : c.overwrite_at.new.slots ≡ slice_set ss k (overwritten (get_or ss k []) w (take (512 - w) b)) =
    c.in_ok-overwrite_at.ensures.ok ∙ ap (λ (l : List ℕ). slice_set ss k (overwritten (get_or ss k []) w l)) c.split_at.ensures.front in
    let new : c.put_block.new.slots ≡ slice_set (slice_set ss k (overwritten (get_or ss k []) w (take (512 - w) b))) (k + 1) c.in_ok-second.second =
    c.put_block.ensures ∙ ap (λ (l : List (List ℕ)). slice_set l (k + 1) c.in_ok-second.second) first in
    let place : 512 * (c.args.at / 512) + c.args.at % 512 ≡ c.args.at = omega arith in
    ap joined new ∙ two_joined ss c.requires.blocks k w b more (omega arith) c.requires.there c.requires.short c.in_ok-second.second second
    ∙ ap (λ (n : ℕ). overwritten (joined ss) n b) place

pub returns-clause-blocks : goal.returns-clause-blocks
returns-clause-blocks c =
    let ss = c.args.slots.now in
    let k = c.args.at / 512 in
    let w = c.args.at % 512 in
    let b = c.args.bytes.now in
    let more : 512 - c.args.at % 512 ≤ length c.args.bytes.now = omega (arith, c.requires.two) in
    let block : get_or ss (k + 1) c.index-slots-slot.result ≡ get_or ss (k + 1) [] = get_or_default ss (k + 1) c.index-slots-slot.result [] c.requires.there in
    let second : c.in_ok-second.second ≡ overwritten (get_or ss (k + 1) []) 0 (drop (512 - w) b) =
    c.in_ok-second.ensures.value ∙ ap (overwritten (get_or ss (k + 1) c.index-slots-slot.result) 0) c.split_at.ensures.back ∙ ap (λ (l : List ℕ). overwritten l 0 (drop (512 - w) b)) block in
    let first : c.overwrite_at.new.slots ≡ slice_set ss k (overwritten (get_or ss k []) w (take (512 - w) b)) =
    c.in_ok-overwrite_at.ensures.ok ∙ ap (λ (l : List ℕ). slice_set ss k (overwritten (get_or ss k []) w l)) c.split_at.ensures.front in
    let new : c.put_block.new.slots ≡ slice_set (slice_set ss k (overwritten (get_or ss k []) w (take (512 - w) b))) (k + 1) c.in_ok-second.second =
    c.put_block.ensures ∙ ap (λ (l : List (List ℕ)). slice_set l (k + 1) c.in_ok-second.second) first in
    subst AreBlocks (sym new) (two_are ss c.requires.blocks k w b more (omega arith) c.requires.there c.requires.short c.in_ok-second.second second)

pub returns-clause-len : goal.returns-clause-len
returns-clause-len c =
    let ss = c.args.slots.now in
    let k = c.args.at / 512 in
    let w = c.args.at % 512 in
    let b = c.args.bytes.now in
    let more : 512 - c.args.at % 512 ≤ length c.args.bytes.now = omega (arith, c.requires.two) in
    let block : get_or ss (k + 1) c.index-slots-slot.result ≡ get_or ss (k + 1) [] = get_or_default ss (k + 1) c.index-slots-slot.result [] c.requires.there in
    let second : c.in_ok-second.second ≡ overwritten (get_or ss (k + 1) []) 0 (drop (512 - w) b) =
    c.in_ok-second.ensures.value ∙ ap (overwritten (get_or ss (k + 1) c.index-slots-slot.result) 0) c.split_at.ensures.back ∙ ap (λ (l : List ℕ). overwritten l 0 (drop (512 - w) b)) block in
    let first : c.overwrite_at.new.slots ≡ slice_set ss k (overwritten (get_or ss k []) w (take (512 - w) b)) =
    c.in_ok-overwrite_at.ensures.ok ∙ ap (λ (l : List ℕ). slice_set ss k (overwritten (get_or ss k []) w l)) c.split_at.ensures.front in
    let new : c.put_block.new.slots ≡ slice_set (slice_set ss k (overwritten (get_or ss k []) w (take (512 - w) b))) (k + 1) c.in_ok-second.second =
    c.put_block.ensures ∙ ap (λ (l : List (List ℕ)). slice_set l (k + 1) c.in_ok-second.second) first in
    ap length new ∙ two_many ss c.requires.blocks k w b more (omega arith) c.requires.there c.requires.short c.in_ok-second.second second
