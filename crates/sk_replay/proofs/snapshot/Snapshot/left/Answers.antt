-- They are a back part of all.
use Rattle.sk_replay.proofs.Names.{◌≡◌, true, ap, ◌∙◌, is_sorted, take_rest, bytes_cmp}
use Rattle.sk_replay.proofs.Left.{left_rises}
use Rattle.sk_replay.proofs.snapshot.Snapshot.left.Goals as goal

pub returns-clause-rising : goal.returns-clause-rising
returns-clause-rising c =
    let n = c.self.inside.written in
    let sorted : is_sorted bytes_cmp c.as_slice.result.now ≡ true = ap (is_sorted bytes_cmp) c.as_slice.ensures.value ∙ c.self.invariant.1 in
    ap (is_sorted bytes_cmp) (take_rest c.as_slice.result.now n) ∙ left_rises n c.as_slice.result.now sorted
