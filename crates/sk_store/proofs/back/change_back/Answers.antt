use Rattle.std.proofs.Common.{◌∙◌}
use Rattle.sk_store.proofs.InPlace.{put_undone}
use Rattle.sk_store.proofs.back.change_back.Goals as goal

pub returns : goal.returns
returns c =
    (rw c.in-Some.is at (c.get_mut.follows.holds c.undo.new.self))
    ∙ put_undone c.args.store.now c.args.entity.now _ c.undo.new.self c.args.undo c.in-Some.ensures.value c.undo.ensures
