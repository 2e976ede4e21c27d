-- What is read of the kernel is shown.
use Rattle.sk_handles.proofs.Names.{subst, KernelView, option_and_then, kernel_of, named, tags_text_of, Reads}
use Rattle.sk_handles.specs.Asked.{tags_shown}
use Rattle.sk_handles.proofs.Shown.{text_is_shown}
use Rattle.sk_handles.proofs.asked.tell_tags.Goals as goal

pub returns : goal.returns
unfolding tags_shown
returns c =
    let reads = subst (λ (k : KernelView). Reads c.tags.result (option_and_then (tags_text_of k) (named k c.args.name.now))) c.kernel.ensures c.tags.ensures in
    text_is_shown c.shown.result c.tags.result (tags_shown c.args.name.now (kernel_of c.args.play.now)) c.args.room.now c.shown.new.room reads c.shown.ensures
