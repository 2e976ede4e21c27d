-- What is read of the kernel is shown.
use Rattle.sk_handles.proofs.Names.{subst, KernelView, option_and_then, kernel_of, named, value_text, Reads}
use Rattle.sk_handles.specs.Asked.{value_shown}
use Rattle.sk_handles.proofs.Shown.{text_is_shown}
use Rattle.sk_handles.proofs.asked.tell_value.Goals as goal

pub returns : goal.returns
unfolding value_shown
returns c =
    let reads = subst (λ (k : KernelView). Reads c.value.result (option_and_then (value_text k) (named k c.args.name.now))) c.kernel.ensures c.value.ensures in
    text_is_shown c.shown.result c.value.result (value_shown c.args.name.now (kernel_of c.args.play.now)) c.args.room.now c.shown.new.room reads c.shown.ensures
