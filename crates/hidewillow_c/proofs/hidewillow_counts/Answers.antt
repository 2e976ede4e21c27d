-- What was counted is what is held before and after.
use Rattle.hidewillow_c.proofs.Names.{rules, ◌≡◌, subst, sym, Option, Some, Play, kernel_of, CountsKernel, TellsHeld}
use Rattle.hidewillow_c.proofs.hidewillow_counts.Goals as goal

pub returns : goal.returns
returns c =
    let told = c.tell_counts-told.result in let old = c.args.counts.now in let new = c.tell_counts-told.new.counts in
    let play = c.in-Some.play.value in
    let held : c.args.handle.now.held ≡ Some play = search rules in
    let kept : c.put_in.new.handle.held ≡ Some play = search rules in
    let counted : CountsKernel kernel_of old new told play = subst (λ (p : Play). CountsKernel kernel_of old new told p) c.deref.ensures c.tell_counts-told.ensures in
    subst (λ (m : Option Play). TellsHeld (CountsKernel kernel_of old new) (new ≡ old) told m c.put_in.new.handle.held) (sym held) (kept, counted)
