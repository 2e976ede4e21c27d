-- What was counted is what is held before and after.
use Rattle.hidewillow_c.proofs.Names.{rules, ◌≡◌, subst, sym, Option, Some, Client, desk_kernel, CountsKernel, TellsHeld}
use Rattle.hidewillow_c.proofs.hidewillow_desk_counts.Goals as goal

pub returns : goal.returns
returns c =
    let told = c.tell_counts-told.result in let old = c.args.counts.now in let new = c.tell_counts-told.new.counts in
    let client = c.in-Some.client.value in
    let held : c.args.desk.now.held ≡ Some client = search rules in
    let kept : c.put_in.new.handle.held ≡ Some client = search rules in
    let counted : CountsKernel desk_kernel old new told client = subst (λ (it : Client). CountsKernel desk_kernel old new told it) c.deref.ensures c.tell_counts-told.ensures in
    subst (λ (m : Option Client). TellsHeld (CountsKernel desk_kernel old new) (new ≡ old) told m c.put_in.new.handle.held) (sym held) (kept, counted)
