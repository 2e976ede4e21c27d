-- The union of two rising sets of undecided guesses; none where no guess is undecided.
use Rattle.sk_client.proofs.Names.{◌≡◌, ◌∙◌, length, undecided_at, sym, ap, subst, Proc, Copy, KernelView, tags_at, HasSoundTrace}
use Rattle.sk_client.proofs.Desks.{none_rested, rests_found}
use Rattle.sk_client.proofs.desk.Desk.rests.Goals as goal

pub returns : goal.returns
returns c =
    let same = c.kernel-kernel.ensures in
    let sound : HasSoundTrace c.args.self.now.kernel = subst (λ (k : KernelView). HasSoundTrace k) same c.trace-sound.ensures.sound in
    rests_found c.args.self.now.kernel sound c.args.pid c.args.name.now c.either.result _ _
    (c.tags_of-process.ensures.computed ∙ ap (λ (k : KernelView). tags_at k (Proc c.args.pid)) same)
    (c.tags_of-copy.ensures.computed ∙ ap (λ (k : KernelView). tags_at k (Copy c.args.name.now)) same)
    c.either.ensures.members c.either.ensures.rising

pub returns-then-undecided-eq0 : goal.returns-then-undecided-eq0
returns-then-undecided-eq0 c =
    let none : length (undecided_at c.args.self.now.kernel) ≡ 0 = subst (λ (k : KernelView). length (undecided_at k) ≡ 0) c.kernel-kernel.ensures (sym c.undecided.ensures ∙ c.if-undecided-eq0.true) in
    c.new.ensures ∙ none_rested c.args.self.now.kernel c.args.pid c.args.name.now none
