-- The guesses of the process and of its signals are those of its private instructions.
use Rattle.sk_machine.proofs.Names.{◌||◌, [], ◌∷◌, ap, sym, subst, ◌∙◌, nat_cmp, IsStrictlySortedBy, has, alone_reads}
use Rattle.sk_machine.proofs.Names.{Proc, Sig, any_rests, tags_in}
use Rattle.sk_machine.proofs.Given.{if_ok}
use Rattle.sk_machine.proofs.Listed.{any_of, no_length, none_covered}
use Rattle.sk_machine.proofs.Tags.{none_rest}
use Rattle.sk_machine.proofs.Alone.{tags_alone, first_among}
use Rattle.sk_machine.proofs.machine.Machine.alone_tags.Goals as goal

pub returns-then-open_count-eq0-clause-alone : goal.returns-then-open_count-eq0-clause-alone
returns-then-open_count-eq0-clause-alone c =
    let m = c.args.self.now in
    let none = no_length m.opens (sym c.open_count.ensures ∙ c.if-open_count-eq0.true) in
    tags_alone m c.args.pid c.new-none.result c.requires.tidy c.requires.rising (subst (IsStrictlySortedBy nat_cmp) c.ids-rising.ensures.members c.ids-rising.ensures.rising)
    (λ g. ap (has g) c.new-none.ensures ∙ (λ i. has g [] || sym (none_rest m c.requires.tidy none g (alone_reads c.args.pid)) i))

pub returns-then-open_count-eq0-clause-covers : goal.returns-then-open_count-eq0-clause-covers
returns-then-open_count-eq0-clause-covers c =
    let m = c.args.self.now in
    let none = no_length m.opens (sym c.open_count.ensures ∙ c.if-open_count-eq0.true) in
    none_covered m c.requires.tidy none c.new-none.result (Proc c.args.pid ∷ [])

pub returns-clause-alone : goal.returns-clause-alone
returns-clause-alone c =
    let m = c.args.self.now in
    if_ok c.add_tags.result c.add_tags.ensures.members c.add_tags.ensures.rising (λ tags members rising.
    tags_alone m c.args.pid tags c.requires.tidy c.requires.rising rising
    (λ g. members g ∙ (λ i. has g (c.new-none.ensures i) || any_rests m g (c.as_slice.ensures i))))

pub returns-clause-covers : goal.returns-clause-covers
returns-clause-covers c =
    let m = c.args.self.now in
    if_ok c.add_tags.result c.add_tags.ensures.members c.add_tags.ensures.rising (λ tags members rising. λ e g there rests.
    members g ∙ (λ i. has g (c.new-none.ensures i) || any_rests m g (c.as_slice.ensures i))
    ∙ first_among (has g (tags_in m.slots (Proc c.args.pid))) (has g (tags_in m.slots (Sig c.args.pid))) (any_of (tags_in m.slots) g (Proc c.args.pid ∷ []) e there rests))
