-- The tags of what is read and of what is written, with the step's own, are the step's tags.
use Rattle.sk_machine.proofs.Names.{◌≡◌, ℕ, false, ◌||◌, List, numbers, marks, sym, ◌∙◌, subst, nat_cmp, IsStrictlySortedBy, is_marked}
use Rattle.sk_machine.proofs.Names.{Entity, read_by, written_by, has, looked, looks_of, seen_with, written_in, written_is, look_at}
use Rattle.sk_machine.proofs.Names.{input_in, EntryView, tags_in, any_rests}
use Rattle.sk_machine.proofs.Given.{if_ok}
use Rattle.sk_machine.proofs.Listed.{any_of, no_length, none_covered}
use Rattle.sk_machine.proofs.Tags.{tags_are, none_more, none_rest, front_rises, own_among, last_among}
use Rattle.sk_machine.proofs.machine.Machine.step_tags.Goals as goal

pub returns-then-open_count-eq0-clause-exact : goal.returns-then-open_count-eq0-clause-exact
returns-then-open_count-eq0-clause-exact c =
    let m = c.args.self.now in
    let n : EntryView = record { pid = c.args.pid; input = (input_in c.args.input); guess = c.args.own.now } in
    let plan = seen_with (look_at m.slots) c.args.scripts.now n.pid n.input c.args.plan.now in
    let none = no_length m.opens (sym c.open_count.ensures ∙ c.if-open_count-eq0.true) in
    let rests : (g : ℕ) (es : List Entity) → any_rests m g es ≡ false = none_rest m c.requires.tidy none in
    tags_are m n plan c.own_tags-own.result c.requires.tidy c.requires.rising (subst (IsStrictlySortedBy nat_cmp) c.ids-rising.ensures.members c.ids-rising.ensures.rising)
    (λ g. c.own_tags-own.ensures g ∙ none_more (is_marked n.guess g) ∙ none_more (is_marked n.guess g || false)
    ∙ (λ i. (is_marked n.guess g || sym (rests g (read_by n.pid n.input plan.looks)) i) || sym (rests g (written_by n.pid plan.beside)) i))

pub returns-then-open_count-eq0-clause-own : goal.returns-then-open_count-eq0-clause-own
returns-then-open_count-eq0-clause-own c = λ g is. c.own_tags-own.ensures g ∙ is

pub returns-then-open_count-eq0-clause-covers : goal.returns-then-open_count-eq0-clause-covers
returns-then-open_count-eq0-clause-covers c =
    let m = c.args.self.now in
    let none = no_length m.opens (sym c.open_count.ensures ∙ c.if-open_count-eq0.true) in
    none_covered m c.requires.tidy none c.own_tags-own.result (written_in c.args.pid c.args.plan.now)

pub add_touched-requires : goal.add_touched-requires
add_touched-requires c = record { tidy = c.requires.tidy; rising = front_rises (numbers c.args.self.now.opens) (marks c.args.own.now) c.requires.rising }

pub returns-clause-exact : goal.returns-clause-exact
returns-clause-exact c =
    let m = c.args.self.now in
    let n : EntryView = record { pid = c.args.pid; input = (input_in c.args.input); guess = c.args.own.now } in
    let scripts = c.args.scripts.now in
    let plan = seen_with (look_at m.slots) scripts n.pid n.input c.args.plan.now in
    let written = c.requires.written ∙ sym (written_is (look_at m.slots) scripts n.pid n.input c.args.plan.now) in
    if_ok c.add_touched.result c.add_touched.ensures.members c.add_touched.ensures.rising (λ tags members rising.
    tags_are m n plan tags c.requires.tidy c.requires.rising rising
    (λ g. members g ∙ (λ i. (c.own_tags-own.ensures g i || any_rests m g (read_by n.pid n.input plan.looks)) || any_rests m g (written i))))

pub returns-clause-own : goal.returns-clause-own
returns-clause-own c =
    let m = c.args.self.now in
    let read = read_by c.args.pid (input_in c.args.input) (looked (looks_of c.args.plan.now)) in
    if_ok c.add_touched.result c.add_touched.ensures.members c.add_touched.ensures.rising (λ tags members rising. λ g is.
    members g ∙ own_among (has g c.own_tags-own.result) (any_rests m g read) (any_rests m g c.args.written.now) (c.own_tags-own.ensures g ∙ is))

pub returns-clause-covers : goal.returns-clause-covers
returns-clause-covers c =
    let m = c.args.self.now in
    let read = read_by c.args.pid (input_in c.args.input) (looked (looks_of c.args.plan.now)) in
    let written = c.requires.written in
    if_ok c.add_touched.result c.add_touched.ensures.members c.add_touched.ensures.rising (λ tags members rising. λ e g there rests.
    members g ∙ (λ i. (has g c.own_tags-own.result || any_rests m g read) || any_rests m g (written i))
    ∙ last_among (has g c.own_tags-own.result) (any_rests m g read) (any_rests m g (written_in c.args.pid c.args.plan.now)) (any_of (tags_in m.slots) g (written_in c.args.pid c.args.plan.now) e there rests))
