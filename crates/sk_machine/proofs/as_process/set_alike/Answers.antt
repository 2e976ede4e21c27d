-- Where no guess is open nothing depends on any, and where all are the process's nothing depends on others.
use Rattle.sk_machine.proofs.Names.{◌≡◌, [], ap, subst, sym, refl, ◌∙◌, nat_cmp, IsStrictlySortedBy, has, opens_of}
use Rattle.sk_machine.proofs.Names.{Proc, LogsView, input_in, read_by, looked, looks_of, Covers, tags_in}
use Rattle.sk_machine.proofs.Names.{RestsAsProcess}
use Rattle.sk_machine.proofs.Listed.{no_length}
use Rattle.sk_machine.proofs.AsProcess.{none_open, open_covered}
use Rattle.sk_machine.proofs.as_process.set_alike.Goals as goal

pub returns-then-undecided-eq0-clause-alike : goal.returns-then-undecided-eq0-clause-alike
returns-then-undecided-eq0-clause-alike c =
    let os = opens_of c.args.guesses.now.opens in
    let none : os ≡ [] = ap opens_of (no_length c.args.guesses.now.opens (sym c.undecided.ensures.opens ∙ c.if-undecided-eq0.true)) in
    λ _.
    subst (λ (l : LogsView). RestsAsProcess l.slots l.tags c.args.pid (input_in c.args.input) c.args.plan.now) (sym c.set_untagged.ensures)
    (none_open c.args.logs.now.slots os c.requires.order.tidy none c.args.pid (input_in c.args.input) c.args.plan.now)

pub writes_alike-requires-clause-own : goal.writes_alike-requires-clause-own
writes_alike-requires-clause-own c =
    subst (λ (l : LogsView). tags_in l.slots (Proc c.args.pid) ≡ l.tags) (sym c.in_ok-set_tags_of.ensures.ok) refl

pub are_all-requires-clause-known : goal.are_all-requires-clause-known
are_all-requires-clause-known c = λ g here.
    let tags = ap (λ (l : LogsView). l.tags) c.in_ok-set_tags_of.ensures.ok in
    c.requires.order.tidy.known (Proc c.args.pid) g (sym (ap (has g) (c.next_tags-3.ensures ∙ tags)) ∙ here)

pub returns-then-are_all-clause-alike : goal.returns-then-are_all-clause-alike
returns-then-are_all-clause-alike c = λ _.
    let set = c.set_tags_of.new.self in
    let os = opens_of c.args.guesses.now.opens in
    let read = read_by c.args.pid (input_in c.args.input) (looked (looks_of c.args.plan.now)) in
    let slots = ap (λ (l : LogsView). l.slots) c.in_ok-set_tags_of.ensures.ok in
    record {
      own = subst (λ (l : LogsView). tags_in l.slots (Proc c.args.pid) ≡ l.tags) (sym c.in_ok-set_tags_of.ensures.ok) refl;
      reads = subst (λ k. Covers set.tags read (tags_in k)) (sym slots)
          (open_covered c.args.logs.now.slots os c.requires.order.tidy set.tags read (sym c.next_tags-3.ensures ∙ c.are_all.ensures c.if-are_all.true));
      writes = c.writes_alike.ensures c.if-not-writes_alike.false;
      rising = subst (IsStrictlySortedBy nat_cmp) (c.ids-rising-2.ensures.members ∙ c.next_tags-2.ensures) c.ids-rising-2.ensures.rising;
    }

pub returns-clause-alike : goal.returns-clause-alike
returns-clause-alike c = λ within. record {
  own = subst (λ (l : LogsView). tags_in l.slots (Proc c.args.pid) ≡ l.tags) (sym c.in_ok-set_tags_of.ensures.ok) refl;
  reads = c.reads_within-within.ensures within;
  writes = c.writes_alike.ensures c.if-not-writes_alike.false;
  rising = subst (IsStrictlySortedBy nat_cmp) (c.ids-rising-2.ensures.members ∙ c.next_tags-2.ensures) c.ids-rising-2.ensures.rising;
}
