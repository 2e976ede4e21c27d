-- One entity more is in the lists of all the guesses; without memory all are taken out again.
use Rattle.sk_machine.proofs.Names.{IsStrictlySortedBy, nat_cmp, has, numbers, take, sym, ◌∙◌, ap, subst, opens_of}
use Rattle.sk_machine.proofs.Names.{AllAlmostExact, AllExact, tags_in, with_tags, entity_cmp}
use Rattle.sk_machine.proofs.Given.{from_ok, from_err}
use Rattle.sk_machine.proofs.Listed.{almost_of, depends_exact, depends_opens, in_front, in_place, take_all, take_next}
use Rattle.sk_machine.proofs.lists.depend_each.Goals as goal

pub depend-requires-clause-known : goal.depend-requires-clause-known
depend-requires-clause-known c = λ g here.
    ap (λ os. has g (numbers os)) c.loop-entity.invariant.opens ∙ c.requires.order.tidy.known c.entity-item.result g (sym (ap (has g) c.tags_of-own.ensures) ∙ here)

pub depend-requires-clause-rising : goal.depend-requires-clause-rising
depend-requires-clause-rising c = subst (λ os. IsStrictlySortedBy nat_cmp (numbers os)) (sym c.loop-entity.invariant.opens) c.requires.order.rising

pub relieve_all-requires-clause-almost : goal.relieve_all-requires-clause-almost
relieve_all-requires-clause-almost c =
    let base = tags_in c.args.logs.now.slots in
    let es = c.args.entities.now in
    subst (AllAlmostExact base es) (sym (from_err c.depend.result c.if-is_err.ensures.value c.depend.ensures.err))
    (almost_of c.args.tags.now (take c.loop-entity.entity-index es) es base c.requires.covers (in_front es c.loop-entity.entity-index) c.loop-entity.guesses.opens c.loop-entity.invariant.exact)

pub returns-then-is_err : goal.returns-then-is_err
returns-then-is_err c = record {
  view = c.relieve_all.ensures.view ∙ c.depend.ensures.view ∙ c.loop-entity.invariant.view;
  opens = c.relieve_all.ensures.opens ∙ ap opens_of (from_err c.depend.result c.if-is_err.ensures.value c.depend.ensures.err) ∙ c.loop-entity.invariant.opens;
  ok = tt;
  err = c.relieve_all.ensures.exact;
}

pub loop-entity-preserved : goal.loop-entity-preserved
loop-entity-preserved c =
    let base = tags_in c.args.logs.now.slots in
    let es = c.args.entities.now in
    let i = c.loop-entity.entity-index in
    let x = c.entity-item.result in
    let tags = c.args.tags.now in
    let depends = from_ok c.depend.result c.if-is_err.ensures.value c.depend.ensures.ok in
    let here = in_place es i x c.loop-entity-test.true c.entity-item.is in
    record {
      view = c.depend.ensures.view ∙ c.loop-entity.invariant.view;
      opens = depends_opens c.tags_of-own.result.now tags x c.loop-entity.guesses.opens c.depend.new.guesses.opens depends ∙ c.loop-entity.invariant.opens;
      exact = subst (λ ys. AllExact (with_tags entity_cmp tags ys base) c.depend.new.guesses.opens) (sym (take_next es i x c.loop-entity-test.true c.entity-item.is))
          (depends_exact tags (take i es) x base c.tags_of-own.result.now c.tags_of-own.ensures (λ g. c.requires.covers x g here) c.loop-entity.guesses.opens c.depend.new.guesses.opens depends c.loop-entity.invariant.exact);
    }

pub returns : goal.returns
returns c = record {
  view = c.loop-entity.invariant.view;
  opens = c.loop-entity.invariant.opens;
  ok = subst (λ ys. AllExact (with_tags entity_cmp c.args.tags.now ys (tags_in c.args.logs.now.slots)) c.loop-entity.guesses.opens)
      (take_all c.args.entities.now c.loop-entity.entity-index c.loop-entity-test.false) c.loop-entity.invariant.exact;
  err = tt;
}
