-- The bytes so far, and those that the rest of a literal says: from the definition of literals.
use Rattle.sk_words.proofs.Names.{rules, ◌≡◌, length, take, sym, ap, ◌∙◌, arith, take_more_set, length-set}
use Rattle.sk_words.proofs.Names.{length-take-le, text_from, Plain, at_most_512}
use Rattle.sk_words.proofs.Bytes.{with_front, with_front_more, too_many}
use Rattle.sk_words.proofs.literal.unquoted.Goals as goal

pub returns-then-len-eq-TEXT_LIMIT : goal.returns-then-len-eq-TEXT_LIMIT
returns-then-len-eq-TEXT_LIMIT c =
    let full : length (take c.loop-rest.len c.loop-rest.cells) ≡ 512 = length-take-le c.loop-rest.len c.loop-rest.cells (omega arith) ∙ search rules in
    sym (ap at_most_512 (c.loop-rest.invariant.said ∙ ap (with_front (take c.loop-rest.len c.loop-rest.cells)) c.in-Some.ensures.byte)
    ∙ too_many (take c.loop-rest.len c.loop-rest.cells) c.in-Some.byte (text_from Plain c.in-Some.tail.now) full)

pub loop-rest-preserved : goal.loop-rest-preserved
loop-rest-preserved c = record {
  short = omega arith;
  cells = length-set c.loop-rest.cells c.loop-rest.len c.in-Some.byte ∙ c.loop-rest.invariant.cells;
  said = rw (take_more_set c.loop-rest.cells c.loop-rest.len c.in-Some.byte (omega arith)) (c.loop-rest.invariant.said ∙ ap (with_front (take c.loop-rest.len c.loop-rest.cells)) c.in-Some.ensures.byte ∙ with_front_more (take c.loop-rest.len c.loop-rest.cells) c.in-Some.byte (text_from Plain c.in-Some.tail.now));
}
