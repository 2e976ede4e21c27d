-- One text more is without the guess, down to one that was said before it was drawn.
use Rattle.sk_terminal.proofs.Names.{◌≡◌, ◌-◌, ◌<◌, ℕ, suc, List, length, take, false, sym, ◌∙◌, ap, subst, arith}
use Rattle.sk_terminal.proofs.Names.{length-set, list_any, TaggedText, texts_of, AreBounded, Held}
use Rattle.std.proofs.Common.{slice_set}
use Rattle.sk_terminal.proofs.HeldTexts.{rests, from_before, place_before, free_before, lightened_texts}
use Rattle.sk_terminal.proofs.HeldTexts.{lightened_bounds}
use Rattle.sk_terminal.proofs.terminal.take_out.Goals as goal

pub loop-before-preserved : goal.loop-before-preserved
loop-before-preserved c =
    let hs = c.args.texts.now.items in
    let j = c.loop-before.before - 1 in
    let some = c.loop-before-test.true in
    let within = c.loop-before.invariant.1 in
    let next : c.loop-before.before ≡ suc j = omega arith in
    let lt : j < length hs = omega arith in (
      ap (λ (s : TaggedText). slice_set c.loop-before.texts.items j (record { said = s; newest = c.index_mut.result.now.newest })) c.without.ensures
          ∙ from_before c.args.id c.loop-before.before j hs c.loop-before.texts.items c.index_mut.result.now next lt c.loop-before.invariant.0 c.index_mut.ensures.value,
      omega arith,
      length-set c.loop-before.texts.items j _ ∙ c.loop-before.invariant.2,
    )

pub returns-else-index-number : goal.returns-else-index-number
returns-else-index-number c =
    let hs = c.args.texts.now.items in
    let i = c.loop-before.before in
    let j = i - 1 in
    let some = c.loop-before-test.true in
    let within = c.loop-before.invariant.1 in
    let next : i ≡ suc j = omega arith in
    let lt : j < length hs = omega arith in
    let there = place_before c.args.id i j hs c.loop-before.texts.items c.index.result.now next lt c.loop-before.invariant.0 c.index.ensures in
    let less : c.index.result.now.newest < c.args.id = subst (λ n. c.index.result.now.newest < n) c.number.ensures.value c.if-index-number.false in
    let none = λ (high : ℕ) (b : AreBounded 0 hs high). free_before c.args.id 0 high i j hs c.index.result.now b next lt there less in
    record {
      texts = λ high b. ap texts_of c.loop-before.invariant.0 ∙ lightened_texts c.args.id i hs (none high b);
      bounds = λ high b. subst (λ (xs : List Held). AreBounded 0 xs high) (sym c.loop-before.invariant.0)
          (lightened_bounds c.args.id i 0 high hs (none high b) b);
      as_many = c.loop-before.invariant.2;
    }

pub returns-after-loop-before : goal.returns-after-loop-before
returns-after-loop-before c =
    let hs = c.args.texts.now.items in
    let i = c.loop-before.before in
    let past = c.loop-before-test.false in
    let zero_is : i ≡ 0 = omega arith in
    let none : list_any (rests c.args.id) (take i hs) ≡ false = ap (λ k. list_any (rests c.args.id) (take k hs)) zero_is in
    record {
      texts = λ high b. ap texts_of c.loop-before.invariant.0 ∙ lightened_texts c.args.id i hs none;
      bounds = λ high b. subst (λ (xs : List Held). AreBounded 0 xs high) (sym c.loop-before.invariant.0)
          (lightened_bounds c.args.id i 0 high hs none b);
      as_many = c.loop-before.invariant.2;
    }
