-- One more part is written, and at the end none is left.
use Rattle.sk_words.proofs.Names.{rules, ◌++◌, [], List, ℕ, refl, sym, ap, subst, ◌∙◌, append_assoc, flat_map}
use Rattle.sk_words.proofs.Names.{HasWritten, put_two, part_text, spelled_byte}
use Rattle.std.proofs.lemmas.List.{append-nil}
use Rattle.sk_words.proofs.spelling.UnquotedDisplay.fmt.Goals as goal

pub loop-part-init : goal.loop-part-init
loop-part-init g c = λ p. ([], search rules, refl)

pub loop-part-preserved : goal.loop-part-preserved
loop-part-preserved g c = λ p.
    let before = c.loop-part.invariant p in
    let text = part_text c.in-Some.part in (
      before.0 ++ text,
      put_two _ _ _ _ before.0 text (before.0 ++ text) before.1 (search rules) refl,
      append_assoc before.0 text (flat_map spelled_byte c.in-Some.behind.now)
          ∙ ap (λ (xs : List ℕ). before.0 ++ xs) (sym c.in-Some.ensures.text)
          ∙ before.2,
    )

pub returns-clause-writes : goal.returns-clause-writes
returns-clause-writes g c = λ p ok.
    let before = c.loop-part.invariant p in
    let none = c.first_part.ensures.none c.in_default.is in
    let whole = sym (append-nil before.0) ∙ ap (λ (r : List ℕ). before.0 ++ flat_map spelled_byte r) (sym none) ∙ before.2 in
    subst (λ (t : List ℕ). HasWritten g.W.Write.write_str_gives c.args.f.now t c.loop-part.f) whole before.1
