-- The string goes out of its place, and its hash with it.
use Rattle.sk_index.proofs.Names.{sym, ap, ◌∙◌, subst, option_map, Vec, finish, write, string_of, Removes, is_under}
use Rattle.sk_index.proofs.Names.{numbered}
use Rattle.sk_index.proofs.Strings.{at, string_at}
use Rattle.sk_index.proofs.Kept as kept
use Rattle.sk_index.proofs.index.Index.remove.Goals as goal

pub returns-in_err-string-clause-none : goal.returns-in_err-string-clause-none
returns-in_err-string-clause-none c = λ none.
    ap (λ es. string_of es c.args.number) (sym c.self.view_is)
    ∙ string_at c.self.inside.strings.slots c.args.number
    ∙ ap (λ n. option_map (λ (v : Vec _). v.items) (at c.self.inside.strings.slots n)) (sym c.place.ensures)
    ∙ ap (option_map (λ (v : Vec _). v.items)) (sym c.in_err-string.ensures.value)

pub invariant_of-self-2 : goal.invariant_of-self-2
invariant_of-self-2 c =
    kept.removed (λ s. finish (write c.self.inside.seed s)) c.self.inside.strings
    (is_under c.self.inside.places.firsts c.self.inside.places.others)
    c.self.invariant c.try_remove.new.self
    (is_under c.remove.new.self.firsts c.remove.new.self.others) c.place.result c.in_ok-string.string
    (sym c.in_ok-string.ensures.value) c.in_ok-string.ensures.updates (c.hash_of-hash.result, c.place-2.result)
    (λ i. (
      (c.hash_of-hash.ensures ∙ ap (λ s. finish (write c.self.inside.seed s)) c.as_slice.ensures.value) i,
      (c.place-2.ensures ∙ sym c.place.ensures) i,
    ))
    c.remove.ensures

pub returns-clause-some : goal.returns-clause-some
returns-clause-some c =
    subst (λ es. Removes es c.in_ok-string.string.items c.args.number (numbered 0 c.try_remove.new.self.slots))
    c.self.view_is
    (subst (λ n. Removes (numbered 0 c.self.inside.strings.slots) c.in_ok-string.string.items n
    (numbered 0 c.try_remove.new.self.slots)) c.place.ensures
    (kept.removes (λ s. finish (write c.self.inside.seed s)) c.self.inside.strings
    (is_under c.self.inside.places.firsts c.self.inside.places.others)
    c.self.invariant c.try_remove.new.self
    (is_under c.remove.new.self.firsts c.remove.new.self.others) c.place.result c.in_ok-string.string
    (sym c.in_ok-string.ensures.value) c.in_ok-string.ensures.updates (c.hash_of-hash.result, c.place-2.result)
    (λ i. (
      (c.hash_of-hash.ensures ∙ ap (λ s. finish (write c.self.inside.seed s)) c.as_slice.ensures.value) i,
      (c.place-2.ensures ∙ sym c.place.ensures) i,
    ))
    c.remove.ensures))
