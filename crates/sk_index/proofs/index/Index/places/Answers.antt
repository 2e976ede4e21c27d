-- Behind the last place stands nothing, and the places rise.
use Rattle.sk_index.proofs.Names.{◌≤◌, None, length, sym, ap, ◌∙◌, subst, arith, option_map, Vec, IsStrictlySortedBy}
use Rattle.sk_index.proofs.Names.{get_or_past, numbers_in, string_of}
use Rattle.std.proofs.Common.{nat_cmp}
use Rattle.sk_index.proofs.Counts.{rising_numbered}
use Rattle.sk_index.proofs.Strings.{string_at}
use Rattle.sk_index.proofs.index.Index.places.Goals as goal

pub returns-clause-behind : goal.returns-clause-behind
returns-clause-behind c = λ n past.
    let behind : length c.self.inside.strings.slots ≤ n = omega (arith, c.capacity.ensures.slots, past) in
    ap (λ es. string_of es n) (sym c.self.view_is)
    ∙ string_at c.self.inside.strings.slots n
    ∙ ap (option_map (λ (v : Vec _). v.items)) (get_or_past c.self.inside.strings.slots n None behind)

pub returns-clause-rising : goal.returns-clause-rising
returns-clause-rising c = subst (λ es. IsStrictlySortedBy nat_cmp (numbers_in es)) c.self.view_is (rising_numbered 0 c.self.inside.strings.slots)
