-- The two lists joined, in order, with each number once.
use Rattle.sk_ids.proofs.Names.{◌≡◌, ℕ, eqb, List, ◌++◌, length, ap, ◌∙◌, sym, subst, rules, nat_cmp_total}
use Rattle.sk_ids.proofs.Names.{unsigned_tied, dedup, refill, IsPermutation, IsStrictlySortedBy-dedup, take_at, has}
use Rattle.sk_ids.proofs.GuessSets.{has-dedup}
use Rattle.sk_ids.proofs.tags.TagSet.long_union.Goals as goal

pub invariant_of-result : goal.invariant_of-result
invariant_of-result c =
    let same : refill (length c.extend_from_slice.new.self.items) c.extend_from_slice.new.self.items c.sort_unstable.new.self ≡ c.sort_unstable.new.self = take_at _ _ _ (c.sort_unstable.ensures.len ∙ ap length c.deref_mut.ensures.value) in
    rw (c.of-ids.ensures, c.dedup.ensures.items, same) (IsStrictlySortedBy-dedup nat_cmp_total (λ x y. sym (unsigned_tied x y)) c.sort_unstable.new.self c.sort_unstable.ensures.sorted)

pub returns-clause-rising : goal.returns-clause-rising
returns-clause-rising c =
    let same : refill (length c.extend_from_slice.new.self.items) c.extend_from_slice.new.self.items c.sort_unstable.new.self ≡ c.sort_unstable.new.self = take_at _ _ _ (c.sort_unstable.ensures.len ∙ ap length c.deref_mut.ensures.value) in
    rw (c.of-ids.ensures, c.dedup.ensures.items, same) (IsStrictlySortedBy-dedup nat_cmp_total (λ x y. sym (unsigned_tied x y)) c.sort_unstable.new.self c.sort_unstable.ensures.sorted)

pub returns-clause-members : goal.returns-clause-members
returns-clause-members c q =
    let same : refill (length c.extend_from_slice.new.self.items) c.extend_from_slice.new.self.items c.sort_unstable.new.self ≡ c.sort_unstable.new.self = take_at _ _ _ (c.sort_unstable.ensures.len ∙ ap length c.deref_mut.ensures.value) in
    let joined : c.deref_mut.result.now ≡ c.self.inside.ids ++ c.other.inside.ids = search rules in
    ap (has q) (c.of-ids.ensures ∙ c.dedup.ensures.items ∙ ap (dedup eqb) same)
    ∙ has-dedup c.self.inside.ids c.other.inside.ids c.sort_unstable.new.self (subst (λ (xs : List ℕ). IsPermutation xs c.sort_unstable.new.self) joined c.sort_unstable.ensures.permutation) q
    ∙ rw (c.self.view_is, c.other.view_is)
