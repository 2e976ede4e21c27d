-- Of two guesses that rise the first is the older one.
use Rattle.sk_ids.proofs.Names.{◌≡◌, ◌<◌, ◌≤◌, ℕ, List, [], ◌∷◌, length, get_or, arith, sym, subst, nat_cmp}
use Rattle.sk_ids.proofs.Names.{IsStrictlySortedBy}
use Rattle.std.proofs.lemmas.Map.Keys.{below_from_sorted}
use Rattle.sk_ids.proofs.tags.TagSet.copy.Goals as goal

first_is_less : (xs : List ℕ) (x y : ℕ) → IsStrictlySortedBy nat_cmp xs → 2 ≤ length xs → x ≡ get_or xs 0 x → y ≡ get_or xs 1 y → x < y
first_is_less [] x y rises two first next = absurd (omega arith)
first_is_less (a ∷ []) x y rises two first next = absurd (omega arith)
first_is_less (a ∷ b ∷ rest) x y rises two first next =
    let less : a < b = below_from_sorted (a ∷ b ∷ rest) 0 1 0 rises (omega arith) two in
    let x_is : x ≡ a = first in
    let y_is : y ≡ b = next in
    omega (arith, less, x_is, y_is)

pub pair-requires : goal.pair-requires
pair-requires c =
    let rises = subst (IsStrictlySortedBy nat_cmp) (sym c.as_slice.ensures) c.self.invariant in
    first_is_less c.as_slice.result.now c.oldest-item.result c.newest-item.result rises c.in-len2.len_at_least c.oldest-item.is c.newest-item.is
