-- A guess that has a place is there.
use Rattle.sk_ids.proofs.Names.{◌≡◌, ◌<◌, ℕ, false, Some, None, List, length, refl, sym, ◌∙◌, Option, IfSome, get_or}
use Rattle.sk_ids.proofs.Names.{is_some, has}
use Rattle.sk_ids.proofs.Searches.{found}
use Rattle.sk_ids.proofs.tags.TagSet.contains.Goals as goal

placed : (g : ℕ) (xs : List ℕ) (r : Option ℕ) → IfSome r (λ i. (i < length xs) × (get_or xs i 0 ≡ g)) → (r ≡ None → has g xs ≡ false) → is_some r ≡ has g xs
placed g xs (Some i) at none = sym (found g xs i at.0 at.1)
placed g xs None at none = sym (none refl)

pub returns : goal.returns
returns c = c.is_some.ensures ∙ placed c.args.id c.args.self.now c.place_of.result c.place_of.ensures.there c.place_of.ensures.none
