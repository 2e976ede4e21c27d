-- One order of commands over many leaderships.
use Rattle.sk_led.proofs.Names.{◌≡◌, List, [], ◌∷◌, ◌++◌, take, refl, sym, ◌∙◌, ap, Entries}
use Rattle.sk_led.proofs.Names.{after_works, entries_after, entry_after, Entry, logged, OneOrder}
use Rattle.sk_led.proofs.Led.{leaders_go_on}

joined : (xs ys : List Entry) (start : Entries)
    → entries_after (xs ++ ys) start ≡ entries_after ys (entries_after xs start)
joined [] ys start = refl
joined (x ∷ xs) ys start = joined xs ys (entry_after x start)

pub one_order : OneOrder
one_order read moves w start end [] runs reigns = ([], reigns, refl)
one_order read moves w start end (r ∷ rs) runs reigns =
    let found = leaders_go_on read moves w start r runs reigns.0 in
    let rest = one_order read moves w (after_works r.works start) end rs runs reigns.1 in
    let front = take found.count (logged r.calls r.store) in
    let is : end ≡ entries_after (front ++ rest.0) start =
    rest.1 ∙ ap (λ (e : Entries). entries_after rest.0 e) found.map_is ∙ sym (joined front rest.0 start) in
    (front ++ rest.0, is, (found.count, rest.0, refl, found.settled, rest.2))
