-- A place is held for a key that has none.
use Rattle.sk_plain_store.proofs.Names.{◌≡◌, None, sym, ap, ◌∙◌, entries_of, has_place, place_of}
use Rattle.sk_plain_store.proofs.Placed.{holds_place, keeps_held, not_some}
use Rattle.sk_plain_store.proofs.places.hold.Goals as goal

pub returns-clause-same : goal.returns-clause-same
returns-clause-same c =
    let old = c.args.places.now.entries in
    let none : place_of old c.args.key.now ≡ None = not_some (place_of old c.args.key.now) (sym c.contains_key.ensures ∙ c.if-contains_key.false) in
    ap entries_of c.in_ok-insert.ensures.entries
    ∙ holds_place c.in_ok-copy.copy old (ap (place_of old) c.in_ok-copy.ensures.items ∙ none)

pub returns-clause-keeps : goal.returns-clause-keeps
returns-clause-keeps c = λ key h.
    ap (λ es. has_place es key) c.in_ok-insert.ensures.entries ∙ keeps_held c.in_ok-copy.copy None c.args.places.now.entries key h
