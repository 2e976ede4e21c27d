-- A key has a slot where it is among those of the entries.
use Rattle.sk_slots.proofs.Names.{ap, subst, ◌∙◌, IsTotalOrder, get, is_in, is_some}
use Rattle.sk_map.specs.Seen.{seen}
use Rattle.sk_slots.proofs.Tables.{among_found}
use Rattle.sk_slots.proofs.slots.Slots.keys.Goals as goal

pub returns-clause-all : goal.returns-clause-all
returns-clause-all g c = λ q.
    let R = g.K.Key.order in
    let total = subst IsTotalOrder g.met.K.Key.same g.met.K.Ord.total in
    ap (λ ks. is_in R ks q) c.keys.ensures.rest
    ∙ among_found g.met.K.Ord.matches_eq g.met.K.Key.same total c.self.inside.slots q
    ∙ ap (λ es. is_some (get (seen R es) q)) c.self.view_is
