-- The key of the entry that stands there is this one.
use Rattle.sk_slots.proofs.Names.{ap, sym, subst, ◌∙◌, Some, IsTotalOrder, get}
use Rattle.std.proofs.lemmas.Option.{slice_get-map}
use Rattle.std.specs.Map.{keys_of, values_of, lookup}
use Rattle.std.specs.Option.{option_map}
use Rattle.std.specs.Prelude.{slice_get}
use Rattle.sk_map.specs.Seen.{seen}
use Rattle.sk_slots.proofs.Tables.{found_by, same_key}
use Rattle.sk_slots.proofs.table.Table.is_at.Goals as goal

pub returns-in-Some-clause-key : goal.returns-in-Some-clause-key
returns-in-Some-clause-key g c is =
    let es = c.self.inside.entries.entries in
    ap (λ fs. slice_get (keys_of fs) c.args.place) (sym c.self.view_is)
    ∙ slice_get-map (λ e. e.0) es c.args.place
    ∙ ap (option_map (λ e. e.0)) (sym c.in-Some.ensures.entry)
    ∙ ap Some (same_key g.met.K.Ord.matches_eq g.met.K.Key.exact c.in-Some.own.now c.args.key.now (sym c.eq.ensures ∙ is))

pub returns-in-Some-clause-value : goal.returns-in-Some-clause-value
returns-in-Some-clause-value g c is =
    let total = subst IsTotalOrder g.met.K.Key.same g.met.K.Ord.total in
    let es = c.self.inside.entries.entries in
    let k = c.args.key.now in
    let own = same_key g.met.K.Ord.matches_eq g.met.K.Key.exact c.in-Some.own.now k (sym c.eq.ensures ∙ is) in
    ap (λ fs. slice_get (values_of fs) c.args.place) (sym c.self.view_is)
    ∙ slice_get-map (λ e. e.1) es c.args.place
    ∙ ap (option_map (λ e. e.1)) (sym c.in-Some.ensures.entry)
    ∙ sym c.in-Some.ensures.value
    ∙ ap (λ q. lookup (g.K.PartialEq.eq q) es) own
    ∙ sym (found_by g.met.K.Ord.matches_eq g.met.K.Key.same total es k)
    ∙ ap (λ fs. get (seen g.K.Key.order fs) k) c.self.view_is
