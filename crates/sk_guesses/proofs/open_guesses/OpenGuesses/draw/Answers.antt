-- One undecided guess more.
use Rattle.sk_guesses.proofs.Names.{◌≡◌, ◌+◌, ◌<◌, ◌∷◌, ◌++◌, [], true, length, map, Some, refl, sym, ◌∙◌, ap, subst}
use Rattle.sk_guesses.proofs.Names.{arith, length-map, map-append, vec_capacity, LAST_GUESS, with_drawn, has, SetView}
use Rattle.sk_guesses.proofs.Names.{Kept, KeptView, AreStatuses, opens_of, Listing, AreBelow}
use Rattle.sk_guesses.proofs.Kept.{kept_drawn, statuses_drawn}
use Rattle.sk_guesses.proofs.Opens.{guess_of}
use Rattle.sk_guesses.proofs.Passes.{below_more}
use Rattle.sk_guesses.proofs.open_guesses.OpenGuesses.draw.Goals as goal

pub invariant_of-self : goal.invariant_of-self
invariant_of-self g c =
    let v : KeptView = record { kernel = c.self.inside.kernel; limit = c.self.inside.limit; drawn = c.self.inside.drawn; struck = c.self.inside.struck.items } in
    let ls = c.self.inside.opens.items in
    let l : Listing _ = record { guess = record { id = c.args.id; tags = c.args.tags; dependents = c.set_of_written-dependents.result.entities } } in
    let was : v.drawn ≡ c.args.self.now.view.drawn = ap (λ (r : Kept _). r.view.drawn) c.self.view_is in
    let next : c.args.id ≡ v.drawn + 1 = c.requires.number ∙ ap (λ n. n + 1) (sym was) in
    let number : l.guess.id ≡ v.drawn + 1 = next in
    let own : has l.guess.id l.guess.tags ≡ true = c.requires.own in
    let drawn : c.number-self-inside.result ≡ v.drawn + 1 = c.number-self-inside.ensures.value ∙ next in
    let as_many : length c.args.self.now.opens ≡ length ls = ap (λ (r : Kept _). length r.opens) (sym c.self.view_is) ∙ length-map ls guess_of in
    let few : length ls < v.limit = omega (arith, c.requires.few, as_many, ap (λ (r : Kept _). r.view.limit) c.self.view_is) in
    let last : v.drawn < LAST_GUESS = omega (arith, c.number-self-inside.ensures.limits.1, drawn) in
    let places : length v.struck + length ls < vec_capacity c.self.inside.struck =
    omega (arith, c.requires.room.1, as_many, ap (λ (r : Kept _). length r.view.struck) c.self.view_is, ap (λ (r : Kept _). r.strikes) c.self.view_is) in (
      kept_drawn v ls c.push_reserved.new.self.items c.self.inside.next.entities (vec_capacity c.self.inside.struck) l c.number-self-inside.result _ c.push_reserved.ensures.items number drawn
          (ap (λ (s : SetView _). s.entities) c.replace-next.ensures.after ∙ c.new.ensures) own few last places c.self.invariant.0,
      λ below.
          subst (λ xs. AreBelow (opens_of xs)) (sym (ap (map guess_of) c.push_reserved.ensures.items ∙ rw map-append refl))
          (below_more (map guess_of ls) l.guess (c.self.invariant.1 (c.stays_below-self-inside.ensures.before below))
          (c.stays_below-self-inside.ensures.drawn below)),
    )

pub returns-clause-statuses : goal.returns-clause-statuses
returns-clause-statuses g c = λ status are.
    let v : KeptView = record { kernel = c.self.inside.kernel; limit = c.self.inside.limit; drawn = c.self.inside.drawn; struck = c.self.inside.struck.items } in
    let os = map guess_of c.self.inside.opens.items in
    let l : Listing _ = record { guess = record { id = c.args.id; tags = c.args.tags; dependents = c.set_of_written-dependents.result.entities } } in
    let new = map guess_of c.push_reserved.new.self.items in
    let was : v.drawn ≡ c.args.self.now.view.drawn = ap (λ (r : Kept _). r.view.drawn) c.self.view_is in
    let next : c.args.id ≡ v.drawn + 1 = c.requires.number ∙ ap (λ n. n + 1) (sym was) in
    let id : l.guess.id ≡ c.args.id = refl in
    let drawn : c.number-self-inside.result ≡ v.drawn + 1 = c.number-self-inside.ensures.value ∙ next in
    let is : new ≡ os ++ l.guess ∷ [] = ap (map guess_of) c.push_reserved.ensures.items ∙ rw map-append refl in
    let before = subst (λ (r : Kept _). AreStatuses r.view (opens_of r.opens) status) (sym c.self.view_is) are in
    let after = statuses_drawn v os l.guess (id ∙ next) status before in
    subst (λ n. AreStatuses (record v { drawn = n }) (opens_of new) (with_drawn (Some c.args.id) status)) (sym drawn)
    (subst (λ n. AreStatuses (record v { drawn = v.drawn + 1 }) (opens_of new) (with_drawn (Some n) status)) id
    (subst (λ xs. AreStatuses (record v { drawn = v.drawn + 1 }) (opens_of xs) (with_drawn (Some l.guess.id) status)) (sym is) after))

pub push_reserved-requires-clause-ids : goal.push_reserved-requires-clause-ids
push_reserved-requires-clause-ids g c = c.self.invariant.0.rising
