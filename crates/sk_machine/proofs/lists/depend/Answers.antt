-- It is in them already, or is added to those that it does not depend on, of which none is open where it depends on all that are.
use Rattle.sk_machine.proofs.Names.{◌≡◌, ℕ, Bool, true, false, not, cond, filter, ◌&&◌, ◌||◌, List, [], ◌∷◌, refl, sym}
use Rattle.sk_machine.proofs.Names.{◌∙◌, ap, false≢true, or_left, or_right, entity_cmp, Entity, has, and_both}
use Rattle.sk_machine.proofs.Names.{OpenGuess, depending, numbers, opens_of, eq-eqb}
use Rattle.sk_guesses.specs.EntitySet.{with_entity}
use Rattle.sk_record.proofs.Machine.{has_filter}
use Rattle.std.specs.Prelude.{map}
use Rattle.sk_machine.proofs.Given.{then_ok}
use Rattle.sk_machine.proofs.lists.depend.Goals as goal
use Rattle.std.proofs.Common.{arith}

to_none : (e : Entity) (os : List (OpenGuess Entity)) → os ≡ map (depending entity_cmp [] e) os
to_none e [] = refl
to_none e (o ∷ os) = ap (λ ys. o ∷ ys) (to_none e os)

split : (own there more : Bool) → more ≡ (there && not own) → there ≡ true → (own || more) ≡ true
split own there more is here = grind arith

rest_of : (own there : Bool) → there ≡ true → (own || (not own && there)) ≡ true
rest_of own there here = grind arith

-- an entity that is added to the lists of guesses that are not open is added to none
unlisted : (more : List ℕ) (e : Entity) (os : List (OpenGuess Entity)) → ((g : ℕ) → has g (numbers (opens_of os)) ≡ true → has g more ≡ false) → os ≡ map (depending entity_cmp more e) os
unlisted more e [] apart = refl
unlisted more e (o ∷ os) apart =
    ap (λ ys. o ∷ ys) (unlisted more e os (λ g here. apart g (or_right _ _ here)))
    ∙ sym (ap (λ b. cond b (record { id = o.id; tags = o.tags; dependents = with_entity entity_cmp o.dependents e }) o ∷ map (depending entity_cmp more e) os) (apart o.id (or_left _ _ (eq-eqb o.id o.id refl))))

pub returns-then-are_all-clause-ok : goal.returns-then-are_all-clause-ok
returns-then-are_all-clause-ok c =
    let own = c.args.own.now in
    let tags = c.args.tags.now in
    let os = c.args.guesses.now.opens in
    let beyond = λ (g : ℕ). not (has g own) in
    let all : own ≡ numbers (opens_of os) = c.are_all.ensures c.if-are_all.true in
    record {
      added = filter beyond tags;
      all = λ g there. ap (λ b. has g own || b) (has_filter beyond g tags) ∙ rest_of (has g own) (has g tags) there;
      none = λ g here. (and_both (not (has g own)) (has g tags) (sym (has_filter beyond g tags) ∙ here)).1;
      opens = unlisted (filter beyond tags) c.args.entity.now os (λ g here. has_filter beyond g tags ∙ ap (λ b. not b && has g tags) (ap (has g) all ∙ here));
    }

pub returns-then-covers-clause-ok : goal.returns-then-covers-clause-ok
returns-then-covers-clause-ok c = record {
  added = [];
  all = λ g there. or_left (has g c.args.own.now) false (c.covers.ensures.0 c.if-covers.true g there);
  none = λ g here. absurd (false≢true here);
  opens = to_none c.args.entity.now c.args.guesses.now.opens;
}

pub returns-then-is_none-clause-ok : goal.returns-then-is_none-clause-ok
returns-then-is_none-clause-ok c = then_ok c.depend.result c.depend.ensures.ok (λ is. record {
  added = c.args.tags.now;
  all = λ g there. or_right (has g c.args.own.now) (has g c.args.tags.now) there;
  none = λ g here. here;
  opens = is;
})

pub returns-clause-ok : goal.returns-clause-ok
returns-clause-ok c = then_ok c.depend-2.result c.depend-2.ensures.ok (λ is. record {
  added = c.in_ok-added.added;
  all = λ g there. split (has g c.args.own.now) (has g c.args.tags.now) (has g c.in_ok-added.added) (c.in_ok-added.ensures.members g) there;
  none = λ g here. (and_both (has g c.args.tags.now) (not (has g c.args.own.now)) (sym (c.in_ok-added.ensures.members g) ∙ here)).0;
  opens = is;
})
