-- Those before the first that is no batch's are batches'.
use Rattle.sk_batched.proofs.Names.{◌≤◌, length, Some, None, refl, sym, ap, ◌∙◌, arith, list_any}
use Rattle.std.proofs.Common.{ℕ, Bor, List}
use Rattle.std.specs.Option.{option_map}
use Rattle.sk_bytes.specs.Calls.{resting_on}
use Rattle.sk_batched.proofs.Standing.{is_found, is_free, none_on, passed, taken_all}
use Rattle.sk_batched.proofs.rests.first_on.Goals as goal
use Rattle.sk_batched.proofs.rests.first_on.Goals.{in-Some+else-not-is_reserved, in_default}

pub returns-then-not-is_reserved-clause-some : goal.returns-then-not-is_reserved-clause-some
returns-then-not-is_reserved-clause-some g c = (
  sym c.is_reserved.ensures ∙ c.if-not-is_reserved.true,
  is_found c.args.kernel.now c.args.id c.loop-place.place c.in-Some.key.now c.in-Some.ensures,
)

pub loop-place-preserved : goal.loop-place-preserved
loop-place-preserved g c =
    let keys = resting_on c.args.kernel.now c.args.id in
    elim c.match-dependent.branch [
      | in-Some+else-not-is_reserved w ↦
          passed keys c.loop-place.place (Some w.in-Some.key.now) w.in-Some.ensures
          (sym w.is_reserved.ensures ∙ w.if-not-is_reserved.false) c.loop-place.invariant
      | in_default w ↦
          passed keys c.loop-place.place None (sym (ap (option_map (λ (s : Bor (List ℕ)). s.now)) w.in_default.is) ∙ c.dependent.ensures) refl c.loop-place.invariant
    ]

pub returns-clause-none : goal.returns-clause-none
returns-clause-none g c = λ is.
    let keys = resting_on c.args.kernel.now c.args.id in
    let count = c.dependents-place-end.ensures in
    let all : length keys ≤ c.loop-place.place = omega (arith, count, c.loop-place-test.false) in
    none_on c.args.kernel.now c.args.id c.places-places.ensures.keys
    (sym (ap (list_any is_free) (taken_all keys c.loop-place.place all)) ∙ c.loop-place.invariant)
