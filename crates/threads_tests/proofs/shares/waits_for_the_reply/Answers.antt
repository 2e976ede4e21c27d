-- The only worker comes back in its place.
use Rattle.threads_tests.proofs.Names.{◌≡◌, ◌+◌, List, [], ◌∷◌, ◌++◌, length, sym, ap, ◌∙◌, arith, Option}
use Rattle.threads_tests.proofs.Names.{option_to_list, length-append, slice_get_within, WorkerView, AreDistinct}
use Rattle.threads_tests.proofs.shares.waits_for_the_reply.Goals as goal

alone : (ws : List WorkerView) → length ws ≡ 1 → AreDistinct ws
alone ws one i j v w at other apart same =
    let first = slice_get_within ws i v at in
    let second = slice_get_within ws j w other in
    apart (omega (arith, one, first, second))

in_its_place : (xs ys zs : List WorkerView) (x y : WorkerView) → xs ≡ ys ++ x ∷ [] → zs ≡ ys ++ y ∷ [] → length zs ≡ length xs
in_its_place xs ys zs x y before behind =
    ap length behind ∙ length-append ys (y ∷ []) ∙ sym (length-append ys (x ∷ [])) ∙ sym (ap length before)

pub stays_open-shared-requires-clause-distinct : goal.stays_open-shared-requires-clause-distinct
stays_open-shared-requires-clause-distinct g c =
    let first = c.pop.ensures.items ∙ ap (λ (o : Option WorkerView). c.pop.new.self.items ++ option_to_list o) c.in-Some.is in
    let back = in_its_place c.shared_by-shared.result.1.items c.pop.new.self.items c.push_reserved.new.self.items _ _ first c.push_reserved.ensures.items in
    alone c.push_reserved.new.self.items (back ∙ c.shared_by-shared.ensures.0)

pub closes-requires-clause-distinct : goal.closes-requires-clause-distinct
closes-requires-clause-distinct g c =
    let first = c.pop.ensures.items ∙ ap (λ (o : Option WorkerView). c.pop.new.self.items ++ option_to_list o) c.in-Some.is in
    let back = in_its_place c.shared_by-shared.result.1.items c.pop.new.self.items c.push_reserved.new.self.items _ _ first c.push_reserved.ensures.items in
    let kept : c.stays_open-shared.result.1.items ≡ c.push_reserved.new.self.items = ap (λ v. v.items) c.stays_open-shared.ensures in
    let second = c.pop-2.ensures.items ∙ ap (λ (o : Option WorkerView). c.pop-2.new.self.items ++ option_to_list o) c.in-Some-pop.is in
    let last = in_its_place c.stays_open-shared.result.1.items c.pop-2.new.self.items c.push_reserved-2.new.self.items _ _ second c.push_reserved-2.ensures.items in
    alone c.push_reserved-2.new.self.items (last ∙ ap length kept ∙ back ∙ c.shared_by-shared.ensures.0)
