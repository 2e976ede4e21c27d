use Rattle.threads_tests.proofs.Names.{List, [], ◌∷◌, ◌++◌, refl, sym, ap, ◌∙◌, Option, option_to_list, WorkerView}
use Rattle.threads_tests.proofs.Names.{numbers, distinct}
use Rattle.threads_tests.proofs.Numbers.{numbers_push}
use Rattle.threads_tests.proofs.shares.two_workers.Goals as goal

pub closes-requires-clause-distinct : goal.closes-requires-clause-distinct
closes-requires-clause-distinct g c =
    let j = c.five-zero.ensures in
    let s = c.in-Some-Some in
    let first = c.pop.ensures.items ∙ ap (λ (o : Option WorkerView). c.pop.new.self.items ++ option_to_list o) s.is-0 in
    let second = c.pop-2.ensures.items ∙ ap (λ (o : Option WorkerView). c.pop-2.new.self.items ++ option_to_list o) s.is-1 in
    let back = numbers_push c.pop-2.new.self.items c.pop-2.new.self.items _ s.zero refl j.0 in
    let both = numbers_push _ _ _ s.one (ap numbers c.push_reserved.ensures.items ∙ back) j.1 in
    distinct 2 c.push_reserved-2.new.self.items c.shared_by-shared.result.1.items c.shared_by-shared.ensures
    (ap numbers c.push_reserved-2.ensures.items ∙ both ∙ ap (λ (l : List WorkerView). numbers (l ++ s.one ∷ [])) (sym second) ∙ ap numbers (sym first))
