-- What is listed are the entities of the state, which rise, each with what it has.
use Rattle.sk_report.proofs.Names.{List, ap, sym, subst, ◌∙◌, Entity, entity_cmp, entities_of, IsStrictlySortedBy}
use Rattle.sk_report.proofs.Rising.{keys_rise}
use Rattle.sk_kernel.specs.Kernel.{state_at}
use Rattle.sk_report.proofs.report.write_kernel.Goals as goal

pub write_body-requires-clause-sorted : goal.write_body-requires-clause-sorted
write_body-requires-clause-sorted g c =
    subst (λ (es : List Entity). IsStrictlySortedBy entity_cmp es) (sym (ap entities_of c.deref.ensures.value ∙ c.in_ok-all.ensures.present)) (keys_rise (state_at c.args.kernel.now))
