-- The names among what is listed are those among the entities of the state, which rise.
use Rattle.sk_talk.proofs.Names.{◌≡◌, ℕ, List, ap, sym, subst, ◌∙◌, Appends, Entity, entity_cmp, state_at}
use Rattle.std.specs.FinMap as map
use Rattle.std.specs.List.{All}
use Rattle.std.specs.List.Sorted.{IsStrictlySortedBy}
use Rattle.sk_kernel.specs.Kernel.{tags_at}
use Rattle.sk_store.specs.Present.{IsPresent, entities_of}
use Rattle.sk_report.specs.Directories.{gathered_at}
use Rattle.sk_report.proofs.Listed.{names_listed}
use Rattle.sk_report.proofs.Rising.{keys_rise}
use Rattle.sk_talk.proofs.asked.write_directory.Goals as goal

pub write_names-requires : goal.write_names-requires
write_names-requires g c =
    let keys : entities_of c.deref.result.now ≡ map.keys (state_at c.args.kernel.now) =
    ap entities_of c.deref.ensures.value ∙ c.in_ok-all.ensures.present in
    subst (λ (es : List Entity). IsStrictlySortedBy entity_cmp es) (sym keys) (keys_rise (state_at c.args.kernel.now))

pub returns : goal.returns
returns g c =
    let look = map.get (state_at c.args.kernel.now) in
    let tags = tags_at c.args.kernel.now in
    let e = c.args.entity.now in
    let each : All (IsPresent look tags) c.deref.result.now =
    subst (All (IsPresent look tags)) (sym c.deref.ensures.value) c.in_ok-all.ensures.each in
    let keys : entities_of c.deref.result.now ≡ map.keys (state_at c.args.kernel.now) =
    ap entities_of c.deref.ensures.value ∙ c.in_ok-all.ensures.present in
    subst (λ (l : List ℕ). Appends (g.W.Write.contents c.args.out.now) (g.W.Write.contents c.write_names.new.out) l)
    (names_listed look tags c.deref.result.now each e ∙ ap (λ (es : List Entity). gathered_at look es e) keys) c.in_ok-write_names.ensures
