-- What the call did to what the box has.
use Rattle.hidewillow_c.proofs.Names.{rules, ◌≡◌, Option, Some, sym, subst, StoreView, HangsUp, Does}
use Rattle.hidewillow_c.proofs.hidewillow_store_hang_up.Goals as goal

pub returns : goal.returns
returns c =
    let told = c.hang_up-told.result in
    let old = c.in-Some.held.value in
    let new = c.hang_up-told.new.store in
    let was : c.args.store.now.held ≡ Some old = search rules in
    let is : c.put_in.new.handle.held ≡ Some new = search rules in
    let same : c.deref_mut.result.now ≡ old = search rules in
    let does : HangsUp c.args.channel told old new = subst (λ (a : StoreView). HangsUp c.args.channel told a new) same c.hang_up-told.ensures in
    subst (λ (s : Option StoreView). Does (HangsUp c.args.channel) (Unit {0}) told s c.put_in.new.handle.held) (sym was)
    (subst (λ (s : Option StoreView). Does (HangsUp c.args.channel) (Unit {0}) told (Some old) s) (sym is) does)
