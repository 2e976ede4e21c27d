-- A store is opened, of what the handle of a log held.
use Rattle.hidewillow_c.proofs.Names.{rules, ◌≡◌, Option, Some, None, sym, subst, StoreView, Reading, OpensStore}
use Rattle.hidewillow_c.proofs.Names.{StoreOpens, opened}
use Rattle.hidewillow_c.proofs.hidewillow_store_open.Goals as goal

pub returns-in-Ok : goal.returns-in-Ok
returns-in-Ok c =
    let given = c.args.limits.now in
    let read = c.in-Some-take_out.read.value in
    let held = c.in-Ok.held.value in
    let told = c.opened-in-Ok.result in
    let room = c.args.room.now in
    let filled = c.opened.new.room in
    let old = c.args.place.now in
    let new = c.opened.new.place in
    let after = c.put_in-in-Ok.new.handle.held in
    let left = c.take_out-2.new.handle.held in
    let was : c.args.store.now.held ≡ None = search rules in
    let had : c.args.recovery.now.held ≡ Some read = search rules in
    let is : after ≡ Some held = search rules in
    let gone : left ≡ None = search rules in
    let said : told ≡ opened = search rules in
    let same : c.deref.result.now ≡ read = search rules in
    let does : OpensStore given c.deref.result.now held room filled new = search rules in
    let here = subst (λ (r : Reading). OpensStore given r held room filled new) same does in
    let all : StoreOpens given told None (Some held) (Some read) left room filled old new = (said, gone, here) in
    subst (λ (s : Option StoreView). StoreOpens given told s after c.args.recovery.now.held left room filled old new) (sym was)
    (subst (λ (s : Option StoreView). StoreOpens given told None s c.args.recovery.now.held left room filled old new) (sym is)
    (subst (λ (r : Option Reading). StoreOpens given told None (Some held) r left room filled old new) (sym had) all))
