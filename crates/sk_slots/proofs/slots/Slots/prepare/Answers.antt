use Rattle.sk_slots.proofs.Names.{◌≡◌, None, sym, ◌∙◌, ap, subst, option_copied_mut, IsTotalOrder, IsAntisymmetric, get}
use Rattle.sk_slots.proofs.Names.{rules, insert, SlotView, slot_in, goes_unnoted, IfOk, look_at, log_at, IsReady, HasPrepared, SettledBut}
use Rattle.sk_map.specs.Seen.{seen}
use Rattle.sk_slots.proofs.Maps.{one_same, one_born, still_ready, ready_at, when_ok, settled_kept}
use Rattle.sk_slots.proofs.Counts.{as_before}
use Rattle.sk_slots.proofs.slots.Slots.prepare.Goals as goal

pub returns-in-Some : goal.returns-in-Some
returns-in-Some g c =
    let R = g.K.Key.order in
    let total = subst IsTotalOrder g.met.K.Key.same g.met.K.Ord.total in
    let exact = subst IsAntisymmetric g.met.K.Key.same g.met.K.Key.exact in
    let k = c.args.key.now in
    let m = seen R c.self.inside.slots in
    let all = rw c.in-Some.is at (c.get_mut_near.follows.holds c.prepare.new.self) in
    let here = sym c.in-Some.ensures.value in
    record {
      look = λ q. one_same total exact (λ (s : SlotView _). s.value) m _ k _ c.prepare.new.self here all c.prepare.ensures.value q ∙ ap (λ es. look_at R es q) c.self.view_is;
      log = λ q. one_same total exact (λ (s : SlotView _). s.log) m _ k _ c.prepare.new.self here all c.prepare.ensures.log q ∙ ap (λ es. log_at R es q) c.self.view_is;
      ok = when_ok c.prepare.result c.prepare.ensures.ok (λ is. ready_at total exact c.args.tags.now m _ k c.prepare.new.self all is);
      kept = λ q ready. still_ready total exact c.args.tags.now m _ k c.prepare.new.self all (λ h. c.prepare.ensures.kept (subst (HasPrepared c.args.tags.now) here h)) q (subst (λ es. IsReady R c.args.tags.now es q) (sym c.self.view_is) ready);
      settled = λ keys among settled. settled_kept total exact keys m _ k c.prepare.new.self all among (subst (SettledBut R keys) (sym c.self.view_is) settled);
      room = search rules;
      same = subst (λ ns. IfOk c.prepare.result (λ same. same ≡ goes_unnoted c.args.tags.now ns))
          (sym (ap (λ o. (slot_in o).log) here) ∙ ap (λ es. log_at R es k) c.self.view_is) c.prepare.ensures.same;
    }

pub returns-in_err-put : goal.returns-in_err-put
returns-in_err-put g c =
    let R = g.K.Key.order in
    let same = c.in_err-put.ensures.err ∙ c.get_mut_near.follows.holds-at-none in
    record {
      look = λ q. ap (λ es. look_at R es q) (same ∙ c.self.view_is);
      log = λ q. ap (λ es. log_at R es q) (same ∙ c.self.view_is);
      kept = λ q ready. subst (λ es. IsReady R c.args.tags.now es q) (sym (same ∙ c.self.view_is)) ready;
      settled = λ keys _ settled. subst (SettledBut R keys) (sym (same ∙ c.self.view_is)) settled;
      ok = search rules;
      room = search rules;
      same = search rules;
    }

pub returns : goal.returns
returns g c =
    let R = g.K.Key.order in
    let total = subst IsTotalOrder g.met.K.Key.same g.met.K.Ord.total in
    let exact = subst IsAntisymmetric g.met.K.Key.same g.met.K.Key.exact in
    let k = c.args.key.now in
    let m = seen R c.self.inside.slots in
    let w = c.prepare-2.new.self in
    let none : get m k ≡ None = sym c.get_mut_near.ensures.value ∙ ap option_copied_mut c.in_default.is in
    let all = c.in_ok-put.ensures.ok ∙ ap (λ es. insert (seen R es) k w) c.get_mut_near.follows.holds-at-none in
    record {
      look = λ q. one_born total exact (λ (s : SlotView _). s.value) m _ k w none all (c.in_ok-same.ensures.value ∙ ap (λ (s : SlotView _). s.value) c.new-slot.ensures) q ∙ ap (λ es. look_at R es q) c.self.view_is;
      log = λ q. one_born total exact (λ (s : SlotView _). s.log) m _ k w none all (c.in_ok-same.ensures.log ∙ ap (λ (s : SlotView _). s.log) c.new-slot.ensures) q ∙ ap (λ es. log_at R es q) c.self.view_is;
      ok = ready_at total exact c.args.tags.now m _ k w all c.in_ok-same.ensures.ok;
      kept = λ q ready. still_ready total exact c.args.tags.now m _ k w all (λ h. absurd (subst (HasPrepared c.args.tags.now) none h)) q (subst (λ es. IsReady R c.args.tags.now es q) (sym c.self.view_is) ready);
      settled = λ keys among settled. settled_kept total exact keys m _ k w all among (subst (SettledBut R keys) (sym c.self.view_is) settled);
      room = search rules;
      same = c.in_ok-same.ensures.same ∙ ap (λ (s : SlotView _). goes_unnoted c.args.tags.now s.log) c.new-slot.ensures
          ∙ ap (λ o. goes_unnoted c.args.tags.now (slot_in o).log) (sym none) ∙ ap (λ es. goes_unnoted c.args.tags.now (log_at R es k)) c.self.view_is;
    }

pub invariant_of-self : goal.invariant_of-self
invariant_of-self g c =
    let R = g.K.Key.order in
    let total = subst IsTotalOrder g.met.K.Key.same g.met.K.Ord.total in
    let exact = subst IsAntisymmetric g.met.K.Key.same g.met.K.Key.exact in
    let k = c.args.key.now in
    let m = seen R c.self.inside.slots in
    let all = rw c.in-Some.is at (c.get_mut_near.follows.holds c.prepare.new.self) in
    as_before total exact c.self.inside.slots _ c.self.inside.present
    (λ q. one_same total exact (λ (s : SlotView _). s.value) m _ k _ c.prepare.new.self (sym c.in-Some.ensures.value) all c.prepare.ensures.value q) c.self.invariant

pub invariant_of-self-in_err-put : goal.invariant_of-self-in_err-put
invariant_of-self-in_err-put g c =
    let total = subst IsTotalOrder g.met.K.Key.same g.met.K.Ord.total in
    let exact = subst IsAntisymmetric g.met.K.Key.same g.met.K.Key.exact in
    as_before total exact c.self.inside.slots _ c.self.inside.present
    (λ q. ap (λ es. look_at g.K.Key.order es q) (c.in_err-put.ensures.err ∙ c.get_mut_near.follows.holds-at-none)) c.self.invariant

pub invariant_of-self-2 : goal.invariant_of-self-2
invariant_of-self-2 g c =
    let R = g.K.Key.order in
    let total = subst IsTotalOrder g.met.K.Key.same g.met.K.Ord.total in
    let exact = subst IsAntisymmetric g.met.K.Key.same g.met.K.Key.exact in
    let k = c.args.key.now in
    let m = seen R c.self.inside.slots in
    let w = c.prepare-2.new.self in
    let none : get m k ≡ None = sym c.get_mut_near.ensures.value ∙ ap option_copied_mut c.in_default.is in
    let all = c.in_ok-put.ensures.ok ∙ ap (λ es. insert (seen R es) k w) c.get_mut_near.follows.holds-at-none in
    as_before total exact c.self.inside.slots _ c.self.inside.present
    (λ q. one_born total exact (λ (s : SlotView _). s.value) m _ k w none all (c.in_ok-same.ensures.value ∙ ap (λ (s : SlotView _). s.value) c.new-slot.ensures) q) c.self.invariant
