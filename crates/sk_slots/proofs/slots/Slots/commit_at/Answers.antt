use Rattle.sk_slots.proofs.Names.{[], ◌∷◌, cond, refl, sym, ◌∙◌, ap, subst, option_copied_mut, eq_by_cmp, IsTotalOrder}
use Rattle.sk_slots.proofs.Names.{rules, IsAntisymmetric, committed, merged, SlotView, look_at, log_at, SettledBut}
use Rattle.sk_map.specs.Seen.{seen}
use Rattle.sk_slots.proofs.Maps.{one_changed, none_changed, one_same, settled_kept, settled_set}
use Rattle.sk_slots.proofs.Counts.{as_before}
use Rattle.sk_slots.proofs.slots.Slots.commit_at.Goals as goal

pub returns : goal.returns
returns g c =
    let R = g.K.Key.order in
    let total = subst IsTotalOrder g.met.K.Key.same g.met.K.Ord.total in
    let exact = subst IsAntisymmetric g.met.K.Key.same g.met.K.Key.exact in
    let k = c.args.key.now in
    let m = seen R c.self.inside.slots in
    let all = rw c.in-Some.is at (c.get_mut.follows.holds c.commit.new.self) in
    let here = sym c.in-Some.ensures.value in
    record {
      look = λ q. one_same total exact (λ (s : SlotView _). s.value) m _ k _ c.commit.new.self here all (c.commit.ensures.value ∙ c.spare.ensures.value) q ∙ ap (λ es. look_at R es q) c.self.view_is;
      log = λ q. one_changed total exact (λ (s : SlotView _). s.log) (λ (s : SlotView _). merged [] (committed c.args.id s.log)) m _ k _ c.commit.new.self here all (c.commit.ensures.log ∙ ap (merged []) c.spare.ensures.log) q ∙ ap (λ es. cond (eq_by_cmp R q k) (merged [] (committed c.args.id (log_at R es q))) (log_at R es q)) c.self.view_is;
      settled = λ keys among settled. settled_kept total exact keys m _ k c.commit.new.self all among (subst (SettledBut R keys) (sym c.self.view_is) settled);
      done = λ is keys settled.
          settled_set total exact keys m _ k c.commit.new.self all (sym c.commit.ensures.settled ∙ is)
          (subst (SettledBut R (k ∷ keys)) (sym c.self.view_is) settled);
    }

pub returns-in_default : goal.returns-in_default
returns-in_default g c =
    let R = g.K.Key.order in
    let total = subst IsTotalOrder g.met.K.Key.same g.met.K.Ord.total in
    let exact = subst IsAntisymmetric g.met.K.Key.same g.met.K.Key.exact in
    let k = c.args.key.now in
    let m = seen R c.self.inside.slots in
    record {
      look = λ q. ap (λ es. look_at R es q) c.get_mut.follows.holds-at-none ∙ ap (λ es. look_at R es q) c.self.view_is;
      log = λ q. none_changed total exact (λ (s : SlotView _). s.log) (λ (s : SlotView _). merged [] (committed c.args.id s.log)) m _ k (sym c.get_mut.ensures.value ∙ ap option_copied_mut c.in_default.is) (ap (seen R) c.get_mut.follows.holds-at-none) refl q ∙ ap (λ es. cond (eq_by_cmp R q k) (merged [] (committed c.args.id (log_at R es q))) (log_at R es q)) c.self.view_is;
      settled = search rules;
      done = search rules;
    }

pub invariant_of-self-2 : goal.invariant_of-self-2
invariant_of-self-2 g c =
    let R = g.K.Key.order in
    let total = subst IsTotalOrder g.met.K.Key.same g.met.K.Ord.total in
    let exact = subst IsAntisymmetric g.met.K.Key.same g.met.K.Key.exact in
    let k = c.args.key.now in
    let m = seen R c.self.inside.slots in
    let all = rw c.in-Some.is at (c.get_mut.follows.holds c.commit.new.self) in
    as_before total exact c.self.inside.slots _ c.self.inside.present
    (λ q. one_same total exact (λ (s : SlotView _). s.value) m _ k _ c.commit.new.self (sym c.in-Some.ensures.value) all (c.commit.ensures.value ∙ c.spare.ensures.value) q) c.self.invariant
