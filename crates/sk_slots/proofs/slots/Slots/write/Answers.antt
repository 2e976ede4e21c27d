use Rattle.sk_slots.specs.Counted.{HasPresent}
use Rattle.sk_slots.proofs.Names.{true, false, ◌∷◌, cond, sym, ◌∙◌, ap, subst, eq_by_cmp, IsTotalOrder, IsAntisymmetric, SlotView}
use Rattle.sk_slots.proofs.Names.{noted_on, look_at, log_at, IsReady, SettledBut}
use Rattle.sk_map.specs.Seen.{seen}
use Rattle.sk_slots.proofs.Maps.{one_changed, still_ready, settled_kept, settled_set}
use Rattle.sk_slots.proofs.Counts.{slot_recounted, slot_counts, present_within}
use Rattle.sk_slots.proofs.slots.Slots.write.Goals as goal

pub returns : goal.returns
returns g c =
    let R = g.K.Key.order in
    let total = subst IsTotalOrder g.met.K.Key.same g.met.K.Ord.total in
    let exact = subst IsAntisymmetric g.met.K.Key.same g.met.K.Key.exact in
    let k = c.args.key.now in
    let m = seen R c.self.inside.slots in
    let all = rw c.in-Some.is at (c.get_mut_near.follows.holds c.write-is_settled.new.self) in
    let here = sym c.in-Some.ensures.value in
    record {
      look = λ q. one_changed total exact (λ (s : SlotView _). s.value) (λ (s : SlotView _). g.I.Inversion.written c.args.write s.value) m _ k _ c.write-is_settled.new.self here all c.write-is_settled.ensures.value q ∙ ap (λ es. cond (eq_by_cmp R q k) (g.I.Inversion.written c.args.write (look_at R es q)) (look_at R es q)) c.self.view_is;
      log = λ q. one_changed total exact (λ (s : SlotView _). s.log) (λ (s : SlotView _). noted_on c.args.tags.now s.value s.log) m _ k _ c.write-is_settled.new.self here all c.write-is_settled.ensures.log q ∙ ap (λ es. cond (eq_by_cmp R q k) (noted_on c.args.tags.now (look_at R es q) (log_at R es q)) (log_at R es q)) c.self.view_is;
      ready = λ q ready. still_ready total exact c.args.tags.now m _ k c.write-is_settled.new.self all (λ _. c.write-is_settled.ensures.again) q (subst (λ es. IsReady R c.args.tags.now es q) (sym c.self.view_is) ready);
      settled = λ keys among settled. settled_kept total exact keys m _ k c.write-is_settled.new.self all among (subst (SettledBut R keys) (sym c.self.view_is) settled);
      done = λ is keys settled.
          settled_set total exact keys m _ k c.write-is_settled.new.self all (sym c.write-is_settled.ensures.settled ∙ is)
          (subst (SettledBut R (k ∷ keys)) (sym c.self.view_is) settled);
    }

pub recounted-self-inside-requires-clause-come : goal.recounted-self-inside-requires-clause-come
recounted-self-inside-requires-clause-come g c = λ had has.
    let R = g.K.Key.order in
    let total = subst IsTotalOrder g.met.K.Key.same g.met.K.Ord.total in
    let exact = subst IsAntisymmetric g.met.K.Key.same g.met.K.Key.exact in
    let all = rw c.in-Some.is at (c.get_mut_near.follows.holds c.write-is_settled.new.self) in
    present_within g.met.K.Ord.matches_eq g.met.K.Key.same total _ c.self.inside.present
    (slot_recounted total exact c.self.inside.slots _ c.args.key.now _ c.write-is_settled.new.self c.self.inside.present (sym c.in-Some.ensures.value) all
    false true (sym had ∙ c.is_present-had.ensures) (sym has ∙ c.is_present-has.ensures) c.self.invariant)

pub recounted-self-inside-requires-clause-gone : goal.recounted-self-inside-requires-clause-gone
recounted-self-inside-requires-clause-gone g c = λ had has.
    let total = subst IsTotalOrder g.met.K.Key.same g.met.K.Ord.total in
    let exact = subst IsAntisymmetric g.met.K.Key.same g.met.K.Key.exact in
    slot_counts total exact c.self.inside.slots c.args.key.now _ c.self.inside.present (sym c.in-Some.ensures.value) (sym c.is_present-had.ensures ∙ had) c.self.invariant

pub invariant_of-self : goal.invariant_of-self
invariant_of-self g c =
    let R = g.K.Key.order in
    let total = subst IsTotalOrder g.met.K.Key.same g.met.K.Ord.total in
    let exact = subst IsAntisymmetric g.met.K.Key.same g.met.K.Key.exact in
    let all = rw c.in-Some.is at (c.get_mut_near.follows.holds c.write-is_settled.new.self) in
    subst (HasPresent R _) (sym c.recounted-self-inside.ensures)
    (slot_recounted total exact c.self.inside.slots _ c.args.key.now _ c.write-is_settled.new.self c.self.inside.present (sym c.in-Some.ensures.value) all
    c.is_present-had.result c.is_present-has.result c.is_present-had.ensures c.is_present-has.ensures c.self.invariant)
