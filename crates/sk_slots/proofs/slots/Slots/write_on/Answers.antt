use Rattle.sk_slots.specs.Counted.{HasPresent}
use Rattle.sk_slots.proofs.Names.{true, false, ◌∷◌, cond, sym, ◌∙◌, ap, subst, eq_by_cmp, IsTotalOrder, IsAntisymmetric, SlotView}
use Rattle.sk_slots.proofs.Names.{◌≡◌, is_some, found, look_at, log_at, SettledBut}
use Rattle.sk_map.specs.Seen.{seen}
use Rattle.sk_slots.proofs.Maps.{one_changed, one_same, still_found, settled_kept, settled_set}
use Rattle.sk_slots.proofs.Counts.{slot_recounted, slot_counts, present_within}
use Rattle.sk_slots.proofs.slots.Slots.write_on.Goals as goal

pub returns : goal.returns
returns g c =
    let R = g.K.Key.order in
    let total = subst IsTotalOrder g.met.K.Key.same g.met.K.Ord.total in
    let exact = subst IsAntisymmetric g.met.K.Key.same g.met.K.Key.exact in
    let k = c.args.key.now in
    let m = seen R c.self.inside.slots in
    let all = rw c.in-Some.is at (c.get_mut_near.follows.holds c.write_on-is_settled.new.self) in
    let here = sym c.in-Some.ensures.value in
    record {
      look = λ q. one_changed total exact (λ (s : SlotView _). s.value) (λ (s : SlotView _). g.I.Inversion.written c.args.write s.value) m _ k _ c.write_on-is_settled.new.self here all c.write_on-is_settled.ensures.value q ∙ ap (λ es. cond (eq_by_cmp R q k) (g.I.Inversion.written c.args.write (look_at R es q)) (look_at R es q)) c.self.view_is;
      log = λ q. one_same total exact (λ (s : SlotView _). s.log) m _ k _ c.write_on-is_settled.new.self here all c.write_on-is_settled.ensures.log q ∙ ap (λ es. log_at R es q) c.self.view_is;
      slots = λ q has. still_found total exact m _ k c.write_on-is_settled.new.self all q (subst (λ es. is_some (found R es q) ≡ true) (sym c.self.view_is) has);
      settled = λ keys among settled. settled_kept total exact keys m _ k c.write_on-is_settled.new.self all among (subst (SettledBut R keys) (sym c.self.view_is) settled);
      done = λ is keys settled.
          settled_set total exact keys m _ k c.write_on-is_settled.new.self all (sym c.write_on-is_settled.ensures.settled ∙ is)
          (subst (SettledBut R (k ∷ keys)) (sym c.self.view_is) settled);
    }

pub recounted-self-inside-requires-clause-come : goal.recounted-self-inside-requires-clause-come
recounted-self-inside-requires-clause-come g c = λ had has.
    let R = g.K.Key.order in
    let total = subst IsTotalOrder g.met.K.Key.same g.met.K.Ord.total in
    let exact = subst IsAntisymmetric g.met.K.Key.same g.met.K.Key.exact in
    let all = rw c.in-Some.is at (c.get_mut_near.follows.holds c.write_on-is_settled.new.self) in
    present_within g.met.K.Ord.matches_eq g.met.K.Key.same total _ c.self.inside.present
    (slot_recounted total exact c.self.inside.slots _ c.args.key.now _ c.write_on-is_settled.new.self c.self.inside.present (sym c.in-Some.ensures.value) all
    false true (sym had ∙ c.is_present-had.ensures) (sym has ∙ c.is_present-has.ensures) c.self.invariant)

pub recounted-self-inside-requires-clause-gone : goal.recounted-self-inside-requires-clause-gone
recounted-self-inside-requires-clause-gone g c = λ had has.
    let total = subst IsTotalOrder g.met.K.Key.same g.met.K.Ord.total in
    let exact = subst IsAntisymmetric g.met.K.Key.same g.met.K.Key.exact in
    slot_counts total exact c.self.inside.slots c.args.key.now _ c.self.inside.present (sym c.in-Some.ensures.value) (sym c.is_present-had.ensures ∙ had) c.self.invariant

pub invariant_of-self : goal.invariant_of-self
invariant_of-self g c =
    let R = g.K.Key.order in
    let total = subst IsTotalOrder g.met.K.Key.same g.met.K.Ord.total in
    let exact = subst IsAntisymmetric g.met.K.Key.same g.met.K.Key.exact in
    let all = rw c.in-Some.is at (c.get_mut_near.follows.holds c.write_on-is_settled.new.self) in
    subst (HasPresent R _) (sym c.recounted-self-inside.ensures)
    (slot_recounted total exact c.self.inside.slots _ c.args.key.now _ c.write_on-is_settled.new.self c.self.inside.present (sym c.in-Some.ensures.value) all
    c.is_present-had.result c.is_present-has.result c.is_present-had.ensures c.is_present-has.ensures c.self.invariant)
