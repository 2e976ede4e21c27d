use Rattle.sk_slots.specs.Counted.{HasPresent}
use Rattle.sk_slots.proofs.Counts.{slot_recounted, slot_counts, present_within}
use Rattle.sk_slots.proofs.Names.{true, false, [], ◌∷◌, cond, refl, sym, ◌∙◌, ap, subst, option_copied_mut, eq_by_cmp, IsTotalOrder, rules}
use Rattle.sk_slots.proofs.Names.{IsAntisymmetric, unwound, cut, SlotView, look_at, log_at, SettledBut}
use Rattle.sk_map.specs.Seen.{seen}
use Rattle.sk_slots.proofs.Maps.{one_changed, none_changed, settled_kept, settled_set}
use Rattle.sk_slots.proofs.slots.Slots.unwind_at.Goals as goal

pub returns : goal.returns
returns g c =
    let R = g.K.Key.order in
    let total = subst IsTotalOrder g.met.K.Key.same g.met.K.Ord.total in
    let exact = subst IsAntisymmetric g.met.K.Key.same g.met.K.Key.exact in
    let k = c.args.key.now in
    let m = seen R c.self.inside.slots in
    let all = rw c.in-Some.is at (c.get_mut.follows.holds c.unwind-is_settled.new.self) in
    let here = sym c.in-Some.ensures.value in
    record {
      look = λ q. one_changed total exact (λ (s : SlotView _). s.value) (λ (s : SlotView _). unwound c.args.id s.log s.value) m _ k _ c.unwind-is_settled.new.self here all c.unwind-is_settled.ensures.value q ∙ ap (λ es. cond (eq_by_cmp R q k) (unwound c.args.id (log_at R es q) (look_at R es q)) (look_at R es q)) c.self.view_is;
      log = λ q. one_changed total exact (λ (s : SlotView _). s.log) (λ (s : SlotView _). cut c.args.id s.log) m _ k _ c.unwind-is_settled.new.self here all c.unwind-is_settled.ensures.log q ∙ ap (λ es. cond (eq_by_cmp R q k) (cut c.args.id (log_at R es q)) (log_at R es q)) c.self.view_is;
      settled = λ keys among settled. settled_kept total exact keys m _ k c.unwind-is_settled.new.self all among (subst (SettledBut R keys) (sym c.self.view_is) settled);
      done = λ is keys settled.
          settled_set total exact keys m _ k c.unwind-is_settled.new.self all (sym c.unwind-is_settled.ensures.settled ∙ is)
          (subst (SettledBut R (k ∷ keys)) (sym c.self.view_is) settled);
    }

pub returns-in_default : goal.returns-in_default
returns-in_default g c =
    let R = g.K.Key.order in
    let total = subst IsTotalOrder g.met.K.Key.same g.met.K.Ord.total in
    let exact = subst IsAntisymmetric g.met.K.Key.same g.met.K.Key.exact in
    let k = c.args.key.now in
    let m = seen R c.self.inside.slots in
    record {
      look = λ q. none_changed total exact (λ (s : SlotView _). s.value) (λ (s : SlotView _). unwound c.args.id s.log s.value) m _ k (sym c.get_mut.ensures.value ∙ ap option_copied_mut c.in_default.is) (ap (seen R) c.get_mut.follows.holds-at-none) refl q ∙ ap (λ es. cond (eq_by_cmp R q k) (unwound c.args.id (log_at R es q) (look_at R es q)) (look_at R es q)) c.self.view_is;
      log = λ q. none_changed total exact (λ (s : SlotView _). s.log) (λ (s : SlotView _). cut c.args.id s.log) m _ k (sym c.get_mut.ensures.value ∙ ap option_copied_mut c.in_default.is) (ap (seen R) c.get_mut.follows.holds-at-none) refl q ∙ ap (λ es. cond (eq_by_cmp R q k) (cut c.args.id (log_at R es q)) (log_at R es q)) c.self.view_is;
      settled = search rules;
      done = search rules;
    }

pub recounted-self-inside-requires-clause-come : goal.recounted-self-inside-requires-clause-come
recounted-self-inside-requires-clause-come g c = λ had has.
    let R = g.K.Key.order in
    let total = subst IsTotalOrder g.met.K.Key.same g.met.K.Ord.total in
    let exact = subst IsAntisymmetric g.met.K.Key.same g.met.K.Key.exact in
    let all = rw c.in-Some.is at (c.get_mut.follows.holds c.unwind-is_settled.new.self) in
    present_within g.met.K.Ord.matches_eq g.met.K.Key.same total _ c.self.inside.present
    (slot_recounted total exact c.self.inside.slots _ c.args.key.now _ c.unwind-is_settled.new.self c.self.inside.present (sym c.in-Some.ensures.value) all
    false true (sym had ∙ c.is_present-had.ensures) (sym has ∙ c.is_present-has.ensures) c.self.invariant)

pub recounted-self-inside-requires-clause-gone : goal.recounted-self-inside-requires-clause-gone
recounted-self-inside-requires-clause-gone g c = λ had has.
    let total = subst IsTotalOrder g.met.K.Key.same g.met.K.Ord.total in
    let exact = subst IsAntisymmetric g.met.K.Key.same g.met.K.Key.exact in
    slot_counts total exact c.self.inside.slots c.args.key.now _ c.self.inside.present (sym c.in-Some.ensures.value) (sym c.is_present-had.ensures ∙ had) c.self.invariant

pub invariant_of-self-2 : goal.invariant_of-self-2
invariant_of-self-2 g c =
    let R = g.K.Key.order in
    let total = subst IsTotalOrder g.met.K.Key.same g.met.K.Ord.total in
    let exact = subst IsAntisymmetric g.met.K.Key.same g.met.K.Key.exact in
    let all = rw c.in-Some.is at (c.get_mut.follows.holds c.unwind-is_settled.new.self) in
    subst (HasPresent R _) (sym c.recounted-self-inside.ensures)
    (slot_recounted total exact c.self.inside.slots _ c.args.key.now _ c.unwind-is_settled.new.self c.self.inside.present (sym c.in-Some.ensures.value) all
    c.is_present-had.result c.is_present-has.result c.is_present-had.ensures c.is_present-has.ensures c.self.invariant)
