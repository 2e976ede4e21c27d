-- The slot keeps what it has, or there was nothing in it.
use Rattle.sk_slots.proofs.Names.{not-true, not-false, true, false, ◌≡◌, ◌∷◌, None, sym, ◌∙◌, ap, subst}
use Rattle.sk_slots.proofs.Names.{option_copied_mut, IsTotalOrder, IsAntisymmetric, get, remove, SlotView, is_bare}
use Rattle.sk_slots.proofs.Names.{is_settled, look_at, log_at, SettledBut}
use Rattle.sk_map.specs.Seen.{seen}
use Rattle.sk_slots.proofs.Maps.{one_same, same_gone, bare_value, bare_log, settled_set, settled_gone, settled_none, settled_of}
use Rattle.sk_slots.proofs.Counts.{as_before}
use Rattle.sk_slots.proofs.slots.Slots.settle.Goals as goal

pub returns-then-settle : goal.returns-then-settle
returns-then-settle g c =
    let R = g.K.Key.order in
    let total = subst IsTotalOrder g.met.K.Key.same g.met.K.Ord.total in
    let exact = subst IsAntisymmetric g.met.K.Key.same g.met.K.Key.exact in
    let k = c.args.key.now in
    let m = seen R c.self.inside.slots in
    let all = rw c.in-Some.is at (c.get_mut.follows.holds c.settle.new.self) in
    let here = sym c.in-Some.ensures.value in
    let some : is_bare c.in-Some.slot.now ≡ false = not-true (is_bare c.in-Some.slot.now) (sym c.settle.ensures.left ∙ c.if-settle.true) in
    let is = ap is_settled c.settle.ensures.slot ∙ settled_of c.in-Some.slot.now some in
    record {
      look = λ q. one_same total exact (λ (s : SlotView _). s.value) m _ k _ c.settle.new.self here all (ap (λ (s : SlotView _). s.value) c.settle.ensures.slot) q ∙ ap (λ es. look_at R es q) c.self.view_is;
      log = λ q. one_same total exact (λ (s : SlotView _). s.log) m _ k _ c.settle.new.self here all (ap (λ (s : SlotView _). s.log) c.settle.ensures.slot) q ∙ ap (λ es. log_at R es q) c.self.view_is;
      settled = λ keys settled. settled_set total exact keys m _ k c.settle.new.self all is (subst (SettledBut R (k ∷ keys)) (sym c.self.view_is) settled);
    }

pub returns : goal.returns
returns g c =
    let R = g.K.Key.order in
    let total = subst IsTotalOrder g.met.K.Key.same g.met.K.Ord.total in
    let exact = subst IsAntisymmetric g.met.K.Key.same g.met.K.Key.exact in
    let k = c.args.key.now in
    let m = seen R c.self.inside.slots in
    let all = rw c.in-Some.is at (c.get_mut.follows.holds c.settle.new.self) in
    let here = sym c.in-Some.ensures.value in
    let bare : is_bare c.in-Some.slot.now ≡ true = not-false (is_bare c.in-Some.slot.now) (sym c.settle.ensures.left ∙ c.if-settle.false) in
    record {
      look = λ q. same_gone total exact (λ (s : SlotView _). s.value) m _ k c.in-Some.slot.now c.settle.new.self here (c.remove.ensures.new ∙ ap (λ n. remove n k) all) (bare_value c.in-Some.slot.now bare) q ∙ ap (λ es. look_at R es q) c.self.view_is;
      log = λ q. same_gone total exact (λ (s : SlotView _). s.log) m _ k c.in-Some.slot.now c.settle.new.self here (c.remove.ensures.new ∙ ap (λ n. remove n k) all) (bare_log c.in-Some.slot.now bare) q ∙ ap (λ es. log_at R es q) c.self.view_is;
      settled = λ keys settled. settled_gone total exact keys m _ k c.settle.new.self (c.remove.ensures.new ∙ ap (λ n. remove n k) all) (subst (SettledBut R (k ∷ keys)) (sym c.self.view_is) settled);
    }

pub returns-in_default : goal.returns-in_default
returns-in_default g c =
    let R = g.K.Key.order in
    let total = subst IsTotalOrder g.met.K.Key.same g.met.K.Ord.total in
    let exact = subst IsAntisymmetric g.met.K.Key.same g.met.K.Key.exact in
    let k = c.args.key.now in
    let m = seen R c.self.inside.slots in
    let none : get m k ≡ None = sym c.get_mut.ensures.value ∙ ap option_copied_mut c.in_default.is in
    record {
      look = λ q. ap (λ es. look_at g.K.Key.order es q) (c.get_mut.follows.holds-at-none ∙ c.self.view_is);
      log = λ q. ap (λ es. log_at g.K.Key.order es q) (c.get_mut.follows.holds-at-none ∙ c.self.view_is);
      settled = λ keys settled. settled_none total exact keys m _ k (ap (seen R) c.get_mut.follows.holds-at-none) none (subst (SettledBut R (k ∷ keys)) (sym c.self.view_is) settled);
    }

pub invariant_of-self-then-settle : goal.invariant_of-self-then-settle
invariant_of-self-then-settle g c =
    let R = g.K.Key.order in
    let total = subst IsTotalOrder g.met.K.Key.same g.met.K.Ord.total in
    let exact = subst IsAntisymmetric g.met.K.Key.same g.met.K.Key.exact in
    let k = c.args.key.now in
    let m = seen R c.self.inside.slots in
    let all = rw c.in-Some.is at (c.get_mut.follows.holds c.settle.new.self) in
    as_before total exact c.self.inside.slots _ c.self.inside.present
    (λ q. one_same total exact (λ (s : SlotView _). s.value) m _ k _ c.settle.new.self (sym c.in-Some.ensures.value) all (ap (λ (s : SlotView _). s.value) c.settle.ensures.slot) q) c.self.invariant

pub invariant_of-self-2 : goal.invariant_of-self-2
invariant_of-self-2 g c =
    let R = g.K.Key.order in
    let total = subst IsTotalOrder g.met.K.Key.same g.met.K.Ord.total in
    let exact = subst IsAntisymmetric g.met.K.Key.same g.met.K.Key.exact in
    let k = c.args.key.now in
    let m = seen R c.self.inside.slots in
    let all = rw c.in-Some.is at (c.get_mut.follows.holds c.settle.new.self) in
    let here = sym c.in-Some.ensures.value in
    let bare : is_bare c.in-Some.slot.now ≡ true = not-false (is_bare c.in-Some.slot.now) (sym c.settle.ensures.left ∙ c.if-settle.false) in
    as_before total exact c.self.inside.slots _ c.self.inside.present
    (λ q. same_gone total exact (λ (s : SlotView _). s.value) m _ k c.in-Some.slot.now c.settle.new.self here (c.remove.ensures.new ∙ ap (λ n. remove n k) all) (bare_value c.in-Some.slot.now bare) q) c.self.invariant
