use Rattle.sk_objects.proofs.Names.{◌≡◌, ◌≤◌, ◌*◌, length, arith, ap, Bool, false, List, ℕ, take, sym, subst, ◌∙◌, Decides, same_from_decides}
use Rattle.sk_objects.proofs.Names.{joined, same_bytes, exact_bytes}
use Rattle.sk_objects.proofs.Seen.{same_decided, apart_decided}
use Rattle.sk_objects.proofs.file.FilePartialEq.eq.Goals as goal

-- said of the fields, and so of what is seen
seen : (r : Bool) (f g x y : List ℕ) → f ≡ x → g ≡ y → Decides r (f ≡ g) → Decides r (x ≡ y)
seen r f g x y e h d = subst (λ (l : List ℕ). Decides r (l ≡ y)) e (subst (λ (l : List ℕ). Decides r (f ≡ l)) h d)

pub returns-then-self-other-clause-exact : goal.returns-then-self-other-clause-exact
returns-then-self-other-clause-exact c =
    let a = c.self.inside in
    let b = c.other.inside in
    seen false (take a.size (joined a.slots.items)) (take b.size (joined b.slots.items)) c.args.self.now c.args.other.now c.self.view_is c.other.view_is
    (apart_decided a.slots.items b.slots.items a.size b.size c.self.invariant.are c.other.invariant.are c.if-self-other.true)

pub returns-then-self-other-clause-computed : goal.returns-then-self-other-clause-computed
returns-then-self-other-clause-computed c =
    let a = c.self.inside in
    let b = c.other.inside in
    same_from_decides false (same_bytes c.args.self.now c.args.other.now)
    (seen false (take a.size (joined a.slots.items)) (take b.size (joined b.slots.items)) c.args.self.now c.args.other.now c.self.view_is c.other.view_is
    (apart_decided a.slots.items b.slots.items a.size b.size c.self.invariant.are c.other.invariant.are c.if-self-other.true))
    (exact_bytes c.args.self.now c.args.other.now)

pub returns-clause-exact : goal.returns-clause-exact
returns-clause-exact c =
    let a = c.self.inside in
    let b = c.other.inside in
    let count = c.blocks_of-count.result in
    let low : c.blocks_of-count.result ≤ length a.slots.items = omega (arith, c.blocks_of-count.ensures.value, c.self.invariant.are.covers) in
    let high : c.blocks_of-count.result ≤ length b.slots.items = omega (arith, c.blocks_of-count.ensures.value, c.if-self-other.false, c.other.invariant.are.covers) in
    let enough : a.size ≤ 512 * c.blocks_of-count.result = omega (arith, c.blocks_of-count.ensures.value) in
    let slots : Decides c.same_slots.result (take count a.slots.items ≡ take count b.slots.items) =
    (λ h. ap (take count) (sym c.deref.ensures.value) ∙ c.same_slots.ensures.0 h ∙ ap (take count) c.deref-2.ensures.value, λ e. c.same_slots.ensures.1 (ap (take count) c.deref.ensures.value ∙ e ∙ ap (take count) (sym c.deref-2.ensures.value))) in
    seen c.same_slots.result (take a.size (joined a.slots.items)) (take b.size (joined b.slots.items)) c.args.self.now c.args.other.now c.self.view_is c.other.view_is
    (same_decided a.slots.items b.slots.items a.size b.size c.self.invariant.are c.other.invariant.are c.same_slots.result count low high enough slots c.if-self-other.false)

pub returns-clause-computed : goal.returns-clause-computed
returns-clause-computed c =
    let a = c.self.inside in
    let b = c.other.inside in
    let count = c.blocks_of-count.result in
    let low : c.blocks_of-count.result ≤ length a.slots.items = omega (arith, c.blocks_of-count.ensures.value, c.self.invariant.are.covers) in
    let high : c.blocks_of-count.result ≤ length b.slots.items = omega (arith, c.blocks_of-count.ensures.value, c.if-self-other.false, c.other.invariant.are.covers) in
    let enough : a.size ≤ 512 * c.blocks_of-count.result = omega (arith, c.blocks_of-count.ensures.value) in
    let slots : Decides c.same_slots.result (take count a.slots.items ≡ take count b.slots.items) =
    (λ h. ap (take count) (sym c.deref.ensures.value) ∙ c.same_slots.ensures.0 h ∙ ap (take count) c.deref-2.ensures.value, λ e. c.same_slots.ensures.1 (ap (take count) c.deref.ensures.value ∙ e ∙ ap (take count) (sym c.deref-2.ensures.value))) in
    same_from_decides c.same_slots.result (same_bytes c.args.self.now c.args.other.now)
    (seen c.same_slots.result (take a.size (joined a.slots.items)) (take b.size (joined b.slots.items)) c.args.self.now c.args.other.now c.self.view_is c.other.view_is
    (same_decided a.slots.items b.slots.items a.size b.size c.self.invariant.are c.other.invariant.are c.same_slots.result count low high enough slots c.if-self-other.false))
    (exact_bytes c.args.self.now c.args.other.now)
