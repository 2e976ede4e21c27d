use Rattle.sk_log.proofs.Names.{◌≡◌, ◌+◌, ◌-◌, take, drop, sym, subst, inl, inr, arith, Ends, Reading, KeptBegin}
use Rattle.sk_log.proofs.Names.{IsNext, the_view}
use Rattle.sk_log.proofs.Reading.{short_ends, none_ends, next_of}
use Rattle.sk_log.proofs.recovery.Recovery.payload.Goals as goal

pub returns-in-Whole-clause-some : goal.returns-in-Whole-clause-some
returns-in-Whole-clause-some c =
    let len = c.in-Whole.len in
    let inside = c.self.inside in
    let same : 24 + len - 24 ≡ len = omega arith in
    let body : take (24 + len - 24) (drop 24 c.as_slice.result.now) ≡ take len (drop 24 inside.unread) = λ i. take (same i) (drop 24 (c.as_slice.ensures i)) in
    let begins = subst (KeptBegin inside.segment inside.number inside.unread) c.in-Whole.is c.self.invariant.kept in
    subst (λ (r : Reading). IsNext r (take (24 + len - 24) (drop 24 c.as_slice.result.now))) c.self.view_is (subst (IsNext (the_view inside)) (sym body) (next_of (the_view inside) len begins))

pub returns-in-Short : goal.returns-in-Short
returns-in-Short c =
    let inside = c.self.inside in
    let begin = KeptBegin inside.segment inside.number inside.unread in
    let ends : Ends inside.segment inside.number inside.unread =
    elim c.in-Short.is [
      | inl short ↦ short_ends inside.segment inside.number short.0 inside.unread (subst begin short.1 c.self.invariant.kept)
      | inr other ↦ none_ends inside.segment inside.number inside.unread (subst begin other c.self.invariant.kept)
    ] in
    record { some = tt; none = λ _. subst (λ (r : Reading). Ends r.segment r.number r.unread) c.self.view_is ends }
