use Rattle.sk_undo.proofs.Cites.{◌≡◌, [], None, ◌∙◌, ap, sym, subst, reverse, seen, CanGoBack, EachRests, joined_from}
use Rattle.sk_undo.proofs.Cites.{NoteFits, state_undone, SlotView, undone, Fits, is_held_whole, committed_joined}
use Rattle.sk_undo.proofs.Cites.{committed, Merges, IsGrowing}
use Rattle.sk_undo.proofs.Commits.{commit_seen}
use Rattle.sk_undo.proofs.Growing.{grows_there}
use Rattle.sk_undo.proofs.Joined.{commit_joined}
use Rattle.sk_undo.proofs.Joins.{joins, joined_can}
use Rattle.sk_undo.proofs.slot.Slot.commit.Goals as goal

pub returns-clause-log : goal.returns-clause-log
returns-clause-log c grows =
    let ns = c.self.inside.log.notes.items in
    let v = c.self.inside.value in
    let mid = c.commit-first.new.self.notes.items in
    let inside : IsGrowing (reverse (seen undone v (reverse ns))) = subst (λ (s : SlotView). IsGrowing (reverse s.log)) (sym c.self.view_is) grows in
    let h : reverse (seen undone v (reverse mid)) ≡ committed c.args.guess (reverse (seen undone v (reverse ns))) =
    ap (λ ms. reverse (seen undone v (reverse ms))) (c.commit-first.ensures.notes (grows_there undone v ns inside)) ∙ commit_seen undone c.args.guess ns v inside in
    let m : Merges [] (committed c.args.guess (reverse (seen undone v (reverse ns)))) (reverse (seen undone v (reverse c.join.new.self.notes.items))) =
    subst (λ ms. Merges [] (committed c.args.guess (reverse (seen undone v (reverse ns)))) (reverse (seen undone v (reverse ms)))) (sym c.join.ensures.notes)
    (subst (λ xs. Merges [] xs (reverse (seen undone v (reverse (joined_from is_held_whole None c.commit-first.result mid))))) h (joins is_held_whole state_undone NoteFits v c.commit-first.result mid)) in
    subst (λ (s : SlotView). Merges [] (committed c.args.guess (reverse s.log)) (reverse (seen undone v (reverse c.join.new.self.notes.items)))) c.self.view_is m

pub returns-clause-joined : goal.returns-clause-joined
returns-clause-joined c grows rests =
    let ns = c.self.inside.log.notes.items in
    let v = c.self.inside.value in
    let g = c.args.guess in
    let grown : IsGrowing (reverse (seen undone v (reverse ns))) = subst (λ (s : SlotView). IsGrowing (reverse s.log)) (sym c.self.view_is) grows in
    let rested : EachRests (reverse (seen undone v (reverse ns))) = subst (λ (s : SlotView). EachRests (reverse s.log)) (sym c.self.view_is) rests in
    let there = grows_there undone v ns grown in
    ap (λ ms. reverse (seen undone v (reverse ms))) (c.join.ensures.notes ∙ (λ i. joined_from is_held_whole None (c.commit-first.ensures.first there i) (c.commit-first.ensures.notes there i)))
    ∙ commit_joined g v ns c.self.invariant grown rested
    ∙ ap (λ (s : SlotView). committed_joined g None (reverse s.log)) c.self.view_is

pub invariant_of-self : goal.invariant_of-self
invariant_of-self c =
    let v = c.self.inside.value in
    let can = joined_can is_held_whole state_undone NoteFits v c.commit-first.result c.commit-first.new.self.notes.items (c.commit-first.ensures.can v c.self.invariant) in
    subst (λ ms. CanGoBack Fits undone v (reverse ms)) (sym c.join.ensures.notes) can
