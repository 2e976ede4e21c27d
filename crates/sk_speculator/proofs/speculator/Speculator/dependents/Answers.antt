-- The list of an undecided guess has just the keys that depend on it, and nothing depends on another.
use Rattle.sk_speculator.proofs.Names.{◌≡◌, true, false, sym, ◌∙◌, ap, subst, refl, IsTotalOrder, IsAntisymmetric}
use Rattle.sk_speculator.proofs.Names.{tags_by, dependents_of, opens_of, exact_at, none_there, is_in, has, numbers}
use Rattle.sk_speculator.proofs.Names.{tags_at, log_at, Parts, undo_state_of}
use Rattle.sk_speculator.proofs.Afterwards.{not_known}
use Rattle.sk_speculator.proofs.speculator.Speculator.dependents.Goals as goal

pub returns-clause-exact : goal.returns-clause-exact
returns-clause-exact g c = λ k.
    let R = g.K.Key.order in
    let total = subst IsTotalOrder g.met.K.Key.same g.met.K.Ord.total in
    let exact = subst IsAntisymmetric g.met.K.Key.same g.met.K.Key.exact in
    let a : Parts _ _ _ = record { slots = c.self.inside.slots; guesses = c.self.inside.guesses.view; opens = opens_of c.self.inside.guesses.opens; said = c.self.inside.said.said } in
    let sound = c.self.invariant.1 in
    let os = c.self.inside.guesses.opens in
    let id = c.args.id in
    ap (λ ks. is_in R ks k) c.dependents.ensures.value
    ∙ elim (has id (numbers a.opens)) as (λ b. has id (numbers a.opens) ≡ b → is_in R (dependents_of id os) k ≡ has id (tags_at (undo_state_of R a) k)) [
      | true ↦ λ here. exact_at total exact (tags_by (log_at R a.slots)) id os sound.exact here k
      | false ↦ λ closed. ap (λ ks. is_in R ks k) (none_there id os closed) ∙ sym (not_known total exact a sound.whole id closed k)
    ] refl
    ∙ ap (λ (p : Parts _ _ _). has id (tags_at (undo_state_of R p) k)) c.self.view_is
