-- A failure of each part is the machine's.
use Rattle.sk_speculator.proofs.Names.{◌≡◌, true, cond, length, sym, ◌∙◌, ap, subst, IsTotalOrder, IsAntisymmetric}
use Rattle.sk_speculator.proofs.Names.{AllAlmostExact, tags_by, struck_with, with_struck, dependents_of, not_resting}
use Rattle.sk_speculator.proofs.Names.{opens_of, exact_at, failed_almost, taken_opens, is_in, has, cut, unwound}
use Rattle.sk_speculator.proofs.Names.{not_struck, numbers, look_at, log_at, FailsIn, TookBack, Parts, Undone}
use Rattle.sk_speculator.proofs.Names.{refl, not, [], exact_as, last_tags, AllExact, OpenGuess}
use Rattle.sk_guesses.proofs.Opens.{all_kept}
use Rattle.sk_speculator.proofs.Afterwards.{cuts_so, fail_agrees, fails_so, grows, whole_failed}
use Rattle.sk_speculator.proofs.speculator.Speculator.fail_open.Given.{Over}
use Rattle.sk_speculator.proofs.speculator.Speculator.fail_open.Goals as goal
use Rattle.sk_speculator.proofs.speculator.Speculator.fail_open.Goals.{After-drop_of}

-- the lists of those that stay undecided have just the keys that depend on them
pub relieve_rest-requires-clause-exact : goal.relieve_rest-requires-clause-exact
relieve_rest-requires-clause-exact g c =
    let R = g.K.Key.order in
    let a : Parts _ _ _ = record { slots = c.self.inside.slots; guesses = c.self.inside.guesses.view; opens = opens_of c.self.inside.guesses.opens; said = c.self.inside.said.said } in
    let os = c.self.inside.guesses.opens in
    let old = tags_by (log_at R a.slots) in
    let left : c.fail-struck.new.self.opens ≡ not_resting c.args.id os = c.fail-struck.ensures.opens ∙ c.take_dependents-keys.ensures.resting in
    subst (AllExact R old) (sym left)
    (all_kept (λ (o : OpenGuess _). (k : _) → is_in R o.dependents k ≡ has o.id (old k)) (λ o. not (has c.args.id o.tags)) os c.self.invariant.1.exact)

-- and some that the failure takes off them
pub relieve_rest-requires-clause-almost : goal.relieve_rest-requires-clause-almost
relieve_rest-requires-clause-almost g c =
    let R = g.K.Key.order in
    let total = subst IsTotalOrder g.met.K.Key.same g.met.K.Ord.total in
    let exact = subst IsAntisymmetric g.met.K.Key.same g.met.K.Key.exact in
    let a : Parts _ _ _ = record { slots = c.self.inside.slots; guesses = c.self.inside.guesses.view; opens = opens_of c.self.inside.guesses.opens; said = c.self.inside.said.said } in
    let sound = c.self.invariant.1 in
    let os = c.self.inside.guesses.opens in
    let id = c.args.id in
    let here : has id (numbers a.opens) ≡ true = ap (λ (p : Parts _ _ _). has id (numbers p.opens)) c.self.view_is ∙ c.requires in
    let l = dependents_of id os in
    let just = exact_at total exact (tags_by (log_at R a.slots)) id os sound.exact here in
    let left : c.fail-struck.new.self.opens ≡ not_resting id os = c.fail-struck.ensures.opens ∙ c.take_dependents-keys.ensures.resting in
    subst (λ ks. AllAlmostExact R (tags_by (λ q. cut id (log_at R a.slots q))) ks c.fail-struck.new.self.opens) (sym (c.as_slice.ensures.entities ∙ c.take_dependents-keys.ensures.list))
    (subst (AllAlmostExact R (tags_by (λ q. cut id (log_at R a.slots q))) l) (sym left)
    (failed_almost total exact id (log_at R a.slots) (λ q. cut id (log_at R a.slots q)) (grows total exact a sound.whole) (λ q. refl) l just os sound.exact))

-- it is the machine's
failed : (g : Over) (c : After-drop_of g) → FailsIn g.K.Key.order (record { slots = c.self.inside.slots; guesses = c.self.inside.guesses.view; opens = opens_of c.self.inside.guesses.opens; said = c.self.inside.said.said }) c.args.id (record {
  slots = c.unwind.new.self;
  guesses = c.relieve_rest.new.guesses.view;
  opens = opens_of c.relieve_rest.new.guesses.opens;
  said = c.drop_of.new.self.said;
})
failed g c =
    let R = g.K.Key.order in
    let total = subst IsTotalOrder g.met.K.Key.same g.met.K.Ord.total in
    let exact = subst IsAntisymmetric g.met.K.Key.same g.met.K.Key.exact in
    let a : Parts _ _ _ = record { slots = c.self.inside.slots; guesses = c.self.inside.guesses.view; opens = opens_of c.self.inside.guesses.opens; said = c.self.inside.said.said } in
    let sound = c.self.invariant.1 in
    let os = c.self.inside.guesses.opens in
    let id = c.args.id in
    let whole = sound.whole in
    let here : has id (numbers a.opens) ≡ true = ap (λ (p : Parts _ _ _). has id (numbers p.opens)) c.self.view_is ∙ c.requires in
    let l = dependents_of id os in
    let just = exact_at total exact (tags_by (log_at R a.slots)) id os sound.exact here in
    let given : c.as_slice-2.result.now ≡ l = c.as_slice-2.ensures.entities ∙ c.take_dependents-keys.ensures.list in
    let b : Parts _ _ _ = record { slots = c.unwind.new.self; guesses = c.relieve_rest.new.guesses.view; opens = opens_of c.relieve_rest.new.guesses.opens; said = c.drop_of.new.self.said } in
    let look : (q : _) → look_at R b.slots q ≡ cond (is_in R l q) (unwound id (log_at R a.slots q) (look_at R a.slots q)) (look_at R a.slots q) = λ q.
    c.unwind.ensures.look q ∙ ap (λ es. cond (is_in R es q) (unwound id (log_at R a.slots q) (look_at R a.slots q)) (look_at R a.slots q)) given in
    let log : (q : _) → log_at R b.slots q ≡ cond (is_in R l q) (cut id (log_at R a.slots q)) (log_at R a.slots q) = λ q.
    c.unwind.ensures.log q ∙ ap (λ es. cond (is_in R es q) (cut id (log_at R a.slots q)) (log_at R a.slots q)) given in
    let cuts = cuts_so total exact a whole id l just b.slots log in
    let same : opens_of c.take_dependents-keys.new.self.opens ≡ a.opens = ap opens_of c.take_dependents-keys.ensures.opens ∙ taken_opens id os in
    let opens : b.opens ≡ not_struck id a.opens = c.relieve_rest.ensures.opens ∙ c.fail-struck.ensures.machine ∙ ap (not_struck id) same in
    let guesses : b.guesses ≡ with_struck id a.opens a.guesses = c.relieve_rest.ensures.view ∙ c.fail-struck.ensures.view ∙ (λ i. with_struck id (same i) (c.take_dependents-keys.ensures.view i)) in
    record {
      undecided = here;
      fails = λ status _. fails_so total exact a whole id l just b look cuts opens c.drop_of.ensures status;
      agrees = λ status are.
          fail_agrees a.guesses b.guesses c.fail-struck.new.self.view c.take_dependents-keys.new.self.view a.opens b.opens (opens_of c.fail-struck.new.self.opens) (opens_of c.take_dependents-keys.new.self.opens) id status
          c.take_dependents-keys.ensures.view same c.relieve_rest.ensures.view c.relieve_rest.ensures.opens here (c.fail-struck.ensures.statuses status) are;
      guesses = guesses;
      opens = opens;
    }

pub invariant_of-self : goal.invariant_of-self
invariant_of-self g c =
    let R = g.K.Key.order in
    let total = subst IsTotalOrder g.met.K.Key.same g.met.K.Ord.total in
    let exact = subst IsAntisymmetric g.met.K.Key.same g.met.K.Key.exact in
    let a : Parts _ _ _ = record { slots = c.self.inside.slots; guesses = c.self.inside.guesses.view; opens = opens_of c.self.inside.guesses.opens; said = c.self.inside.said.said } in
    let sound = c.self.invariant.1 in
    let os = c.self.inside.guesses.opens in
    let id = c.args.id in
    let here : has id (numbers a.opens) ≡ true = ap (λ (p : Parts _ _ _). has id (numbers p.opens)) c.self.view_is ∙ c.requires in
    let l = dependents_of id os in
    let just = exact_at total exact (tags_by (log_at R a.slots)) id os sound.exact here in
    let given : c.as_slice-2.result.now ≡ l = c.as_slice-2.ensures.entities ∙ c.take_dependents-keys.ensures.list in
    let new = c.unwind.new.self in
    let log : (q : _) → log_at R new q ≡ cond (is_in R l q) (cut id (log_at R a.slots q)) (log_at R a.slots q) = λ q.
    c.unwind.ensures.log q ∙ ap (λ es. cond (is_in R es q) (cut id (log_at R a.slots q)) (log_at R a.slots q)) given in
    let cuts = cuts_so total exact a sound.whole id l just new log in (
      c.self.invariant.0,
      record {
        settled = c.unwind.ensures.settled sound.settled;
        exact =
            exact_as total exact (tags_by (λ q. cut id (log_at R a.slots q))) (tags_by (log_at R new)) (λ q. ap (last_tags []) (sym (cuts q)))
            c.relieve_rest.new.guesses.opens c.relieve_rest.ensures.exact;
        whole = whole_failed total exact _ sound.whole _ id (failed g (goal.at.invariant_of-self g c).After-drop_of);
      },
    )

pub returns-clause-fails : goal.returns-clause-fails
returns-clause-fails g c =
    let b : Parts _ _ _ = record { slots = c.unwind.new.self; guesses = c.relieve_rest.new.guesses.view; opens = opens_of c.relieve_rest.new.guesses.opens; said = c.drop_of.new.self.said } in
    subst (λ (p : Parts _ _ _). FailsIn g.K.Key.order p c.args.id b) c.self.view_is (failed g (goal.at.returns-clause-fails g c).After-drop_of)

pub returns-clause-back : goal.returns-clause-back
returns-clause-back g c =
    let R = g.K.Key.order in
    let total = subst IsTotalOrder g.met.K.Key.same g.met.K.Ord.total in
    let exact = subst IsAntisymmetric g.met.K.Key.same g.met.K.Key.exact in
    let a : Parts _ _ _ = record { slots = c.self.inside.slots; guesses = c.self.inside.guesses.view; opens = opens_of c.self.inside.guesses.opens; said = c.self.inside.said.said } in
    let sound = c.self.invariant.1 in
    let os = c.self.inside.guesses.opens in
    let id = c.args.id in
    let whole = sound.whole in
    let here : has id (numbers a.opens) ≡ true = ap (λ (p : Parts _ _ _). has id (numbers p.opens)) c.self.view_is ∙ c.requires in
    let l = dependents_of id os in
    let just = exact_at total exact (tags_by (log_at R a.slots)) id os sound.exact here in
    let same : opens_of c.take_dependents-keys.new.self.opens ≡ a.opens = ap opens_of c.take_dependents-keys.ensures.opens ∙ taken_opens id os in
    let undone : Undone _ = record { keys = c.into_vec.result; struck = c.fail-struck.result } in
    subst (λ (p : Parts _ _ _). TookBack R p id undone) c.self.view_is (record {
      keys = λ k. ap (λ ks. is_in R ks k) (c.into_vec.ensures.items ∙ c.take_dependents-keys.ensures.list) ∙ just k;
      rising = c.into_vec.ensures.rising;
      struck = c.fail-struck.ensures.count ∙ ap (λ xs. length (struck_with id xs)) same;
    })
