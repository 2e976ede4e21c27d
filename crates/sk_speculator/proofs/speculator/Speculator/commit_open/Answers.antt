-- A commit of each part is the machine's.
use Rattle.sk_speculator.proofs.Names.{◌≡◌, [], true, cond, sym, ◌∙◌, ap, subst, IsTotalOrder, IsAntisymmetric}
use Rattle.sk_speculator.proofs.Names.{AllExact, tags_by, dependents_of, opens_of, committed_exact, exact_at, is_in}
use Rattle.sk_speculator.proofs.Names.{joined, has, committed, numbers, log_at, Commits, Parts}
use Rattle.sk_speculator.proofs.Afterwards.{commits_so, grows, merges_so, whole_committed}
use Rattle.sk_speculator.proofs.speculator.Speculator.commit_open.Given.{Over}
use Rattle.sk_speculator.proofs.speculator.Speculator.commit_open.Goals as goal
use Rattle.sk_speculator.proofs.speculator.Speculator.commit_open.Goals.{After-commit-3}

-- it is the machine's, and the lists stay exact
committed_open : (g : Over) (c : After-commit-3 g) → Commits g.K.Key.order (record { slots = c.self.inside.slots; guesses = c.self.inside.guesses.view; opens = opens_of c.self.inside.guesses.opens; said = c.self.inside.said.said }) c.args.id (record {
  slots = c.commit.new.self;
  guesses = c.commit-2.new.self.view;
  opens = opens_of c.commit-2.new.self.opens;
  said = c.commit-3.new.self.said;
}) × AllExact g.K.Key.order (tags_by (log_at g.K.Key.order c.commit.new.self)) c.commit-2.new.self.opens
committed_open g c =
    let R = g.K.Key.order in
    let total = subst IsTotalOrder g.met.K.Key.same g.met.K.Ord.total in
    let exact = subst IsAntisymmetric g.met.K.Key.same g.met.K.Key.exact in
    let a : Parts _ _ _ = record { slots = c.self.inside.slots; guesses = c.self.inside.guesses.view; opens = opens_of c.self.inside.guesses.opens; said = c.self.inside.said.said } in
    let sound = c.self.invariant.1 in
    let os = c.self.inside.guesses.opens in
    let id = c.args.id in
    let whole = sound.whole in
    let here : has id (numbers a.opens) ≡ true = ap (λ (p : Parts _ _ _). has id (numbers p.opens)) c.self.view_is ∙ c.requires in
    let l = dependents_of id os in
    let just = exact_at total exact (tags_by (log_at R a.slots)) id os sound.exact here in
    let b : Parts _ _ _ = record { slots = c.commit.new.self; guesses = c.commit-2.new.self.view; opens = opens_of c.commit-2.new.self.opens; said = c.commit-3.new.self.said } in
    let log : (q : _) → log_at R b.slots q ≡ cond (is_in R l q) (joined [] (committed id (log_at R a.slots q))) (log_at R a.slots q) = λ q.
    c.commit.ensures.log q ∙ ap (λ es. cond (is_in R es q) (joined [] (committed id (log_at R a.slots q))) (log_at R a.slots q)) c.dependents.ensures.value in
    let merges = merges_so total exact a whole id l just b.slots log in (
      record {
        undecided = here;
        commits = λ status _. commits_so total exact a whole id l just b c.commit.ensures.look merges c.commit-2.ensures.machine c.commit-3.ensures status;
        agrees = λ status are. c.commit-2.ensures.statuses status are here;
        guesses = c.commit-2.ensures.view;
        opens = c.commit-2.ensures.machine;
      },
      subst (AllExact R (tags_by (log_at R b.slots))) (sym c.commit-2.ensures.opens) (committed_exact total exact id (log_at R a.slots) (log_at R b.slots) (grows total exact a whole) merges os sound.exact),
    )

pub invariant_of-self : goal.invariant_of-self
invariant_of-self g c =
    let total = subst IsTotalOrder g.met.K.Key.same g.met.K.Ord.total in
    let exact = subst IsAntisymmetric g.met.K.Key.same g.met.K.Key.exact in
    let sound = c.self.invariant.1 in
    let all = committed_open g (goal.at.invariant_of-self g c).After-commit-3 in
    (c.self.invariant.0, record { settled = c.commit.ensures.settled sound.settled; exact = all.1; whole = whole_committed total exact _ sound.whole _ c.args.id all.0 })

pub returns : goal.returns
returns g c =
    let b : Parts _ _ _ = record { slots = c.commit.new.self; guesses = c.commit-2.new.self.view; opens = opens_of c.commit-2.new.self.opens; said = c.commit-3.new.self.said } in
    subst (λ (p : Parts _ _ _). Commits g.K.Key.order p c.args.id b) c.self.view_is (committed_open g (goal.at.returns g c).After-commit-3).0
