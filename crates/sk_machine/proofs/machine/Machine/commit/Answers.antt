-- A commit of each part is the machine's, and the lists stay exact.
use Rattle.sk_machine.proofs.Names.{◌≡◌, List, Some, ap, ◌∙◌, map, subst, sym, MergedCommits, Undecided, Committed}
use Rattle.sk_machine.proofs.Names.{Entity, status_since, opens_of, status-decided, AllExact, tags_in, Parts}
use Rattle.sk_machine.proofs.Names.{machine_of, decided, the_view, AllGrow, AreListed, Lightened, after_commit}
use Rattle.sk_machine.proofs.Names.{but_taken, dependents_of}
use Rattle.sk_guesses.specs.Opens.{without_tag}
use Rattle.sk_machine.proofs.Listed.{commit_opens, committed_exact, listed}
use Rattle.sk_machine.proofs.Becomes.{commits_of}
use Rattle.sk_machine.proofs.machine.Machine.commit.Goals as goal

pub commit-requires-clause-listed : goal.commit-requires-clause-listed
commit-requires-clause-listed c =
    let m = c.self.inside.logs.slots in
    let os = c.self.inside.guesses.opens in
    let undecided : status_since c.self.inside.guesses.view c.args.id ≡ Some Undecided = ap (λ (p : Parts). status_since p.guesses c.args.id) c.self.view_is ∙ c.requires.undecided in
    let grows = subst (λ (p : Parts). AllGrow p.slots) (sym c.self.view_is) c.requires.grow in
    let freed : c.as_slice.result.now ≡ dependents_of c.args.id os = c.as_slice.ensures.entities ∙ c.take_dependents-freed.ensures.list in
    subst (λ (es : List Entity). AreListed c.args.id m es) (sym freed) (listed c.args.id m os c.self.invariant.0 grows (c.dependents-known.ensures.known undecided))

pub invariant_of-self : goal.invariant_of-self
invariant_of-self c =
    let m = c.self.inside.logs.slots in
    let n = c.commit.new.self.slots in
    let id = c.args.id in
    let os = c.self.inside.guesses.opens in
    let undecided : status_since c.self.inside.guesses.view id ≡ Some Undecided = ap (λ (p : Parts). status_since p.guesses id) c.self.view_is ∙ c.requires.undecided in
    let still : status_since c.take_dependents-freed.new.self.view id ≡ Some Undecided = ap (λ v. status_since v id) c.take_dependents-freed.ensures.view ∙ undecided in
    let grows = subst (λ (p : Parts). AllGrow p.slots) (sym c.self.view_is) c.requires.grow in
    let opens : c.reuse.new.self.opens ≡ after_commit id os =
    c.reuse.ensures.opens ∙ (c.commit-2.ensures.undecided still).opens ∙ ap (after_commit id) c.take_dependents-freed.ensures.opens ∙ ap (map (without_tag id)) (but_taken id os) in
    (subst (AllExact (tags_in n)) (sym opens) (committed_exact id m n grows c.commit.ensures.slots os c.self.invariant.0), c.self.invariant.1)

pub returns-clause-commits : goal.returns-clause-commits
returns-clause-commits c =
    let id = c.args.id in
    let os = c.self.inside.guesses.opens in
    let a : Parts = the_view c.self.inside in
    let b : Parts = record { slots = c.commit.new.self.slots; opens = opens_of c.reuse.new.self.opens; guesses = c.reuse.new.self.view; texts = c.commit-3.new.self } in
    let undecided : status_since a.guesses id ≡ Some Undecided = ap (λ (p : Parts). status_since p.guesses id) c.self.view_is ∙ c.requires.undecided in
    let still : status_since c.take_dependents-freed.new.self.view id ≡ Some Undecided = ap (λ v. status_since v id) c.take_dependents-freed.ensures.view ∙ undecided in
    let opens : c.reuse.new.self.opens ≡ after_commit id os =
    c.reuse.ensures.opens ∙ (c.commit-2.ensures.undecided still).opens ∙ ap (after_commit id) c.take_dependents-freed.ensures.opens ∙ ap (map (without_tag id)) (but_taken id os) in
    let view : c.reuse.new.self.view ≡ decided a.guesses id Committed = c.reuse.ensures.view ∙ (c.commit-2.ensures.undecided still).view ∙ ap (λ v. decided v id Committed) c.take_dependents-freed.ensures.view in
    subst (λ (p : Parts). MergedCommits (machine_of p) id (machine_of b)) c.self.view_is
    (commits_of a b id c.commit.ensures.slots (ap opens_of opens ∙ commit_opens id os)
    (λ h. ap (λ g. status_since g h) view ∙ status-decided a.guesses id Undecided Committed undecided h)
    c.commit-3.ensures.texts)

pub returns-clause-logs : goal.returns-clause-logs
returns-clause-logs c = subst (λ (p : Parts). Lightened p.slots c.args.id c.commit.new.self.slots) c.self.view_is c.commit.ensures.slots

pub returns-clause-guesses : goal.returns-clause-guesses
returns-clause-guesses c =
    let id = c.args.id in
    let undecided : status_since c.self.inside.guesses.view id ≡ Some Undecided = ap (λ (p : Parts). status_since p.guesses id) c.self.view_is ∙ c.requires.undecided in
    let still : status_since c.take_dependents-freed.new.self.view id ≡ Some Undecided = ap (λ v. status_since v id) c.take_dependents-freed.ensures.view ∙ undecided in
    c.reuse.ensures.view ∙ (c.commit-2.ensures.undecided still).view ∙ ap (λ v. decided v id Committed) c.take_dependents-freed.ensures.view ∙ ap (λ (p : Parts). decided p.guesses id Committed) c.self.view_is
