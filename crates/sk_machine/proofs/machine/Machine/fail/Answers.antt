-- A failure of each part is the machine's, and the lists are exact again.
use Rattle.sk_machine.proofs.Names.{◌≡◌, List, ℕ, Some, cond, length, length-set, refl, ap, ◌∙◌, subst, sym, Fails}
use Rattle.sk_machine.proofs.Names.{with_failure, rests_on, not_struck, Undecided, Failed, Struck, Entity, GuessesView}
use Rattle.sk_machine.proofs.Names.{decided, status_since, but, dependents_of, not_resting, opens_of, but_taken}
use Rattle.sk_machine.proofs.Names.{failed_status, taken_opens, AllAlmostExact, AllExact, tags_in, Parts, machine_of}
use Rattle.sk_machine.proofs.Names.{AllGrow, AreListed, the_view}
use Rattle.sk_machine.proofs.Listed.{failed_almost, failed_exact, listed}
use Rattle.sk_machine.proofs.Becomes.{fails_of}
use Rattle.sk_machine.proofs.machine.Machine.fail.Goals as goal

pub unwind-requires-clause-listed : goal.unwind-requires-clause-listed
unwind-requires-clause-listed c =
    let m = c.self.inside.logs.slots in
    let os = c.self.inside.guesses.opens in
    let undecided : status_since c.self.inside.guesses.view c.args.id ≡ Some Undecided = ap (λ (p : Parts). status_since p.guesses c.args.id) c.self.view_is ∙ c.requires.undecided in
    let grows = subst (λ (p : Parts). AllGrow p.slots) (sym c.self.view_is) c.requires.grow in
    subst (λ (es : List Entity). AreListed c.args.id m es) (sym c.dependents.ensures.value) (listed c.args.id m os c.self.invariant.0 grows (c.dependents.ensures.known undecided))

pub relieve_freed-requires : goal.relieve_freed-requires
relieve_freed-requires c =
    let id = c.args.id in
    let m = c.self.inside.logs.slots in
    let n = c.unwind.new.self.slots in
    let os = c.self.inside.guesses.opens in
    let undecided : status_since c.self.inside.guesses.view id ≡ Some Undecided = ap (λ (p : Parts). status_since p.guesses id) c.self.view_is ∙ c.requires.undecided in
    let grows = subst (λ (p : Parts). AllGrow p.slots) (sym c.self.view_is) c.requires.grow in
    let still : status_since c.take_dependents-freed.new.self.view id ≡ Some Undecided = ap (λ v. status_since v id) c.take_dependents-freed.ensures.view ∙ undecided in
    let left : c.strike_resting.new.self.opens ≡ not_resting id (but id os) =
    c.strike_resting.ensures.opens ∙ ap (not_resting id) ((c.fail.ensures.undecided still).opens ∙ ap (but id) c.take_dependents-freed.ensures.opens ∙ but_taken id os) in
    let freed : c.as_slice.result.now ≡ dependents_of id os = c.as_slice.ensures.entities ∙ c.take_dependents-freed.ensures.list in
    let known = c.dependents.ensures.known undecided in
    record {
      almost = subst (λ (es : List Entity). AllAlmostExact (tags_in n) es c.strike_resting.new.self.opens) (sym freed)
          (subst (AllAlmostExact (tags_in n) (dependents_of id os)) (sym left) (failed_almost id m n grows c.unwind.ensures.slots os c.self.invariant.0 known));
      alone = λ is. subst (AllExact (tags_in n)) (sym left)
          (failed_exact id m n grows c.unwind.ensures.slots os c.self.invariant.0 known (c.is_alone-alone.ensures is));
      untagged = c.self.invariant.1;
    }

pub returns : goal.returns
returns c =
    let id = c.args.id in
    let os = c.self.inside.guesses.opens in
    let a : Parts = the_view c.self.inside in
    let b : Parts = record { slots = c.unwind.new.self.slots; opens = opens_of c.reuse.new.self.opens; guesses = c.reuse.new.self.view; texts = c.drop_of.new.self } in
    let undecided : status_since a.guesses id ≡ Some Undecided = ap (λ (p : Parts). status_since p.guesses id) c.self.view_is ∙ c.requires.undecided in
    let taken = c.take_dependents-freed.ensures in
    let still : status_since c.take_dependents-freed.new.self.view id ≡ Some Undecided = ap (λ v. status_since v id) taken.view ∙ undecided in
    let failed = c.fail.ensures.undecided still in
    let struck = c.strike_resting.ensures in
    let after : b.guesses ≡ c.strike_resting.new.self.view = c.reuse.ensures.view ∙ c.relieve_freed.ensures.view in
    let view : c.fail.new.self.view ≡ decided a.guesses id Failed = failed.view ∙ ap (λ v. decided v id Failed) taken.view in
    let kept : c.fail.new.self.opens ≡ but id os = failed.opens ∙ ap (but id) taken.opens ∙ but_taken id os in
    let opens : b.opens ≡ not_struck id a.opens =
    ap opens_of c.reuse.ensures.opens ∙ c.relieve_freed.ensures.opens ∙ ap opens_of struck.opens ∙ c.fail.ensures.resting
    ∙ ap (not_struck id) (ap opens_of taken.opens ∙ taken_opens id os) in
    let statuses : (h : ℕ) → status_since b.guesses h ≡ with_failure id a.opens (status_since a.guesses) h = λ h.
    ap (λ v. status_since v h) after ∙ struck.statuses h
    ∙ (λ i. cond (rests_on id (opens_of (kept i)) h) (Some Struck) (status_since (view i) h)) ∙ failed_status a.guesses id os undecided h in
    let count : length (decided a.guesses id Failed).statuses ≡ length a.guesses.statuses = rw length-set refl in
    record {
      fails = subst (λ (p : Parts). Fails (machine_of p) id (machine_of b)) c.self.view_is
          (fails_of a b id c.unwind.ensures.slots opens statuses c.drop_of.ensures.texts);
      kernel = ap (λ (v : GuessesView). v.kernel) after ∙ struck.kernel ∙ ap (λ (v : GuessesView). v.kernel) view ∙ ap (λ (p : Parts). p.guesses.kernel) c.self.view_is;
      earlier = ap (λ (v : GuessesView). v.earlier) after ∙ struck.earlier ∙ ap (λ (v : GuessesView). v.earlier) view
          ∙ ap (λ (p : Parts). p.guesses.earlier) c.self.view_is;
      drawn = ap (λ (v : GuessesView). length v.statuses) after ∙ struck.drawn ∙ ap (λ (v : GuessesView). length v.statuses) view
          ∙ count ∙ ap (λ (p : Parts). length p.guesses.statuses) c.self.view_is;
    }
