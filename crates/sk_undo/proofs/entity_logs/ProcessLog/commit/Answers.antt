use Rattle.sk_undo.proofs.Cites.{◌≡◌, None, [], subst, sym, ap, ◌∙◌, committed, Grows, lightened, dropped, joined_from}
use Rattle.sk_undo.proofs.Cites.{is_process_whole, runs_of, AllSet, is_apart}
use Rattle.sk_undo.proofs.Runs.{commit_set, commit_runs, commit_grows, apart_merged}
use Rattle.sk_undo.proofs.entity_logs.ProcessLog.commit.Goals as goal

pub invariant_of-self : goal.invariant_of-self
invariant_of-self c =
    let g = c.args.guess in
    let old = c.args.self.now.log.notes.items in
    let all : c.join.new.self.notes.items ≡ joined_from is_process_whole None 0 (dropped (lightened g old)) = c.join.ensures.notes ∙ ap (joined_from is_process_whole None 0) (c.commit.ensures.notes c.args.self.now.grows) in
    record {
      grows = subst Grows (sym all) (commit_grows g old c.args.self.now.grows c.args.self.now.whole);
      whole = subst AllSet (sym all) (commit_set g old c.args.self.now.grows c.args.self.now.whole);
      apart = ap (is_apart []) (ap runs_of all ∙ commit_runs g old c.args.self.now.grows c.args.self.now.whole) ∙ apart_merged [] (committed g (runs_of old));
    }

pub returns-clause-runs : goal.returns-clause-runs
returns-clause-runs c =
    let g = c.args.guess in
    let old = c.args.self.now.log.notes.items in
    let all : c.join.new.self.notes.items ≡ joined_from is_process_whole None 0 (dropped (lightened g old)) = c.join.ensures.notes ∙ ap (joined_from is_process_whole None 0) (c.commit.ensures.notes c.args.self.now.grows) in
    ap runs_of all ∙ commit_runs g old c.args.self.now.grows c.args.self.now.whole
