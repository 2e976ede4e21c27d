use Rattle.sk_log.proofs.Names.{ℕ, List, sym, ◌∙◌, subst, Ends, UsesFront, Reading, Remains, HasRead, the_view}
use Rattle.sk_log.proofs.Crash.{crash_keeps_prefix}
use Rattle.sk_log.proofs.Reading.{kept_rest, end_of}
use Rattle.sk_log.proofs.recovery.Recovery.end.Goals as goal
use Rattle.sk_log.proofs.recovery.Recovery.end.Goals.{in-Other, in_default}

pub returns-clause-log : goal.returns-clause-log
returns-clause-log c = λ segment first payloads bytes read ends.
    let inside = c.self.inside in
    let counts : (xs : List ℕ) → Remains (the_view inside) xs inside.front → UsesFront c.match-self.used xs =
    elim c.match-self.branch [
      | in-Other w ↦ λ xs remains. subst (λ n. UsesFront n xs) (sym w.used-is) (subst (Remains (the_view inside) xs) w.in-Other.is remains).1
      | in_default w ↦ λ xs remains.
          subst (λ n. UsesFront n xs) (sym w.used-is) (subst (UsesFront w.used_len.result) (w.as_slice.ensures ∙ kept_rest (the_view inside) xs inside.front w.in_default.not-Other remains) w.used_len.ensures.used)
    ] in
    end_of segment first payloads bytes c.args.in_flight (the_view inside) c.match-self.used c.rest_of.result (subst (HasRead segment first payloads bytes) (sym c.self.view_is) read)
    (subst (λ (r : Reading). Ends r.segment r.number r.unread) (sym c.self.view_is) ends) counts c.rest_of.ensures

pub returns-clause-crash : goal.returns-clause-crash
returns-clause-crash c = λ segment first synced payloads written bytes read ends crashed.
    crash_keeps_prefix segment first synced written payloads bytes crashed (returns-clause-log c segment first payloads bytes read ends).log_is
