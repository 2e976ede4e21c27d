-- A request more, or a part of one.
use Rattle.sk_replay.proofs.Names.{on_ok_weaker, ◌+◌, ◌<◌, ◌++◌, map, take, drop, length, Some, Ok, Err, refl, sym}
use Rattle.sk_replay.proofs.Names.{subst, rules, arith, length-drop, words_of, HasFound, log_limits, IsRefused}
use Rattle.sk_replay.proofs.Names.{IsRefusedBehind, Reading}
use Rattle.sk_replay.proofs.Come.{if_refused, large_refused, part_on, reader_refused, reads_rest, request_on, request_refused}
use Rattle.sk_replay.proofs.payload.Reading.step.Goals as goal

pub returns-in-Err-clause-err : goal.returns-in-Err-clause-err
returns-in-Err-clause-err c =
    let old = c.args.self.now in
    let come = c.requires.come in
    subst (IsRefused log_limits c.args.payload.now) (sym c.refused_at.ensures)
    (reader_refused c.args.payload.now old c.take.new.self c.in-Err.refusal come
    (reads_rest c.args.payload.now old (Err c.in-Err.refusal) c.take.new.self come
    (c.in-Err.ensures log_limits (map Some come.requests) (take old.place c.args.payload.now) come.read)))

pub overflow_add-self : goal.overflow_add-self
overflow_add-self c =
    let old = c.args.self.now in
    let come = c.requires.come in
    let on = reads_rest c.args.payload.now old (Ok c.in-Ok.taken) c.take.new.self come
    (c.in-Ok.ensures log_limits (map Some come.requests) (take old.place c.args.payload.now) come.read) in
    let few = on.0 in
    let within = come.within in
    search (rules, few, within, length-drop old.place c.args.payload.now)

pub returns-in-Part : goal.returns-in-Part
returns-in-Part c =
    let old = c.args.self.now in
    let come = c.requires.come in
    let payload = c.args.payload.now in
    let told = map Some come.requests in
    let count = c.in-Ok.taken.count in
    let on = reads_rest payload old (Ok c.in-Ok.taken) c.take.new.self come (c.in-Ok.ensures log_limits told (take old.place payload) come.read) in
    let some : 0 < length (drop old.place payload) = omega (arith, c.requires.more, length-drop old.place payload) in
    record {
      ok = part_on payload old (record { reader = c.take.new.self; channel = old.channel; place = old.place + count }) count come on.0 refl refl
          (subst (λ f. HasFound log_limits told (take old.place payload ++ take count (drop old.place payload)) f c.take.new.self) c.in-Part.is on.2);
      on = omega (arith, on.1 some);
      err = search rules;
    }

pub returns-in-Request : goal.returns-in-Request
returns-in-Request c =
    let old = c.args.self.now in
    let come = c.requires.come in
    let payload = c.args.payload.now in
    let told = map Some come.requests in
    let count = c.in-Ok.taken.count in
    let words = words_of c.in-Request.words.items in
    let on = reads_rest payload old (Ok c.in-Ok.taken) c.take.new.self come (c.in-Ok.ensures log_limits told (take old.place payload) come.read) in
    let new : Reading = record { reader = c.take.new.self; channel = c.take-in-Request.new.self; place = old.place + count } in
    let some : 0 < length (drop old.place payload) = omega (arith, c.requires.more, length-drop old.place payload) in
    record {
      ok = on_ok_weaker c.take-in-Request.result
          (λ carried. request_on payload old new count words come on.0 refl
          (subst (λ f. HasFound log_limits told (take old.place payload ++ take count (drop old.place payload)) f c.take.new.self) c.in-Request.is on.2) (rw c.in-Request.words-is at (carried come.requests come.carried)))
          c.take-in-Request.ensures.ok;
      on = on_ok_weaker c.take-in-Request.result (λ carried. omega (arith, on.1 some)) c.take-in-Request.ensures.ok;
      err = if_refused c.take-in-Request.result _ (IsRefused log_limits payload)
          (λ refusal refused. request_refused payload old count c.take.new.self words refusal come on.0
          (subst (λ f. HasFound log_limits told (take old.place payload ++ take count (drop old.place payload)) f c.take.new.self) c.in-Request.is on.2) (subst (λ w. IsRefusedBehind come.requests (words_of w.items) (old.place + count) refusal) c.in-Request.words-is (refused come.requests come.carried)))
          c.take-in-Request.ensures.err;
    }

pub returns-in-TooLarge-clause-err : goal.returns-in-TooLarge-clause-err
returns-in-TooLarge-clause-err c =
    let old = c.args.self.now in
    let come = c.requires.come in
    let payload = c.args.payload.now in
    let told = map Some come.requests in
    let count = c.in-Ok.taken.count in
    let on = reads_rest payload old (Ok c.in-Ok.taken) c.take.new.self come (c.in-Ok.ensures log_limits told (take old.place payload) come.read) in
    large_refused payload old count c.take.new.self come on.0
    (subst (λ f. HasFound log_limits told (take old.place payload ++ take count (drop old.place payload)) f c.take.new.self) c.in-TooLarge.is on.2)
