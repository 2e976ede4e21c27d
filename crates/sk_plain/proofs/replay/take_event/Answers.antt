-- Each event goes on, or has its fault, as its own call says.
use Rattle.sk_plain.proofs.Cites.{sym, EntryView}
use Rattle.std.specs.Prelude.{Some, None}
use Rattle.sk_plain.proofs.Replays.{taken_goes, commit_goes, fail_goes}
use Rattle.sk_plain.proofs.replay.take_event.Goals as goal

pub returns-in-Commit : goal.returns-in-Commit
returns-in-Commit c = λ start es r.
    rw c.in-Commit.is (commit_goes c.args.scripts.now start es c.args.replay.now c.commit.new.replay r c.in-Commit.id c.commit.result (c.commit.ensures.ok c.args.scripts.now) c.commit.ensures.err)

pub returns-in-Fail : goal.returns-in-Fail
returns-in-Fail c = λ start es r.
    rw c.in-Fail.is (fail_goes c.args.scripts.now start es c.args.replay.now c.fail.new.replay r c.in-Fail.id c.fail.result c.fail.ensures.ok c.fail.ensures.err)

pub returns-in-Step : goal.returns-in-Step
returns-in-Step c = λ start es r.
    let n : EntryView = record { pid = c.in-Step.pid; input = c.input-input.result; guess = None } in
    rw (c.in-Step.is, sym c.input-input.ensures) (taken_goes c.args.scripts.now start es c.args.replay.now c.take_entry.new.replay r n c.take_entry.result c.take_entry.ensures.ok c.take_entry.ensures.err)

pub returns-in-Guess : goal.returns-in-Guess
returns-in-Guess c = λ start es r.
    let n : EntryView = record { pid = c.in-Guess.pid; input = c.input-input-in-Guess.result; guess = Some c.in-Guess.id } in
    rw (c.in-Guess.is, sym c.input-input-in-Guess.ensures) (taken_goes c.args.scripts.now start es c.args.replay.now c.take_entry-in-Guess.new.replay r n c.take_entry-in-Guess.result c.take_entry-in-Guess.ensures.ok c.take_entry-in-Guess.ensures.err)
