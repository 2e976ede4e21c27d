-- By what each call ensures.
use Rattle.sk_client.proofs.Steps.Kept.Facts.Held.Kernels.{was_booted, after_step, after_guess, after_commit, after_fail, after_hand_in, after_epoch}
use Rattle.sk_client.proofs.laws.ready.Goals as goal

pub returns : goal.returns
returns c = record {
  boot = was_booted;
  step = after_step;
  guess = after_guess;
  commit = after_commit;
  fail = after_fail;
  hand_in = after_hand_in;
  new_epoch = after_epoch;
}
