use Rattle.threads_tests.proofs.shares.settled.Given as goal

abbrev pub ghosts-waits_for_the_reply : goal.ghosts-waits_for_the_reply
ghosts-waits_for_the_reply g a = record { name = a.blank.name; parts = a.blank.parts }
