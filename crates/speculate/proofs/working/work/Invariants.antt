use Rattle.speculate.proofs.working.work.Given as goal

abbrev pub ghosts-run_crew : goal.ghosts-run_crew
ghosts-run_crew g a = record { name = a.blank.name; parts = a.blank.parts }
