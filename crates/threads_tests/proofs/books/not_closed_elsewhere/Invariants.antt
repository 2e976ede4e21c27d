use Rattle.threads_tests.proofs.books.not_closed_elsewhere.Given as goal

abbrev pub ghosts-stays_open_elsewhere : goal.ghosts-stays_open_elsewhere
ghosts-stays_open_elsewhere g a = record { name = a.blank.name; parts = a.blank.parts }
