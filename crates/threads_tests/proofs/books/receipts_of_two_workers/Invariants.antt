use Rattle.threads_tests.proofs.books.receipts_of_two_workers.Given as goal

abbrev pub ghosts-two_work : goal.ghosts-two_work
ghosts-two_work g a = record { name = a.blank.name; parts = a.blank.parts }
