use Rattle.threads_tests.proofs.Names.{refl, distinct}
use Rattle.threads_tests.proofs.books.stays_open_elsewhere.Goals as goal

pub close-requires-clause-distinct : goal.close-requires-clause-distinct
close-requires-clause-distinct g c = distinct 2 c.book_of-book.result.1.items c.book_of-book.result.1.items c.book_of-book.ensures refl
