use Rattle.sk_workers.proofs.Names.{List, ap, ◌∙◌, subst, MatchOption, HistoryEntry, BookView, AllStand, Disagrees}
use Rattle.sk_workers.proofs.book.Book.disagreement.Goals as goal

pub returns : goal.returns
returns g c =
    subst (λ (h : List HistoryEntry). MatchOption c.disagreement.result (AllStand h c.args.workers.now.items) (λ found. Disagrees h c.args.workers.now.items found.0 found.1))
    (c.as_slice.ensures.value ∙ ap (λ (b : BookView). b.history) c.self.view_is)
    c.disagreement.ensures
