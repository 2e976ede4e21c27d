-- What is told of no list is the same for each.
use Rattle.sk_plain_store.proofs.Names.{map, sym, ◌∙◌, vec_items, work_alone, held, keys_of}
use Rattle.sk_plain_store.proofs.store.PlainStore.known_to.Goals as goal

pub returns : goal.returns
returns c =
    work_alone c.args.work.now (map vec_items c.new.result.items) (keys_of c.args.self.now) (held c.args.self.now)
    (sym c.is_told_of_all.ensures ∙ c.if-is_told_of_all.false)
