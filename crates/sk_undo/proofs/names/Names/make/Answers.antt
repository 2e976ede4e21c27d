-- A number is made where there was none.
use Rattle.sk_undo.proofs.Cites.{◌≡◌, false, cond, sym, ap, subst, ◌∙◌, rules, OnOk, is_some, object_cmp}
use Rattle.std.specs.FinMap as map
use Rattle.sk_map.specs.Seen.{seen}
use Rattle.sk_undo.proofs.names.Names.make.Goals as goal

pub returns-clause-ok : goal.returns-clause-ok
returns-clause-ok c =
    let d = c.args.directory.now in
    let none : is_some (map.get c.args.self.now d) ≡ false = search rules in
    subst (λ m. OnOk c.put.result (seen object_cmp c.put.new.self ≡ m))
    (ap (λ m. map.insert m d 0) c.self.view_is ∙ sym (ap (λ b. cond b c.args.self.now (map.insert c.args.self.now d 0)) none)) c.put.ensures.ok
