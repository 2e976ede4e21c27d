-- A number that is there is one more; else it is made as one.
use Rattle.sk_undo.proofs.Cites.{◌≡◌, ◌+◌, Some, None, sym, ap, subst, ◌∙◌, OnOk, option_copied_mut, unwrap_or, object_cmp}
use Rattle.std.specs.FinMap as map
use Rattle.sk_map.specs.Seen.{seen}
use Rattle.sk_undo.proofs.NameCounts.{one_put}
use Rattle.sk_undo.proofs.names.Names.put_one.Goals as goal

pub returns-in-Some-clause-ok : goal.returns-in-Some-clause-ok
returns-in-Some-clause-ok c =
    let d = c.args.directory.now in
    let had : Some c.in-Some.count.now ≡ map.get c.args.self.now d = sym (ap option_copied_mut c.in-Some.is) ∙ c.get_mut.ensures.value ∙ ap (λ m. map.get m d) c.self.view_is in
    (rw c.in-Some.is at (c.get_mut.follows.holds (c.in-Some.count.now + 1)))
    ∙ ap (λ m. map.insert m d (c.in-Some.count.now + 1)) c.self.view_is
    ∙ ap (λ o. map.insert c.args.self.now d (unwrap_or o 0 + 1)) had
    ∙ sym (one_put c.args.self.now d)

pub returns-clause-ok : goal.returns-clause-ok
returns-clause-ok c =
    let d = c.args.directory.now in
    let none : map.get c.args.self.now d ≡ None = sym (c.get_mut.ensures.value ∙ ap (λ m. map.get m d) c.self.view_is) ∙ ap option_copied_mut c.in_default.is in
    subst (λ m. OnOk c.put.result (seen object_cmp c.put.new.self ≡ m))
    (ap (λ m. map.insert m d 1) (ap (seen object_cmp) c.get_mut.follows.holds-at-none ∙ c.self.view_is)
    ∙ sym (ap (λ o. map.insert c.args.self.now d (unwrap_or o 0 + 1)) none)
    ∙ sym (one_put c.args.self.now d)) c.put.ensures.ok
