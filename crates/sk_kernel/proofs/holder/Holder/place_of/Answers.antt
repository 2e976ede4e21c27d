-- A guess is held where its token was found, and is not where none was.
use Rattle.sk_kernel.proofs.Names.{rules, ◌≡◌, ◌<◌, ◌≤◌, true, false, Some, get_or, length, sym, ap, ◌∙◌, subst}
use Rattle.sk_kernel.proofs.Names.{slice_get, has, HolderView, ids}
use Rattle.sk_kernel.proofs.Held.{has_at, id_at_get, none_past}
use Rattle.sk_kernel.proofs.holder.Holder.place_of.Goals as goal

pub returns-then-eq-clause-held : goal.returns-then-eq-clause-held
returns-then-eq-clause-held c =
    let one : c.token-item.result ≡ get_or c.self.inside.tokens.items c.loop-place.place c.token-item.result = search rules in
    let within : c.loop-place.place < length c.self.inside.tokens.items = search rules in
    let same : c.token-item.result.id ≡ c.args.id = search rules in
    let at : slice_get (ids c.self.inside.tokens.items) c.loop-place.place ≡ Some c.args.id =
    id_at_get c.self.inside.tokens.items c.loop-place.place c.token-item.result within ∙ ap (λ t. Some t.id) (sym one) ∙ ap Some same in
    sym (subst (λ (h : HolderView). has c.args.id h.held ≡ true) c.self.view_is (has_at (ids c.self.inside.tokens.items) c.loop-place.place c.args.id at))

pub returns-clause-held : goal.returns-clause-held
returns-clause-held c =
    let same : c.deref-token-items.result.now ≡ c.self.inside.tokens.items = search rules in
    let past : length c.deref-token-items.result.now ≤ c.loop-place.place = search rules in
    let none = c.loop-place.invariant ∙ none_past c.args.id c.deref-token-items.result.now c.loop-place.place past in
    sym (subst (λ (h : HolderView). has c.args.id h.held ≡ false) c.self.view_is (subst (λ ts. has c.args.id (ids ts) ≡ false) same none))

pub returns-in-Some-clause-held : goal.returns-in-Some-clause-held
returns-in-Some-clause-held c = sym (has_at c.args.self.now.held c.in-Some.newest c.args.id c.in-Some.ensures)
