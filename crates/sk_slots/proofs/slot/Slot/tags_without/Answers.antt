-- The notes before the first that depends on the guess are what is left of the log.
use Rattle.sk_slots.proofs.Names.{◌≡◌, [], take, not, has, ◌∙◌, ap, sym, prefix_len}
use Rattle.sk_slots.proofs.Names.{cut, last_tags, seen, SlotView, newest_tags, without_ready}
use Rattle.sk_slots.proofs.Logs.{cut_at}
use Rattle.sk_slots.proofs.Undoing.{seen_front_tags, seen_prefix}
use Rattle.sk_slots.proofs.slot.Slot.tags_without.Goals as goal

pub returns : goal.returns
returns g c =
    let undone = g.I.Inversion.undone in
    let id = c.args.id in
    let v = c.self.inside.value in
    let ns = without_ready c.self.inside.has_ready c.self.inside.log.items in
    let p = c.before_first.result in
    let given = c.noted-log.ensures ∙ ap (without_ready c.self.inside.has_ready) c.as_slice.ensures.value in
    let at = c.before_first.ensures ∙ ap (prefix_len (λ n. not (has id n.tags))) given in
    c.newest_of.ensures ∙ ap (λ log. newest_tags [] (take p log)) given ∙ sym (seen_front_tags undone v [] p ns)
    ∙ ap (last_tags []) (cut_at id (seen undone v ns) p (at ∙ sym (seen_prefix undone id v ns)))
    ∙ ap (λ (s : SlotView _). last_tags [] (cut id s.log)) c.self.view_is
