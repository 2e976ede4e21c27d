-- The tags of the newest note are those that are seen of it.
use Rattle.sk_slots.proofs.Names.{◌≡◌, [], None, Some, Was, true, false, sym, ◌∙◌, ap, true≢false, same_tags, newest_tags, SlotView, without_ready}
use Rattle.sk_slots.proofs.Names.{goes_unnoted}
use Rattle.sk_slots.proofs.Undoing.{newest_more, seen_tags}
use Rattle.sk_slots.proofs.slot.Slot.prepare.Goals as goal

pub returns-then-goes_unnoted-clause-ok : goal.returns-then-goes_unnoted-clause-ok
returns-then-goes_unnoted-clause-ok g c = λ off.
    let tags = c.args.tags.now in
    let ks = without_ready c.self.inside.has_ready c.self.inside.log.items in
    let base = c.noted.ensures ∙ ap (without_ready c.self.inside.has_ready) c.as_slice.ensures.value in
    let on : same_tags tags (newest_tags [] ks) ≡ true = ap (λ xs. same_tags tags (newest_tags [] xs)) (sym base) ∙ sym c.goes_unnoted.ensures ∙ c.if-goes_unnoted.true in
    absurd (true≢false (sym (ap (same_tags tags) (seen_tags g.I.Inversion.undone c.self.inside.value [] ks) ∙ on) ∙ ap (λ (s : SlotView _). goes_unnoted tags s.log) c.self.view_is ∙ off))

pub returns-in_err-own-clause-room : goal.returns-in_err-own-clause-room
returns-in_err-own-clause-room g c = λ on.
    let tags = c.args.tags.now in
    let ks = without_ready c.self.inside.has_ready c.self.inside.log.items in
    let base = c.noted.ensures ∙ ap (without_ready c.self.inside.has_ready) c.as_slice.ensures.value in
    let off : same_tags tags (newest_tags [] ks) ≡ false = ap (λ xs. same_tags tags (newest_tags [] xs)) (sym base) ∙ sym c.goes_unnoted.ensures ∙ c.if-goes_unnoted.false in
    absurd (true≢false (sym on ∙ ap (λ (s : SlotView _). goes_unnoted tags s.log) (sym c.self.view_is) ∙ ap (same_tags tags) (seen_tags g.I.Inversion.undone c.self.inside.value [] ks) ∙ off))

pub returns-in_err-reserve-clause-room : goal.returns-in_err-reserve-clause-room
returns-in_err-reserve-clause-room g c = λ on.
    let tags = c.args.tags.now in
    let ks = without_ready c.self.inside.has_ready c.self.inside.log.items in
    let base = c.noted.ensures ∙ ap (without_ready c.self.inside.has_ready) c.as_slice.ensures.value in
    let off : same_tags tags (newest_tags [] ks) ≡ false = ap (λ xs. same_tags tags (newest_tags [] xs)) (sym base) ∙ sym c.goes_unnoted.ensures ∙ c.if-goes_unnoted.false in
    absurd (true≢false (sym on ∙ ap (λ (s : SlotView _). goes_unnoted tags s.log) (sym c.self.view_is) ∙ ap (same_tags tags) (seen_tags g.I.Inversion.undone c.self.inside.value [] ks) ∙ off))

pub returns-clause-ok : goal.returns-clause-ok
returns-clause-ok g c = λ _. ap (λ ns. Some (newest_tags [] ns)) c.push_reserved.ensures.items ∙ ap Some (newest_more [] c.let_go.new.log.items (record { tags = c.in_ok-own.own; before = Was None }) ∙ c.in_ok-own.ensures)

pub returns-clause-kept : goal.returns-clause-kept
returns-clause-kept g c = λ _ _. ap (λ ns. Some (newest_tags [] ns)) c.push_reserved.ensures.items ∙ ap Some (newest_more [] c.let_go.new.log.items (record { tags = c.in_ok-own.own; before = Was None }) ∙ c.in_ok-own.ensures)

pub returns-then-goes_unnoted-clause-same : goal.returns-then-goes_unnoted-clause-same
returns-then-goes_unnoted-clause-same g c =
    let tags = c.args.tags.now in
    let ks = without_ready c.self.inside.has_ready c.self.inside.log.items in
    let base = c.noted.ensures ∙ ap (without_ready c.self.inside.has_ready) c.as_slice.ensures.value in
    let on : same_tags tags (newest_tags [] ks) ≡ true = ap (λ xs. same_tags tags (newest_tags [] xs)) (sym base) ∙ sym c.goes_unnoted.ensures ∙ c.if-goes_unnoted.true in
    sym (ap (same_tags tags) (seen_tags g.I.Inversion.undone c.self.inside.value [] ks) ∙ on)
    ∙ ap (λ (s : SlotView _). goes_unnoted tags s.log) c.self.view_is

pub returns-clause-same : goal.returns-clause-same
returns-clause-same g c =
    let tags = c.args.tags.now in
    let ks = without_ready c.self.inside.has_ready c.self.inside.log.items in
    let base = c.noted.ensures ∙ ap (without_ready c.self.inside.has_ready) c.as_slice.ensures.value in
    let off : same_tags tags (newest_tags [] ks) ≡ false = ap (λ xs. same_tags tags (newest_tags [] xs)) (sym base) ∙ sym c.goes_unnoted.ensures ∙ c.if-goes_unnoted.false in
    sym (ap (same_tags tags) (seen_tags g.I.Inversion.undone c.self.inside.value [] ks) ∙ off)
    ∙ ap (λ (s : SlotView _). goes_unnoted tags s.log) c.self.view_is
