-- The new store has the entries, and the head is in the room.
use Rattle.sk_reopened.proofs.Names.{rules, ◌≡◌, ◌+◌, ◌++◌, [], drop, map, sym, ap, subst, ◌∙◌, frame, Sealed, Entries}
use Rattle.sk_reopened.proofs.Names.{after_works, set_of, restored, Limits, IsNew, head_of, next_of}
use Rattle.sk_reopened.proofs.Filled.{front_has_none}
use Rattle.sk_reopened.proofs.opening.reopen.Goals as goal

pub returns : goal.returns
returns c =
    let limits = c.args.limits in
    let last = c.args.last in
    let entries = c.args.entries.now in
    let first = c.new-store.result in
    let store = c.fill.new.store in
    let room = c.args.room.now in
    let takes : first.limits ≡ limits = c.new-store.ensures.new.takes in
    let is : c.in_ok-head.head ≡ head_of last = c.in_ok-head.ensures.2 in
    let begun : IsNew limits (next_of last) [] first =
    subst (λ (h : Sealed). IsNew limits (record { frame = last.frame + 1; segment = h.segment; offset = 24 }) [] first) is c.new-store.ensures.new in
    let filled : IsNew first.limits (next_of last) (after_works (map set_of entries) []) store =
    c.in_ok-fill.ensures.1 (next_of last) [] (subst (λ (l : Limits). IsNew l (next_of last) [] first) (sym takes) begun) in
    let all : IsNew first.limits (next_of last) entries store =
    subst (λ (es : Entries). IsNew first.limits (next_of last) es store) (restored entries c.requires) filled in
    let made : c.seal.new.room ≡ frame (last.segment + 1) last.frame [] =
    c.seal.ensures ∙ ap (λ p. frame c.in_ok-head.head.segment c.in_ok-head.head.frame p) (front_has_none room)
    ∙ ap (λ (h : Sealed). frame h.segment h.frame []) is in
    record {
      sound = search rules;
      numbers = c.in_ok-head.ensures.0;
      fits = c.in_ok-head.ensures.1;
      named = c.in_ok-fill.ensures.0;
      new = subst (λ (l : Limits). IsNew l (next_of last) entries store) takes all;
      head = is;
      written = ap (λ front. front ++ drop 24 room) made;
    }
