-- The new text's number is at least those before it.
use Rattle.sk_terminal.proofs.Names.{List, refl, sym, ◌∙◌, ap, subst, has, TaggedText, AreBounded, Held}
use Rattle.sk_terminal.proofs.HeldTexts.{bounded_more}
use Rattle.sk_terminal.proofs.terminal.Terminal.say_lent.Goals as goal

pub invariant_of-self-2 : goal.invariant_of-self-2
invariant_of-self-2 c =
    let n = c.newest_of-newest.result in
    let x : Held = record { said = c.new-said.result; newest = n } in
    record {
      held = c.release.ensures.held;
      fits = c.release.ensures.room;
      bounds = c.release.ensures.bounds n (subst (λ (xs : List Held). AreBounded 0 xs n) (sym c.in_ok-push.ensures.items)
          (bounded_more 0 c.self.inside.newest n c.self.inside.waiting.items x c.self.invariant.bounds c.newest_of-newest.ensures.above refl
          (λ g here. c.newest_of-newest.ensures.tags g (sym (ap (λ (s : TaggedText). has g s.1) c.new-said.ensures) ∙ here))));
    }
