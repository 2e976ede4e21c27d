-- The key is written where it is there and not among those that were.
use Rattle.sk_commands.proofs.Names.{◌≡◌, true, false, ◌&&◌, not, List, ℕ, map, refl, sym, ap, ◌∙◌, is_among, told}
use Rattle.sk_commands.proofs.Placings.{one_gone}
use Rattle.sk_commands.proofs.run.note_gone.Goals as goal

pub returns-in_ok-push : goal.returns-in_ok-push
returns-in_ok-push c = λ has found there e.
    let old = c.args.gone.now in
    let names = map (λ w. w.0) (told old) in
    let is : (c.args.is_there && not (is_among c.args.key.items names)) ≡ true =
    ap (λ (k : List ℕ). c.args.is_there && not (is_among k names)) (sym c.as_slice.ensures.value) ∙ sym c.is_new.ensures ∙ c.if-is_new.true in
    one_gone has c.args.is_there (is_among c.args.key.items names) old c.push.new.self c.args.key found there refl
    (λ t. c.in_ok-push.ensures.ok) (λ t. let wrong : true ≡ false = sym is ∙ t in cc) e

pub returns-else-is_new : goal.returns-else-is_new
returns-else-is_new c = λ has found there e.
    let old = c.args.gone.now in
    let names = map (λ w. w.0) (told old) in
    let is : (c.args.is_there && not (is_among c.args.key.items names)) ≡ false =
    ap (λ (k : List ℕ). c.args.is_there && not (is_among k names)) (sym c.as_slice.ensures.value) ∙ sym c.is_new.ensures ∙ c.if-is_new.false in
    one_gone has c.args.is_there (is_among c.args.key.items names) old old c.args.key found there refl
    (λ t. let wrong : false ≡ true = sym is ∙ t in cc) (λ t. refl) e
