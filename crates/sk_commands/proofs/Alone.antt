-- What keys are known changes nothing for what is not told of all.
use Rattle.sk_commands.proofs.Names.{◌≡◌, ℕ, false, List, [], ◌∷◌, refl, ap, ◌∙◌, list_any, Command, Work}
use Rattle.sk_commands.proofs.Names.{is_told_of_all, outcome, Have, after, answered, comes_to, each, followed}
use Rattle.sk_commands.proofs.Names.{known_after, wants_all, or_parts}
use Rattle.sk_commands.specs.declared.work.Work.TheVariants as works
use Rattle.sk_commands.specs.declared.work.Answer.TheVariants as answers
use Rattle.sk_commands.proofs.Queued.{alone}

each_alone : (cs : List Command) (known others : List (List ℕ)) (has : Have) → list_any is_told_of_all cs ≡ false → each known cs has ≡ each others cs has
each_alone [] known others has h = refl
each_alone (c ∷ cs) known others has h =
    let both = or_parts (is_told_of_all c) (list_any is_told_of_all cs) h in
    let one = outcome others c has in
    ap (λ o. followed o (each (known_after o.written known) cs (after o.written has))) (alone c known others has both.0)
    ∙ ap (followed one) (each_alone cs (known_after one.written known) (known_after one.written others) (after one.written has) both.1)

pub work_alone : (w : Work) (known others : List (List ℕ)) (has : Have) → wants_all w ≡ false → comes_to known w has ≡ comes_to others w has
work_alone (works.Say reply) known others has h = refl
work_alone (works.One c) known others has h = ap (answered answers.One) (alone c known others has h)
work_alone (works.Each cs) known others has h = ap (answered answers.Each) (each_alone cs known others has h)
