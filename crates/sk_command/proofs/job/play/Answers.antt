-- The flags are added in turn, none of which is a global argument.
use Rattle.sk_command.proofs.Names.{◌∙◌, ap₂, Bool, ◌||◌, IfOk-weaker, with_rule}
use Rattle.sk_command.proofs.job.play.Goals as goal

pub returns-clause-app : goal.returns-clause-app
returns-clause-app c =
    let first = c.in_ok-arg.ensures.shape c.flag.ensures.local ∙ ap₂ with_rule c.in_ok-of_file.ensures.app c.flag.ensures.rule in
    let second = c.in_ok-arg-2.ensures.shape c.flag-2.ensures.local ∙ ap₂ with_rule first c.flag-2.ensures.rule in
    let third = c.in_ok-arg-3.ensures.shape c.flag-3.ensures.local ∙ ap₂ with_rule second c.flag-3.ensures.rule in
    let fourth = c.in_ok-arg-4.ensures.shape c.flag-4.ensures.local ∙ ap₂ with_rule third c.flag-4.ensures.rule in
    IfOk-weaker c.arg-5.result _ _ (λ command adds. adds.shape c.flag-5.ensures.local ∙ ap₂ with_rule fourth c.flag-5.ensures.rule) c.arg-5.ensures

pub returns-clause-local : goal.returns-clause-local
returns-clause-local c =
    let or = λ (a b : Bool). a || b in
    let first = c.in_ok-arg.ensures.globals ∙ ap₂ or c.in_ok-of_file.ensures.local c.flag.ensures.local in
    let second = c.in_ok-arg-2.ensures.globals ∙ ap₂ or first c.flag-2.ensures.local in
    let third = c.in_ok-arg-3.ensures.globals ∙ ap₂ or second c.flag-3.ensures.local in
    let fourth = c.in_ok-arg-4.ensures.globals ∙ ap₂ or third c.flag-4.ensures.local in
    IfOk-weaker c.arg-5.result _ _ (λ command adds. adds.globals ∙ ap₂ or fourth c.flag-5.ensures.local) c.arg-5.ensures
