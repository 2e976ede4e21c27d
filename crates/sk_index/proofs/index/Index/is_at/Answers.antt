-- The string in a place.
use Rattle.sk_index.proofs.Names.{same_Some, Some, sym, ap, ◌∙◌, option_map, Vec, bytes_eq-Decides, string_of}
use Rattle.sk_index.proofs.Strings.{string_at, some_none, true_false}
use Rattle.sk_index.proofs.index.Index.is_at.Goals as goal

pub returns-in-Some-clause-yes : goal.returns-in-Some-clause-yes
returns-in-Some-clause-yes c = λ e.
    ap (λ es. string_of es c.args.place) (sym c.self.view_is)
    ∙ string_at c.self.inside.strings.slots c.args.place
    ∙ ap (option_map (λ (v : Vec _). v.items)) (sym c.in-Some.ensures)
    ∙ ap Some (sym c.as_slice.ensures.value
    ∙ (bytes_eq-Decides c.as_slice.result.now c.args.bytes.now).0 (sym c.eq.ensures ∙ e))

pub returns-in-Some-clause-no : goal.returns-in-Some-clause-no
returns-in-Some-clause-no c = λ e is.
    let there =
    ap Some c.as_slice.ensures.value
    ∙ ap (option_map (λ (v : Vec _). v.items)) c.in-Some.ensures
    ∙ sym (string_at c.self.inside.strings.slots c.args.place)
    ∙ ap (λ es. string_of es c.args.place) c.self.view_is ∙ is in
    true_false (sym ((bytes_eq-Decides c.as_slice.result.now c.args.bytes.now).1
    (same_Some c.as_slice.result.now c.args.bytes.now there)) ∙ sym c.eq.ensures ∙ e)

pub returns-in-None-clause-no : goal.returns-in-None-clause-no
returns-in-None-clause-no c = λ e is.
    some_none c.args.bytes.now
    (sym is ∙ ap (λ es. string_of es c.args.place) (sym c.self.view_is)
    ∙ string_at c.self.inside.strings.slots c.args.place
    ∙ ap (option_map (λ (v : Vec _). v.items)) (sym c.in-None.ensures))
