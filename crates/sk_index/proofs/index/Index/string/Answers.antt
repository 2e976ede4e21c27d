-- The string in the place of its number.
use Rattle.sk_index.proofs.Names.{Some, sym, ap, ◌∙◌, option_map, Vec, string_of}
use Rattle.sk_index.proofs.Strings.{at, string_at}
use Rattle.sk_index.proofs.index.Index.string.Goals as goal

pub returns-in-Some : goal.returns-in-Some
returns-in-Some c =
    ap Some c.as_slice.ensures.value
    ∙ ap (option_map (λ (v : Vec _). v.items)) c.in-Some.ensures
    ∙ ap (λ n. option_map (λ (v : Vec _). v.items) (at c.self.inside.strings.slots n)) c.place.ensures
    ∙ sym (string_at c.self.inside.strings.slots c.args.number)
    ∙ ap (λ es. string_of es c.args.number) c.self.view_is

pub returns-in-None : goal.returns-in-None
returns-in-None c =
    ap (option_map (λ (v : Vec _). v.items)) c.in-None.ensures
    ∙ ap (λ n. option_map (λ (v : Vec _). v.items) (at c.self.inside.strings.slots n)) c.place.ensures
    ∙ sym (string_at c.self.inside.strings.slots c.args.number)
    ∙ ap (λ es. string_of es c.args.number) c.self.view_is
