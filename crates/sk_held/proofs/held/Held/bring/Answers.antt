-- The output that was taken out is pushed.
use Rattle.sk_held.proofs.Names.{rules, ◌≡◌, false, [], ◌∷◌, ◌++◌, None, refl, ap, sym, ◌∙◌, subst, is_some, byte_deed}
use Rattle.sk_held.proofs.Names.{HeldView, first_of, MayBring}
use mathlib.Core.Logic.{inl}
use Rattle.sk_held.proofs.Outputs.{none_shown, pushed}
use Rattle.sk_held.proofs.held.Held.bring.Goals as goal

pub returns-in-Some-clause-brings : goal.returns-in-Some-clause-brings
returns-in-Some-clause-brings c =
    let no : is_some c.first_of.result ≡ false = search rules in
    let none : first_of c.args.channel c.self.inside.out.items ≡ None = ap (first_of c.args.channel) (sym c.as_slice.ensures.value) ∙ none_shown c.first_of.result _ c.first_of.ensures no in
    let items : c.push_reserved.new.self.items ≡ c.self.inside.out.items ++ record { channel = c.args.channel; bytes = c.in-Some.bytes } ∷ [] = search rules in
    subst (λ (h : HeldView). MayBring h c.args.channel (record { kernel = c.released.new.self; step = byte_deed c.self.inside.step; out = c.push_reserved.new.self.items })) c.self.view_is
    (inl (
      none,
      record {
        output = c.in-Some.bytes;
        takes = record { first = c.in-Some.ensures.first; others = c.in-Some.ensures.others; same = c.in-Some.ensures.same };
        stays = λ i. record { kernel = c.released.new.self; step = byte_deed c.self.inside.step; out = items i };
      },
    ))

pub returns-in-Some-clause-none : goal.returns-in-Some-clause-none
returns-in-Some-clause-none c = λ none.
    let items : c.push_reserved.new.self.items ≡ c.self.inside.out.items ++ record { channel = c.args.channel; bytes = c.in-Some.bytes } ∷ [] = search rules in
    pushed c.args.channel c.self.inside.out.items (record { channel = c.args.channel; bytes = c.in-Some.bytes }) refl (ap (first_of c.args.channel) (sym items) ∙ none)
