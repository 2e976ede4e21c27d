-- The list at the place is the guess's, or there is none.
use Rattle.sk_terminal.proofs.Names.{◌≡◌, ◌<◌, ◌≤◌, length, refl, sym, ◌∙◌, ap, subst, arith, prefix_len, is_listed}
use Rattle.sk_terminal.proofs.Names.{AreTidy}
use Rattle.sk_terminal.proofs.Listed.{is_other, found, missing, none_listed, removed_other, tidy_removed, gone}
use Rattle.sk_terminal.proofs.listing.take_list.Goals as goal

pub returns-then-place-len : goal.returns-then-place-len
returns-then-place-len c =
    let ls = c.args.lists.now.items in
    let long = ap length c.as_slice.ensures.value in
    let counted = c.as_slice.ensures.len in
    let all = c.len.ensures in
    let past = c.if-place-len.true in
    let le : length ls ≤ c.place_of-place.result = omega arith in
    let place : c.place_of-place.result ≡ prefix_len (is_other c.args.guess) ls =
    c.place_of-place.ensures ∙ ap (prefix_len (is_other c.args.guess)) c.as_slice.ensures.value in
    let none = none_listed c.args.guess ls (missing c.args.guess c.place_of-place.result ls place le) in
    record { taken = none; gone = none; others = λ g t apart. refl; tidy = c.requires }

pub returns : goal.returns
returns c =
    let ls = c.args.lists.now.items in
    let at = c.place_of-place.result in
    let long = ap length c.as_slice.ensures.value in
    let counted = c.as_slice.ensures.len in
    let all = c.len.ensures in
    let before = c.if-place-len.false in
    let lt : at < length ls = omega arith in
    let place : at ≡ prefix_len (is_other c.args.guess) ls =
    c.place_of-place.ensures ∙ ap (prefix_len (is_other c.args.guess)) c.as_slice.ensures.value in
    let left = c.remove.ensures.items in
    record {
      taken = found c.args.guess at ls c.remove.result place lt c.remove.ensures.value;
      gone = λ t. ap (is_listed c.args.guess t) left ∙ none_listed c.args.guess _ (gone c.args.guess at ls place lt c.requires) t;
      others = λ g t apart. ap (is_listed g t) left ∙ removed_other c.args.guess g at t ls place lt apart;
      tidy = subst AreTidy (sym left) (tidy_removed at ls lt c.requires);
    }
