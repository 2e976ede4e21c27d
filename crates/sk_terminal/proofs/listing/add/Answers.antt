-- One list has one terminal more, or there is one list more.
use Rattle.sk_terminal.proofs.Names.{◌<◌, ◌≤◌, ◌++◌, ◌∷◌, [], List, length, refl, sym, ◌∙◌, ap, subst, arith, or_right}
use Rattle.sk_terminal.proofs.Names.{eq-eqb, Listing, is_listed, AreTidy}
use Rattle.sk_terminal.proofs.Listed.{missing, on_err_given, set_listed, same_set, tidy_set, some_at, some_there}
use Rattle.sk_terminal.proofs.Listed.{push_listed, tidy_push}
use Rattle.sk_terminal.proofs.listing.add.Goals as goal

pub returns-in_err-add-clause-err : goal.returns-in_err-add-clause-err
returns-in_err-add-clause-err c =
    let ls = c.args.lists.now.items in
    let all = c.len.ensures in
    let before = c.if-place-len.true in
    let lt : c.args.place < length ls = omega arith in
    on_err_given c.from_residual.result (same_set c.args.place ls c.index_mut.result.now _ lt c.index_mut.ensures.value refl c.in_err-add.ensures.err)

pub returns-in_err-add-clause-tidy : goal.returns-in_err-add-clause-tidy
returns-in_err-add-clause-tidy c =
    let ls = c.args.lists.now.items in
    let all = c.len.ensures in
    let before = c.if-place-len.true in
    let lt : c.args.place < length ls = omega arith in
    let some : 0 < length c.add.new.self = subst (λ ts. 0 < length ts) (sym c.in_err-add.ensures.err) (some_at c.args.place ls c.index_mut.result.now lt c.index_mut.ensures.value c.requires.tidy) in
    tidy_set c.args.place ls c.index_mut.result.now _ lt c.index_mut.ensures.value refl some c.requires.tidy

pub returns-then-place-len : goal.returns-then-place-len
returns-then-place-len c =
    let ls = c.args.lists.now.items in
    let number = c.args.number in
    let all = c.len.ensures in
    let before = c.if-place-len.true in
    let lt : c.args.place < length ls = omega arith in
    let here = c.index_mut.ensures.value in
    let more = c.in_ok-add.ensures.ok in
    let some : 0 < length c.add.new.self = some_there number c.add.new.self (more number ∙ or_right _ _ (eq-eqb number number refl)) in
    record {
      ok = set_listed c.args.guess c.args.place number ls c.index_mut.result.now _ c.requires.place lt here refl more;
      err = tt;
      tidy = tidy_set c.args.place ls c.index_mut.result.now _ lt here refl some c.requires.tidy;
    }

pub returns : goal.returns
returns c =
    let ls = c.args.lists.now.items in
    let new : Listing = record { guess = c.args.guess; terminals = c.in_ok-terminals.terminals } in
    let all = c.len.ensures in
    let past = c.if-place-len.false in
    let le : length ls ≤ c.args.place = omega arith in
    let none = missing c.args.guess c.args.place ls c.requires.place le in
    let one = c.in_ok-terminals.ensures in
    let items = c.push_reserved.ensures.items ∙ ap (λ (all : List Listing). all ++ new ∷ []) c.reserve.ensures.items in
    let some : 0 < length c.in_ok-terminals.terminals = subst (λ ts. 0 < length ts) (sym one) (omega arith) in
    record {
      ok = λ g t. ap (is_listed g t) items ∙ push_listed c.args.guess c.args.number ls new none refl one g t;
      err = tt;
      tidy = subst AreTidy (sym items) (tidy_push ls new c.requires.tidy none some);
    }
