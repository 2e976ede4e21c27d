-- What is settled stays settled, and the record is what an event makes of it.
use Rattle.sk_plain.proofs.Cites.{◌≡◌, ℕ, zero, suc, ◌+◌, arith, Bool, true, false, not, cond, ◌||◌, ◌&&◌, inl, inr}
use Rattle.sk_plain.proofs.Cites.{List, [], ◌∷◌, ◌++◌, take, drop, Option, Some, None, refl, sym, ◌∙◌, ap, subst}
use Rattle.sk_plain.proofs.Cites.{filter, prefix_len, or_parts, or_from, or_cases, eqb-true, true≢false}
use Rattle.sk_plain.proofs.Cites.{false_from_ne_true, ◌==◌, OnOk, and_both, list_any-append, is_marked, run, effects}
use Rattle.sk_plain.proofs.Cites.{strike, has, without, marks, still_marked, has_filter, run_append, marked_is, mark_is}
use Rattle.sk_plain.proofs.Cites.{State, EntryView, Input, Scripts, plain, is_made, Standing, seen, is_settled}
use Rattle.sk_plain.proofs.Cites.{is_other, Stands, GoesOn, Settles, filter_alike}
use Rattle.std.proofs.Common.{append_assoc}
use Rattle.std.specs.Prelude.{Result, Ok, Err}
use Rattle.sk_trace.specs.declared.event.Event.TheVariants as events
use Rattle.sk_plain.proofs.Behind.{strike_behind}

-- entries before the first that made one of these guesses made none of them
abbrev named : List ℕ → Option ℕ → Bool
named gs None = false
named gs (Some g) = has g gs

other_mark : (gs : List ℕ) (m : Option ℕ) (g : ℕ) → is_other gs m ≡ true → has g gs ≡ true → is_marked m g ≡ false
other_mark gs None g other here = refl
other_mark gs (Some h) g other here =
    false_from_ne_true _ (λ is.
    let same : has h gs ≡ true = subst (λ (o : Option ℕ). named gs o ≡ true) (sym (mark_is (Some h) g is)) here in
    true≢false (sym other ∙ ap not same))

settled_front : (gs : List ℕ) (ns : List EntryView) (g : ℕ) → has g gs ≡ true → is_made (take (prefix_len (is_settled gs) ns) ns) g ≡ false
settled_front gs [] g here = refl
settled_front gs (n ∷ ns) g here =
    elim (is_settled gs n) as (λ b. is_settled gs n ≡ b → is_made (take (cond b (1 + prefix_len (is_settled gs) ns) 0) (n ∷ ns)) g ≡ false) [
      | true ↦ λ is.
          let next : 1 + prefix_len (is_settled gs) ns ≡ suc (prefix_len (is_settled gs) ns) = omega arith in
          ap (λ k. is_made (take k (n ∷ ns)) g) next ∙ or_from _ _ (other_mark gs n.guess g is here) (settled_front gs ns g here)
      | false ↦ λ _. refl
    ] refl

made_both : (ns ms : List EntryView) (g : ℕ) → is_made (ns ++ ms) g ≡ (is_made ns g || is_made ms g)
made_both ns ms g = list_any-append (λ n. is_marked n.guess g) ns ms

parts_again : (n : ℕ) (xs : List EntryView) → take n xs ++ drop n xs ≡ xs
parts_again zero xs = refl
parts_again (suc n) [] = refl
parts_again (suc n) (x ∷ xs) = ap (λ rest. x ∷ rest) (parts_again n xs)

pub settles : (scripts : Scripts) (old new : Standing) (count : ℕ) → count ≡ prefix_len (is_settled old.undecided.items) old.behind.items
    → new.settled.items ≡ old.settled.items ++ take count old.behind.items
    → new.behind.items ≡ drop count old.behind.items
    → new.after ≡ run (plain scripts) old.after (take count old.behind.items)
    → new.undecided.items ≡ old.undecided.items
    → Settles scripts old new
settles scripts old new count is settled behind after undecided start stands =
    let front = take count old.behind.items in (
      record {
        after =
            after
            ∙ ap (λ (s : State). run (plain scripts) s front) stands.after
            ∙ sym (run_append (plain scripts) start old.settled.items front)
            ∙ ap (run (plain scripts) start) (sym settled);
        unmade = λ g here.
            let there : has g old.undecided.items ≡ true = ap (has g) (sym undecided) ∙ here in
            let none : is_made front g ≡ false = ap (λ n. is_made (take n old.behind.items) g) is ∙ settled_front old.undecided.items old.behind.items g there in
            ap (λ ns. is_made ns g) settled ∙ made_both old.settled.items front g ∙ or_from _ _ (stands.unmade g there) none;
      },
      let whole : new.settled.items ++ new.behind.items ≡ old.settled.items ++ old.behind.items =
          (λ i. settled i ++ behind i)
          ∙ append_assoc old.settled.items front (drop count old.behind.items)
          ∙ ap (λ ns. old.settled.items ++ ns) (parts_again count old.behind.items) in
          λ i. record { entries = whole i; undecided = undecided i },
    )

pub fails : (scripts : Scripts) (old new : Standing) (g : ℕ)
    → new.settled.items ≡ old.settled.items
    → new.after ≡ old.after
    → new.behind.items ≡ strike (plain scripts) old.after old.behind.items g
    → new.undecided.items ≡ filter (is_made new.behind.items) old.undecided.items
    → GoesOn scripts (events.Fail g) old new
fails scripts old new g settled after behind undecided start stands fits =
    let K = plain scripts in
    let ns = old.settled.items in
    let ms = old.behind.items in
    let now : old.after ≡ run K start ns = stands.after in
    let entries : new.settled.items ++ new.behind.items ≡ strike K start (ns ++ ms) g =
    (λ i. settled i ++ behind i)
    ∙ ap (λ (s : State). ns ++ strike K s ms g) now
    ∙ sym (strike_behind scripts start ns ms g (stands.unmade g fits)) in
    let kept : (h : ℕ) → has h old.undecided.items ≡ true → is_made new.behind.items h ≡ still_marked (effects K start (strike K start (ns ++ ms) g)) h =
    λ h here.
    sym (ap (λ b. b || is_made new.behind.items h) (ap (λ xs. is_made xs h) settled ∙ stands.unmade h here))
    ∙ sym (made_both new.settled.items new.behind.items h)
    ∙ ap (λ xs. is_made xs h) entries
    ∙ sym (marked_is K start start (strike K start (ns ++ ms) g) h) in
    let left : new.undecided.items ≡ filter (still_marked (effects K start (strike K start (ns ++ ms) g))) old.undecided.items =
    undecided ∙ filter_alike (is_made new.behind.items) (still_marked (effects K start (strike K start (ns ++ ms) g))) old.undecided.items kept in (
      record {
        after = after ∙ now ∙ ap (run K start) (sym settled);
        unmade = λ h here.
            let both : (is_made new.behind.items h && has h old.undecided.items) ≡ true =
            sym (has_filter (is_made new.behind.items) h old.undecided.items) ∙ ap (has h) (sym undecided) ∙ here in
            ap (λ xs. is_made xs h) settled ∙ stands.unmade h (and_both _ _ both).1;
      },
      λ i. record { entries = entries i; undecided = left i },
    )

-- an entry more
pub adds : (scripts : Scripts) (old new : Standing) (n : EntryView)
    → new.settled.items ≡ old.settled.items
    → new.after ≡ old.after
    → new.behind.items ≡ old.behind.items ++ n ∷ []
    → new.undecided.items ≡ old.undecided.items ++ marks n.guess
    → ((g : ℕ) → has g (marks n.guess) ≡ true → is_made (seen old).entries g ≡ false)
    → (start : State) → Stands scripts start old
    → Stands scripts start new × (seen new ≡ record { entries = (seen old).entries ++ n ∷ []; undecided = (seen old).undecided ++ marks n.guess })
adds scripts old new n settled after behind undecided fresh start stands = (
  record {
    after = after ∙ stands.after ∙ ap (run (plain scripts) start) (sym settled);
    unmade = λ g here.
        ap (λ xs. is_made xs g) settled
        ∙ elim (or_cases _ _ (sym (list_any-append (λ t. t == g) old.undecided.items (marks n.guess)) ∙ ap (has g) (sym undecided) ∙ here)) [
          | inl before ↦ stands.unmade g before
          | inr own ↦ (or_parts _ _ (sym (made_both old.settled.items old.behind.items g) ∙ fresh g own)).0
        ];
  },
  let entries : new.settled.items ++ new.behind.items ≡ (old.settled.items ++ old.behind.items) ++ n ∷ [] =
      (λ i. settled i ++ behind i) ∙ sym (append_assoc old.settled.items old.behind.items (n ∷ [])) in
      λ i. record { entries = entries i; undecided = undecided i },
)

none_marked : (g : ℕ) → has g [] ≡ true → ⊥
none_marked g here = true≢false (sym here)

own_mark : (old : Standing) (id g : ℕ) → is_made (seen old).entries id ≡ false → has g (marks (Some id)) ≡ true → is_made (seen old).entries g ≡ false
own_mark old id g fresh here =
    elim (or_cases _ _ here) [
      | inl is ↦ subst (λ h. is_made (seen old).entries h ≡ false) (eqb-true id g is) fresh
      | inr none ↦ absurd (true≢false (sym none))
    ]

pub steps : (scripts : Scripts) (old new : Standing) (pid : ℕ) (input : Input)
    → new.settled.items ≡ old.settled.items
    → new.after ≡ old.after
    → new.behind.items ≡ old.behind.items ++ record { pid = pid; input = input; guess = None } ∷ []
    → new.undecided.items ≡ old.undecided.items ++ []
    → GoesOn scripts (events.Step pid input) old new
steps scripts old new pid input settled after behind undecided start stands fits =
    adds scripts old new (record { pid = pid; input = input; guess = None }) settled after behind undecided (λ g here. absurd (none_marked g here)) start stands

pub guesses : (scripts : Scripts) (old new : Standing) (id pid : ℕ) (input : Input)
    → new.settled.items ≡ old.settled.items
    → new.after ≡ old.after
    → new.behind.items ≡ old.behind.items ++ record { pid = pid; input = input; guess = Some id } ∷ []
    → new.undecided.items ≡ old.undecided.items ++ id ∷ []
    → GoesOn scripts (events.Guess id pid input) old new
guesses scripts old new id pid input settled after behind undecided start stands fits =
    adds scripts old new (record { pid = pid; input = input; guess = Some id }) settled after behind undecided (λ g here. own_mark old id g fits here) start stands

pub commits : (scripts : Scripts) (old new : Standing) (id : ℕ)
    → new.settled.items ≡ old.settled.items
    → new.after ≡ old.after
    → new.behind.items ≡ old.behind.items
    → new.undecided.items ≡ without id old.undecided.items
    → GoesOn scripts (events.Commit id) old new
commits scripts old new id settled after behind undecided start stands fits = (
  record {
    after = after ∙ stands.after ∙ ap (run (plain scripts) start) (sym settled);
    unmade = λ g here.
        let both : (not (g == id) && has g old.undecided.items) ≡ true =
        sym (has_filter (λ t. not (t == id)) g old.undecided.items) ∙ ap (has g) (sym undecided) ∙ here in
        ap (λ xs. is_made xs g) settled ∙ stands.unmade g (and_both _ _ both).1;
  },
  λ i. record { entries = settled i ++ behind i; undecided = undecided i },
)

-- ---- what a call that ended well says
pub on_two : {A F P Q R : Type 0} (r : Result A F) → OnOk r P → OnOk r Q → (P → Q → R) → OnOk r R
on_two (Ok x) p q f = f p q
on_two (Err why) p q f = tt
