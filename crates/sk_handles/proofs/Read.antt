-- A piece of a segment that came.
use Rattle.sk_handles.proofs.Names.{◌≡◌, ℕ, List, [], ◌∷◌, ◌++◌, length, refl, sym, ap, subst, ◌∙◌, inl, inr, Entries}
use Rattle.sk_handles.proofs.Names.{HasRecovered, IsWithin, Head, Recovered, Segment, Stage, next_number, Comes}
use Rattle.sk_handles.proofs.Names.{GoesTo, HoldsFrom, Holds, Leaves, Lets, Reading, left_by, zeros_of, ◌+◌, ◌<◌, Option, Some, None}
use Rattle.sk_handles.proofs.Names.{IfSome, Bool, true, false, ◌==◌, ◌-◌, if◌then◌else◌, is_some, capped, eq-eqb, eqb-true, used, used_is}
use Rattle.sk_handles.proofs.Names.{zeros_by, UsesFront}
use Rattle.sk_handles.specs.declared.reading.Stage.TheVariants as stages
use Rattle.sk_handles.specs.declared.reading.Way.TheVariants as ways

-- where one stage is known so much as of another
abbrev pub Closes : ℕ → Stage → Stage → Type 0
Closes first before stage = (start : Entries) (heads : List Head) (bytes : List (List ℕ)) (left : ℕ) → HoldsFrom first before start heads bytes left
    → HoldsFrom first stage start heads bytes left

-- the number of the segment that is next, as what came tells it
pub next_is : (start : Entries) (first : ℕ) (heads : List Head) (bytes : List (List ℕ)) (left : ℕ) (read : Recovered)
    → HasRecovered start first heads bytes left read → next_number read.heads read.opened ≡ next_number heads (length bytes)
next_is start first heads bytes left read has = ap (λ n. next_number read.heads n) has.opened ∙ ap (λ hs. next_number hs (length bytes)) has.heads_are

-- it is joined to the segment that comes, or is the first of the next
pub takes : (segment : ℕ) (piece : List ℕ) (old : Reading) (stage : Stage) (s after : Segment)
    → Closes old.first old.stage stage → GoesTo old.segment segment stage (ways.On s)
    → ((start : Entries) (number : ℕ) (heads : List Head) (bytes : List (List ℕ)) (left : ℕ) (came : List ℕ)
    → IsWithin start number heads bytes left came s → IsWithin start number heads bytes left (came ++ piece) after)
    → (start : Entries) (heads : List Head) (bytes : List (List ℕ)) (left : ℕ) → Holds old start heads bytes left
    → let new : Reading = record old { stage = stages.Within after; segment = segment } in
    (more : List (List ℕ)) × (more_left : ℕ) × Comes segment piece old new heads bytes left more more_left × Holds new start heads more more_left
takes segment piece old stage s after closes (inl (same, is)) feeds start heads bytes left holds =
    let here = subst (λ (st : Stage). HoldsFrom old.first st start heads bytes left) is (closes start heads bytes left holds) in (
      here.0 ++ (here.1 ++ piece) ∷ [],
      left,
      inl (same, (here.0, here.1, here.2, refl), (refl, refl, refl, refl)),
      (here.0, here.1 ++ piece, refl, feeds start old.first heads here.0 left here.1 here.3),
    )
takes segment piece old stage s after closes (inr (less, (read, is, (next, goes)))) feeds start heads bytes left holds =
    let between = subst (λ (st : Stage). HoldsFrom old.first st start heads bytes left) is (closes start heads bytes left holds) in (
      bytes ++ piece ∷ [],
      left,
      inr (inl (less, sym (next_is start old.first heads bytes left read between) ∙ next, refl, (refl, refl, refl, refl))),
      (bytes, piece, refl, feeds start old.first heads bytes left [] (goes start old.first heads bytes left between)),
    )

-- it is of a segment without a head
pub passes : (segment : ℕ) (piece : List ℕ) (old new : Reading) (stage gone : Stage) (read after : Recovered)
    → Closes old.first old.stage stage → GoesTo old.segment segment stage (ways.Past read)
    → Lets (next_number read.heads read.opened) segment piece read after (record old { stage = gone }) new
    → (start : Entries) (heads : List Head) (bytes : List (List ℕ)) (left : ℕ) → Holds old start heads bytes left
    → let now : Reading = record new { stage = stages.Between after } in
    (more : List (List ℕ)) × (more_left : ℕ) × Comes segment piece old now heads bytes left more more_left × Holds now start heads more more_left
passes segment piece old new stage gone read after closes (less, is, past) lets start heads bytes left holds =
    let between = subst (λ (st : Stage). HoldsFrom old.first st start heads bytes left) is (closes start heads bytes left holds) in
    let same = next_is start old.first heads bytes left read between in
    by (next_number read.heads read.opened) same (subst (λ o. IfSome o (λ next. segment < next)) same past) between lets
  where
    by : (o : Option ℕ) → o ≡ next_number heads (length bytes) → IfSome (next_number heads (length bytes)) (λ next. segment < next)
        → HasRecovered start old.first heads bytes left read
        → Lets o segment piece read after (record old { stage = gone }) new
        → let now : Reading = record new { stage = stages.Between after } in
        (more : List (List ℕ)) × (more_left : ℕ) × Comes segment piece old now heads bytes left more more_left × Holds now start heads more more_left
    by (Some next) is behind has (same, kept) = (
      bytes,
      left,
      inr (inr (
        less,
        behind,
        refl,
        ap (λ (r : Reading). r.segment) kept,
        subst (λ o. Leaves o segment piece left left old (record new { stage = stages.Between after })) is
            (refl, ap (λ (r : Reading). r.left) kept, ap (λ (r : Reading). r.zeros) kept),
      )),
      subst (λ n. HasRecovered start n heads bytes left after) (sym (ap (λ (r : Reading). r.first) kept))
          (subst (HasRecovered start old.first heads bytes left) (sym same) has),
    )
    by None is behind has (goes, kept) =
        let more = left + left_by (zeros_of old segment) piece in (
          bytes,
          more,
          inr (inr (
            less,
            behind,
            refl,
            ap (λ (r : Reading). r.segment) kept,
            subst (λ o. Leaves o segment piece left more old (record new { stage = stages.Between after })) is
                (refl, ap (λ (r : Reading). r.left) kept, ap (λ (r : Reading). r.zeros) kept),
          )),
          subst (λ n. HasRecovered start n heads bytes more after) (sym (ap (λ (r : Reading). r.first) kept))
              (goes start old.first heads bytes left has),
        )

-- ---- segments without a head

pub last_kept : (o : Option ℕ) (segment : ℕ) (piece : List ℕ) (before after : Recovered) (old new : Reading)
    → Lets o segment piece before after old new → new.last ≡ old.last
last_kept None segment piece before after old new (goes, is) = ap (λ (r : Reading). r.last) is
last_kept (Some next) segment piece before after old new (same, is) = ap (λ (r : Reading). r.last) is

pub lets_closed : (o : Option ℕ) (segment : ℕ) (piece : List ℕ) (read : Recovered) (old : Reading) → is_some o ≡ true
    → Lets o segment piece read read old old
lets_closed None segment piece read old wrong = cc
lets_closed (Some next) segment piece read old there = (refl, refl)

pub lets_left : (o : Option ℕ) (segment : ℕ) (piece : List ℕ) (before after : Recovered) (old new : Reading) → is_some o ≡ false
    → ((start : Entries) (first : ℕ) (heads : List Head) (bytes : List (List ℕ)) (left : ℕ) → HasRecovered start first heads bytes left before
    → HasRecovered start first heads bytes (left + left_by (zeros_of old segment) piece) after)
    → new ≡ record old { left = segment; zeros = zeros_by (zeros_of old segment) piece } → Lets o segment piece before after old new
lets_left None segment piece before after old new none goes is = (goes, is)
lets_left (Some next) segment piece before after old new wrong goes is = cc

not_zero : (n : ℕ) (t : Bool) → (n == 0) ≡ t → (n ≡ 0 → ⊥) → (n == 0) ≡ false
not_zero n true e some = absurd (some (eqb-true n 0 e))
not_zero n false e some = e

pub left_none : (zeros n : ℕ) (piece : List ℕ) → UsesFront n piece → n ≡ 0 → (m : ℕ) → m ≡ capped (zeros + length piece)
    → (0 ≡ left_by zeros piece) × (m ≡ zeros_by zeros piece)
left_none zeros n piece front none m is =
    let test = eq-eqb (used piece) 0 (used_is n piece front ∙ none) in
    (sym (λ i. if test i then 0 else capped (zeros + used piece)), is ∙ sym (λ i. if test i then capped (zeros + length piece) else length piece - used piece))

pub left_some : (zeros n : ℕ) (piece : List ℕ) → UsesFront n piece → (n ≡ 0 → ⊥) → (m k : ℕ) → m ≡ capped (zeros + n) → k ≡ length piece - n
    → (m ≡ left_by zeros piece) × (k ≡ zeros_by zeros piece)
left_some zeros n piece front some m k more zero =
    let same = used_is n piece front in
    let test = not_zero (used piece) (used piece == 0) refl (λ none. some (sym same ∙ none)) in (
      more ∙ ap (λ u. capped (zeros + u)) (sym same) ∙ sym (λ i. if test i then 0 else capped (zeros + used piece)),
      zero ∙ ap (λ u. length piece - u) (sym same) ∙ sym (λ i. if test i then capped (zeros + length piece) else length piece - used piece),
    )
