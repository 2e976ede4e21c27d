-- What tickets were told, with more of them.
use Rattle.sk_channels.proofs.Names.{◌≡◌, ℕ, ◌+◌, ◌-◌, ◌≤◌, List, [], ◌∷◌, ◌++◌, length, Option, Some, None, sym, ◌∙◌}
use Rattle.sk_channels.proofs.Names.{ap, arith, length-append, append_assoc, flat_map, append-nil, length-replicate}
use Rattle.sk_channels.proofs.Names.{flat_map_more, replicate_more, flat_map-append, Told, told_text, refused}
use Rattle.sk_channels.proofs.Names.{refused_up_to, HasTold, Outlet}

pub one_more_refused : (n : ℕ) → flat_map told_text (refused n) ++ told_text None ≡ flat_map told_text (refused (n + 1))
one_more_refused n = flat_map_more told_text [] (refused n) None
    ∙ ap (λ ts. flat_map told_text ts) (replicate_more n None)

-- More tickets were told, and their bytes wait behind the others.
pub told_on : (told more : Told) (handed : List ℕ) (old new : Outlet) → HasTold told handed old
    → new.next ≡ old.next + length more → new.waiting ≡ old.waiting ++ flat_map told_text more
    → HasTold (told ++ more) handed new
told_on told more handed old new has next waits = record {
  next = omega (arith, next, has.next, length-append told more);
  bytes = ap (λ ws. handed ++ ws) waits ∙ sym (append_assoc handed old.waiting (flat_map told_text more))
      ∙ ap (λ bs. bs ++ flat_map told_text more) has.bytes
      ∙ sym (flat_map-append told_text told more);
}

-- A text stands behind lines of tickets that were refused.
pub text_behind : (n : ℕ) (lines text : List ℕ) → lines ≡ flat_map told_text (refused n)
    → lines ++ text ≡ flat_map told_text (refused n ++ Some text ∷ [])
text_behind n lines text are =
    ap (λ bs. bs ++ text) are ∙ ap (λ ts. flat_map told_text (refused n) ++ ts) (sym (append-nil text))
    ∙ sym (flat_map-append told_text (refused n) (Some text ∷ []))

-- A ticket is told a text, and those before it that they were refused.
pub tells_on : (told : Told) (ticket : ℕ) (handed lines text : List ℕ) (old new : Outlet) → HasTold told handed old
    → old.next ≤ ticket
    → lines ≡ flat_map told_text (refused (ticket - old.next)) → new.next ≡ ticket + 1
    → new.waiting ≡ old.waiting ++ (lines ++ text)
    → HasTold (told ++ (refused_up_to told ticket ++ Some text ∷ [])) handed new
tells_on told ticket handed lines text old new has le are next waits =
    let same : lines ≡ flat_map told_text (refused_up_to told ticket) = are
    ∙ ap (λ n. flat_map told_text (refused (ticket - n))) has.next in
    let more : Told = refused_up_to told ticket ++ Some text ∷ [] in
    told_on told more handed old new has
    (omega (
      arith,
      next,
      le,
      has.next,
      length-append (refused_up_to told ticket) (Some text ∷ []),
      length-replicate
          {A = Option (List ℕ)} (ticket - (length told + 1)) None,
    ))
    (waits ∙ ap (λ bs. old.waiting ++ bs) (text_behind (ticket - (length told + 1)) lines text same))

-- Only they are.
pub refuses_on : (told : Told) (ticket : ℕ) (handed lines : List ℕ) (old new : Outlet) → HasTold told handed old
    → old.next ≤ ticket
    → lines ≡ flat_map told_text (refused (ticket - old.next)) → new.next ≡ ticket
    → new.waiting ≡ old.waiting ++ (lines ++ [])
    → HasTold (told ++ refused_up_to told ticket) handed new
refuses_on told ticket handed lines old new has le are next waits =
    let same : lines ≡ flat_map told_text (refused_up_to told ticket) = are
    ∙ ap (λ n. flat_map told_text (refused (ticket - n))) has.next in
    told_on told (refused_up_to told ticket) handed old new has
    (omega (arith, next, le, has.next, length-replicate {A = Option (List ℕ)} (ticket - (length told + 1)) None))
    (waits ∙ ap (λ bs. old.waiting ++ bs) (append-nil lines ∙ same))
