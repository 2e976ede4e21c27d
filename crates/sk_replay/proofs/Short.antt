-- What has few bytes has few words, and each is short.
use Rattle.sk_replay.proofs.Names.{flat_map-append, ◌≡◌, ℕ, ◌+◌, ◌<◌, ◌≤◌, ◌^◌, List, [], ◌∷◌, ◌++◌, flat_map, length}
use Rattle.sk_replay.proofs.Names.{refl, sym, ap, subst, ◌∙◌, inl, arith, length-append, head, array, bulk, bulks}
use Rattle.sk_replay.proofs.Names.{total, AreWords, IsWithin, log_text, requests_of, AreWithin, Work, ShortIsWithin}
use Rattle.sk_replay.proofs.Names.{log_limits}

bulk_long : (w : List ℕ) → length w + 1 ≤ length (bulk w)
bulk_long w =
    let all = length-append (head 36 (length w)) (w ++ 13 ∷ 10 ∷ []) in
    let behind = length-append w (13 ∷ 10 ∷ []) in omega (arith, all, behind)

bulks_long : (ws : List (List ℕ)) → length ws + total ws ≤ length (bulks ws)
bulks_long [] = omega arith
bulks_long (w ∷ ws) =
    let all = length-append (bulk w) (bulks ws) in
    let one = bulk_long w in
    let rest = bulks_long ws in omega (arith, all, one, rest)

each_short : (ws : List (List ℕ)) → length (bulks ws) < 2 ^ 28 → AreWords ws
each_short [] short = tt
each_short (w ∷ ws) short =
    let all = length-append (bulk w) (bulks ws) in
    let one = bulk_long w in (omega (arith, all, one, short), each_short ws (omega (arith, all, short)))

one_within : (words : List (List ℕ)) → length (array words) < 2 ^ 28 → IsWithin log_limits words (array words)
one_within words short =
    let all = length-append (head 42 (length words)) (bulks words) in
    let long = bulks_long words in
    inl (
      record { few = omega (arith, all, long, short); each = each_short words (omega (arith, all, short)); is = refl },
      (omega (arith, all, long, short), omega (arith, all, long, short)),
    )

all_within : (requests : List (List (List ℕ))) → length (flat_map array requests) < 2 ^ 28 → AreWithin log_limits requests
all_within [] short = tt
all_within (words ∷ requests) short =
    let all = length-append (array words) (flat_map array requests) in
    (one_within words (omega (arith, all, short)), all_within requests (omega (arith, all, short)))

texts : (works : List Work) → flat_map log_text works ≡ flat_map array (flat_map requests_of works)
texts [] = refl
texts (work ∷ works) = ap (λ t. log_text work ++ t) (texts works) ∙ sym (flat_map-append array (requests_of work) (flat_map requests_of works))

pub short_is_within : ShortIsWithin
short_is_within works short = all_within (flat_map requests_of works) (subst (λ t. length t < 2 ^ 28) (texts works) short)
