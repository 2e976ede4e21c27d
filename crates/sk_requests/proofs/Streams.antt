-- Streams of requests.
use Rattle.sk_requests.proofs.Names.{◌≡◌, ℕ, ◌+◌, ◌<◌, ◌≤◌, ◌^◌, not, List, [], ◌∷◌, ◌++◌, length, take, Option, Some}
use Rattle.sk_requests.proofs.Names.{None, Result, Ok, Err, true, refl, sym, ◌∙◌, ap, subst, inl, inr, arith}
use Rattle.sk_requests.proofs.Names.{length-append, rules, append_assoc, append-nil, IsLine, said, head, bulks, IsArray}
use Rattle.sk_requests.proofs.Names.{IsRequest, IsWithin, Fits, IsTooLarge, InWords, HasFault, has_some, IsAt, IsBehind}
use Rattle.sk_requests.proofs.Names.{IsFound, Reads, words_of, EndsWithin, IsTold, Splits, IsPart, HasRead, HasFound}
use Rattle.sk_requests.proofs.Names.{ReadsOn, PartsAreNone, StreamsReadOnce, StreamsGoOn, CutsDontMatter, Limits, Place}
use Rattle.sk_requests.proofs.Names.{Front, Word, Reader, Taken, Found, Refusal}
use Rattle.std.proofs.Common.{◌==◌}
use Rattle.sk_requests.specs.declared.place.Place.TheVariants.{Length, End}
use Rattle.sk_requests.specs.declared.reader.Found.TheVariants as finds
use Rattle.sk_requests.specs.declared.fault.Refusal.TheVariants as refusals
use Rattle.sk_requests.proofs.Lines.{ends_behind, same_head, head_line, head_parts}
use Rattle.sk_requests.proofs.Arrays.{next_word, first_in_words, first_alone, no_inline, one_request}

no_end_in : (line l more : List ℕ) → IsLine line → line ≡ l ++ 10 ∷ more → ⊥
no_end_in line l more one is =
    omega (arith, ends_behind line [] l more one (append-nil line ∙ is), ap length is, length-append l (10 ∷ more))

-- A line that doesn't end is no request.
pub line_is_part : (limits : Limits) (line : List ℕ) → IsLine line → IsPart limits line
line_is_part limits line one words text more request is = elim request [
  | inl a ↦
      let front : line ≡ said 42 (length words) ++ 10 ∷ (bulks words ++ more) =
      is ∙ ap (λ xs. xs ++ more) a.is ∙ append_assoc (head 42 (length words)) (bulks words) more ∙ head_line 42 (length words) (bulks words ++ more) in
      no_end_in line (said 42 (length words)) (bulks words ++ more) one front
  | inr l ↦ no_end_in line l.line more one (is ∙ ap (λ xs. xs ++ more) l.is ∙ append_assoc l.line (10 ∷ []) more)
]

-- Behind some words stands no whole word.
words_are_part : (limits : Limits) (vs : List (List ℕ)) (text : List ℕ) (left : ℕ) (rest : List ℕ) → InWords vs text left rest
    → ((w behind : List ℕ) → length w ≤ 2 ^ 29 → rest ≡ head 36 (length w) ++ (w ++ 13 ∷ 10 ∷ behind) → ⊥) → IsPart limits text
words_are_part limits vs text left rest inside none words whole more request is = elim request [
  | inl a ↦
      let next = next_word vs text left rest [] more whole words inside a (append-nil text ∙ is) in
      none next.0 next.1 next.2 (sym (append-nil rest) ∙ next.3)
  | inr l ↦ no_inline limits words text [] whole more (first_in_words vs text left rest inside) l (append-nil text ∙ is)
]

no_word_in_line : (line w behind : List ℕ) → IsLine line → line ≡ head 36 (length w) ++ (w ++ 13 ∷ 10 ∷ behind) → ⊥
no_word_in_line line w behind one is = no_end_in line (said 36 (length w)) (w ++ 13 ∷ 10 ∷ behind) one (is ∙ head_line 36 (length w) (w ++ 13 ∷ 10 ∷ behind))

no_short_word : (size : ℕ) (word after w behind : List ℕ) → size ≤ 2 ^ 29 → length w ≤ 2 ^ 29 → length (word ++ after) < size + 2 → head 36 size ++ (word ++ after) ≡ head 36 (length w) ++ (w ++ 13 ∷ 10 ∷ behind) → ⊥
no_short_word size word after w behind short short' few is =
    let heads = same_head 36 size (length w) (word ++ after) (w ++ 13 ∷ 10 ∷ behind) (λ e. omega (arith, e)) (omega (arith, short)) (omega (arith, short')) is in
    omega (arith, few, heads.0, ap length heads.1, length-append w (13 ∷ 10 ∷ behind))

part_at : (place : Place) (reader : Reader) (text : List ℕ) → IsAt place reader text → IsPart reader.limits text
part_at Front reader text at = line_is_part reader.limits text (subst IsLine at.0 at.1.0)
part_at (Length left) reader text at =
    words_are_part reader.limits at.0.words text left reader.part.items at.0.array (λ w behind short is. no_word_in_line reader.part.items w behind at.1.0 is)
part_at (Word left behind) reader text at =
    let size = length at.0 + behind in
    words_are_part reader.limits at.1.array.words text left (head 36 size ++ (at.0 ++ [])) at.1.array.array
    (λ w after short is. no_short_word size at.0 [] w after at.1.short short (omega (arith, length-append at.0 [])) is)
part_at (End left) reader text at =
    words_are_part reader.limits at.1.array.words text left (head 36 (length at.0) ++ (at.0 ++ 13 ∷ [])) at.1.array.array
    (λ w after short is. no_short_word (length at.0) at.0 (13 ∷ []) w after at.1.short short (omega (arith, length-append at.0 (13 ∷ []))) is)

pub parts_are_none : PartsAreNone
parts_are_none text reader behind = part_at reader.place reader text behind.1

pub request_within : (limits : Limits) (words : List (List ℕ)) (text : List ℕ) → IsWithin limits words text → IsRequest limits words text
request_within limits words text within = elim within [ inl a ↦ inl a.0 | inr l ↦ inr l ]

never : (limits : Limits) (us ws : List (List ℕ)) → us ≡ ws → Fits limits us → IsTooLarge limits ws → ⊥
never limits us ws same fits large =
    let fit = subst (Fits limits) same fits in
    elim large [ inl many ↦ omega (arith, many, fit.0) | inr long ↦ omega (arith, long, fit.1) ]

-- What fits and what is too large begin no bytes both.
apart : (limits : Limits) (us ws : List (List ℕ)) (text text' x y : List ℕ) → IsWithin limits us text → IsArray ws text' → IsTooLarge limits ws → text ++ x ≡ text' ++ y → ⊥
apart limits us ws text text' x y within a large is = elim within [
  | inl b ↦ never limits us ws (one_request limits us ws text text' x y (inl b.0) (inl a) is).0 b.1 large
  | inr l ↦ no_inline limits us text' y text x (first_alone ws text' a) l (sym is)
]

pub told_once : (limits : Limits) (t u : Option (List (List ℕ))) (text text' x y : List ℕ) → IsTold limits t text → IsTold limits u text' → text ++ x ≡ text' ++ y → (t ≡ u) × (x ≡ y)
told_once limits (Some us) (Some ws) text text' x y one two is =
    let same = one_request limits us ws text text' x y (request_within limits us text one) (request_within limits ws text' two) is in
    (ap Some same.0, same.2)
told_once limits (Some us) None text text' x y one two is = absurd (apart limits us two.0 text text' x y one two.1 two.2 is)
told_once limits None (Some ws) text text' x y one two is = absurd (apart limits ws one.0 text' text y x two one.1 one.2 (sym is))
told_once limits None None text text' x y one two is =
    let same = one_request limits one.0 two.0 text text' x y (inl one.1) (inl two.1) is in
    (refl, same.2)

-- Of bytes that begin with a request, a request is told.
told_is_none : (limits : Limits) (t : Option (List (List ℕ))) (bytes text more : List ℕ) → IsPart limits bytes → IsTold limits t text → bytes ≡ text ++ more → ⊥
told_is_none limits (Some words) bytes text more part told is = part words text more (request_within limits words text told) is
told_is_none limits None bytes text more part told is = part told.0 text more (inl told.1) is

pub read_once : StreamsReadOnce
read_once limits [] [] rest rest' stream one part two part' = (refl, sym one ∙ two)
read_once limits [] (u ∷ us) rest rest' stream one part two part' = absurd (told_is_none limits u rest two.0 two.1 part two.2 (sym one ∙ two.3))
read_once limits (t ∷ ts) [] rest rest' stream one part two part' = absurd (told_is_none limits t rest' one.0 one.1 part' one.2 (sym two ∙ one.3))
read_once limits (t ∷ ts) (u ∷ us) rest rest' stream one part two part' =
    let same = told_once limits t u one.0 two.0 one.1 two.1 one.2 two.2 (sym one.3 ∙ two.3) in
    let behind = read_once limits ts us rest rest' two.1 (subst (Splits limits ts rest) same.1 one.4) part two.4 part' in
    (λ i. same.0 i ∷ behind.0 i, behind.1)

rest_on : (limits : Limits) (ts : List (Option (List (List ℕ)))) (rest stream more : List ℕ) → Splits limits ts rest stream → Splits limits ts (rest ++ more) (stream ++ more)
rest_on limits [] rest stream more is = ap (λ xs. xs ++ more) is
rest_on limits (t ∷ ts) rest stream more is =
    (is.0, is.1 ++ more, is.2, ap (λ xs. xs ++ more) is.3 ∙ append_assoc is.0 is.1 more, rest_on limits ts rest is.1 more is.4)

told_on : (limits : Limits) (ts : List (Option (List (List ℕ)))) (t : Option (List (List ℕ))) (rest stream more : List ℕ) → Splits limits ts rest stream → IsTold limits t (rest ++ more) → Splits limits (ts ++ t ∷ []) [] (stream ++ more)
told_on limits [] t rest stream more is told = (rest ++ more, [], told, ap (λ xs. xs ++ more) is ∙ sym (append-nil (rest ++ more)), refl)
told_on limits (u ∷ ts) t rest stream more is told =
    (is.0, is.1 ++ more, is.2, ap (λ xs. xs ++ more) is.3 ∙ append_assoc is.0 is.1 more, told_on limits ts t rest is.1 more is.4 told)

pub go_on : StreamsGoOn
go_on limits ts t rest stream more is = (rest_on limits ts rest stream more is, told_on limits ts t rest stream more is)

pub cuts_dont_matter : CutsDontMatter
cuts_dont_matter limits told other stream reader reader' one two =
    (read_once limits told other one.rest two.rest stream one.splits (subst (λ l. IsPart l one.rest) one.same (parts_are_none one.rest reader one.behind)) two.splits
    (subst (λ l. IsPart l two.rest) two.same (parts_are_none two.rest reader' two.behind))).0

-- What was found is told of the stream.
found_on : (limits : Limits) (told : List (Option (List (List ℕ)))) (rest stream chunk : List ℕ) (reader : Reader) (found : Found) → reader.limits ≡ limits → Splits limits told rest stream → IsFound (rest ++ chunk) found reader
    → HasFound limits told (stream ++ chunk) found reader
found_on limits told rest stream chunk reader finds.Part same splits found = record {
  same = same;
  rest = rest ++ chunk;
  splits = rest_on limits told rest stream chunk splits;
  behind = found;
}
found_on limits told rest stream chunk reader (finds.Request words) same splits found = record {
  same = same;
  rest = [];
  splits = told_on limits told (Some (words_of words.items)) rest stream chunk splits (subst (λ l. IsWithin l (words_of words.items) (rest ++ chunk)) same found.0);
  behind = found.1;
}
found_on limits told rest stream chunk reader finds.TooLarge same splits found = record {
  same = same;
  rest = [];
  splits = told_on limits told None rest stream chunk splits (found.0, found.1, subst (λ l. IsTooLarge l found.0) same found.2);
  behind = found.3;
}

-- A call reads the stream on.
pub reads_on : (limits : Limits) (told : List (Option (List (List ℕ)))) (stream bytes : List ℕ) (old new : Reader) (result : Result Taken Refusal)
    → ((text : List ℕ) → IsBehind text old → Reads text bytes result new) → new.limits ≡ old.limits → HasRead limits told stream old → ReadsOn limits told stream bytes result new
reads_on limits told stream bytes old new (Ok taken) reads kept has =
    let read = reads has.rest has.behind in
    (read.0, read.1, found_on limits told has.rest stream (take taken.count bytes) new taken.found (kept ∙ has.same) has.splits read.2)
reads_on limits told stream bytes old new (Err (refusals.Fault fault)) reads kept has =
    let read = reads has.rest has.behind in (
      record { same = kept ∙ has.same; rest = has.rest; splits = has.splits; behind = read.1 },
      (has.rest ++ bytes, rest_on limits told has.rest stream bytes has.splits, subst (λ l. HasFault l fault (has.rest ++ bytes)) (kept ∙ has.same) read.0),
    )
reads_on limits told stream bytes old new (Err refusals.Memory) reads kept has =
    record { same = kept ∙ has.same; rest = has.rest; splits = has.splits; behind = reads has.rest has.behind }

-- ---- whether a stream ends within a request

some_in_words : (vs : List (List ℕ)) (text : List ℕ) (left : ℕ) (rest : List ℕ) → InWords vs text left rest → 0 < length text
some_in_words vs text left rest inside =
    let n = length vs + left in
    let is = inside.begins ∙ ap (λ h. h ++ (bulks vs ++ rest)) (head_parts 42 n) in subst (λ t. 0 < length t) (sym is) (omega arith)

front_ends : (limits : Limits) (told : List (Option (List (List ℕ)))) (stream text : List ℕ) → IsPart limits text → Splits limits told text stream → EndsWithin limits told stream (not (length text == 0))
front_ends limits told stream [] part splits = splits
front_ends limits told stream (b ∷ bs) part splits =
    let some : not (length (b ∷ bs) == 0) ≡ true = first_of (search rules, grind arith) in
    subst (EndsWithin limits told stream) (sym some) (b ∷ bs, splits, omega arith, part)

ends_at : (place : Place) (reader : Reader) (told : List (Option (List (List ℕ)))) (stream text : List ℕ) → IsAt place reader text → Splits reader.limits told text stream → EndsWithin reader.limits told stream (has_some place reader.part.items)
ends_at Front reader told stream text at splits =
    subst (λ p. EndsWithin reader.limits told stream (not (length p == 0))) (sym at.0) (front_ends reader.limits told stream text (part_at Front reader text at) splits)
ends_at (Length left) reader told stream text at splits =
    (text, splits, some_in_words at.0.words text left reader.part.items at.0.array, part_at (Length left) reader text at)
ends_at (Word left behind) reader told stream text at splits =
    let size = length at.0 + behind in
    (text, splits, some_in_words at.1.array.words text left (head 36 size ++ (at.0 ++ [])) at.1.array.array, part_at (Word left behind) reader text at)
ends_at (End left) reader told stream text at splits =
    (text, splits, some_in_words at.1.array.words text left (head 36 (length at.0) ++ (at.0 ++ 13 ∷ [])) at.1.array.array, part_at (End left) reader text at)

pub ends_within : (limits : Limits) (told : List (Option (List (List ℕ)))) (stream : List ℕ) (reader : Reader) → HasRead limits told stream reader → EndsWithin limits told stream (has_some reader.place reader.part.items)
ends_within limits told stream reader has =
    subst (λ l. EndsWithin l told stream (has_some reader.place reader.part.items)) has.same
    (ends_at reader.place reader told stream has.rest has.behind.1 (subst (λ l. Splits l told has.rest stream) (sym has.same) has.splits))
