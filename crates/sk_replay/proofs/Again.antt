-- What is read of the bytes that a log keeps of works.
use Rattle.sk_replay.proofs.Names.{◌≡◌, ℕ, true, List, [], ◌∷◌, ◌++◌, flat_map, map, take, drop, Option, Some, None}
use Rattle.sk_replay.proofs.Names.{is_some, Result, Ok, Err, refl, sym, ap, subst, ◌∙◌, Vec, append_assoc}
use Rattle.sk_replay.proofs.Names.{take-append-drop, Splits, Limits, go_on, text_of, order_of, turn, log_text}
use Rattle.sk_replay.proofs.Names.{requests_of, words_for, work_for, AreAsked, AreSaid, AreWithin, IsAsked, IsSaid}
use Rattle.sk_replay.proofs.Names.{Fault, Command, Order, Run, Multi, Exec, Queue, Work, said_again, says, read_again}
use Rattle.sk_replay.proofs.Names.{waiting, works_again, fault_in, queue_after, AreTaken, IsAgain, IsRead, IsRefused}
use Rattle.sk_replay.proofs.Names.{Says, Refusal}
use Rattle.sk_commands.specs.declared.name.Name.TheVariants as named
use Rattle.sk_commands.specs.declared.work.Work.TheVariants as works
use Rattle.sk_replay.specs.declared.refusal.Refusal.TheVariants as refusals
use Rattle.sk_replay.proofs.Told.{aligned, no_fault, no_part, none_large, same_requests}

-- ---- no fault is replied to the requests of works, and they leave no queue open

abbrev Closes : Option Queue → List (List (List ℕ)) → Type 0
Closes queue rs = AreTaken queue rs × (queue_after queue rs ≡ None)

step : (queue : Option Queue) (words : List (List ℕ)) (rs : List (List (List ℕ))) (o : Result Order Fault) → order_of words ≡ o → fault_in (turn queue o).work ≡ None → Closes (turn queue o).queue rs → Closes queue (words ∷ rs)
step queue words rs o e one rest =
    subst (λ o. (fault_in (turn queue o).work ≡ None × AreTaken (turn queue o).queue rs) × (queue_after (turn queue o).queue rs ≡ None)) (sym e) ((one, rest.0), rest.1)

again : (c : Command) → IsSaid c → order_of (words_for c) ≡ Ok (Run c)
again c (words, e) = said_again words c e

queue_closes : (cs before : List Command) (rest : List (List (List ℕ))) → AreSaid cs → Closes None rest → Closes (waiting before) (map words_for cs ++ (text_of named.Exec ∷ []) ∷ rest)
queue_closes [] before rest said closes = step (waiting before) (text_of named.Exec ∷ []) rest (Ok Exec) (says named.Exec []) refl closes
queue_closes (c ∷ cs) before rest said closes =
    step (waiting before) (words_for c) (map words_for cs ++ (text_of named.Exec ∷ []) ∷ rest) (Ok (Run c)) (again c said.0) refl
    (queue_closes cs (before ++ c ∷ []) rest said.1 closes)

one_closes : (w : Work) (rest : List (List (List ℕ))) → IsAsked w → Closes None rest → Closes None (requests_of w ++ rest)
one_closes (works.Say reply) rest said closes = absurd said
one_closes (works.One c) rest said closes = step None (words_for c) rest (Ok (Run c)) (again c said) refl closes
one_closes (works.Each cs) rest said closes =
    step None (text_of named.Multi ∷ []) ((map words_for cs ++ (text_of named.Exec ∷ []) ∷ []) ++ rest) (Ok Multi) (says named.Multi []) refl
    (subst (Closes (waiting [])) (sym (append_assoc (map words_for cs) ((text_of named.Exec ∷ []) ∷ []) rest)) (queue_closes cs [] rest said closes))

all_close : (ws : List Work) → AreAsked ws → Closes None (flat_map requests_of ws)
all_close [] said = (tt, refl)
all_close (w ∷ ws) said = one_closes w (flat_map requests_of ws) said.0 (all_close ws said.1)

-- ---- so none is refused

taken_front : (queue : Option Queue) (xs ys : List (List (List ℕ))) → AreTaken queue (xs ++ ys) → AreTaken queue xs
taken_front queue [] ys taken = tt
taken_front queue (a ∷ xs) ys taken = (taken.0, taken_front (turn queue (order_of a)).queue xs ys taken.1)

taken_last : (queue : Option Queue) (xs : List (List (List ℕ))) (words : List (List ℕ)) → AreTaken queue (xs ++ words ∷ []) → fault_in (turn (queue_after queue xs) (order_of words)).work ≡ None
taken_last queue [] words taken = taken.0
taken_last queue (a ∷ xs) words taken = taken_last (turn queue (order_of a)).queue xs words taken.1

-- what is told of the front of bytes is told of them
told_of_all : (limits : Limits) (told : List (Option (List (List ℕ)))) (place : ℕ) (payload rest : List ℕ) → Splits limits told rest (take place payload) → Splits limits told (rest ++ drop place payload) payload
told_of_all limits told place payload rest is =
    subst (Splits limits told (rest ++ drop place payload)) (take-append-drop place payload) (go_on limits told None rest (take place payload) (drop place payload) is).0

is_open : (q : Option Queue) → q ≡ None → is_some q ≡ true → ⊥
is_open None e h = cc
is_open (Some q) e h = cc

no_fault_said : (fault : Fault) → Some fault ≡ None → ⊥
no_fault_said fault e = cc

-- a payload that says works is not refused
pub not_refused : (limits : Limits) (payload : List ℕ) (works : List Work) (why : Refusal) → Says limits payload works
    → IsRefused limits payload why → why ≡ refusals.Memory
not_refused limits payload works (refusals.Request fault place) says (qs, taken, told, (rest, splits, has)) =
    absurd (no_fault limits fault qs says.requests rest payload splits has says.splits)
not_refused limits payload works (refusals.TooLarge place) says (qs, taken, (within, (rest, splits))) =
    absurd (none_large limits qs says.requests (rest ++ drop place payload) payload
    (told_of_all limits (map Some qs ++ None ∷ []) place payload rest splits) says.splits)
not_refused limits payload works (refusals.Command fault place) says (qs, words, taken, (within, (rest, splits)), is) =
    let on = aligned limits (qs ++ words ∷ []) says.requests (rest ++ drop place payload) payload
    (told_of_all limits (map Some (qs ++ words ∷ [])) place payload rest splits) says.splits in
    let front = taken_front None (qs ++ words ∷ []) on.0 (subst (AreTaken None) on.1 says.taken) in
    absurd (no_fault_said fault (sym (ap fault_in is) ∙ taken_last None qs words front))
not_refused limits payload works refusals.Cut says (qs, taken, ends) = absurd (no_part limits qs says.requests payload ends says.splits)
not_refused limits payload works refusals.Open says (qs, taken, splits, opened) =
    let same = same_requests limits qs says.requests payload splits says.splits in
    absurd (is_open (queue_after None qs) (ap (queue_after None) (sym same) ∙ says.closed) opened)
not_refused limits payload works refusals.Memory says refused = refl

says_asked : (limits : Limits) (ws : List Work) (payload : List ℕ) → AreAsked ws → Splits limits (map Some (flat_map requests_of ws)) [] payload → Says limits payload ws
says_asked limits ws payload asked whole = record {
  requests = flat_map requests_of ws;
  splits = whole;
  taken = (all_close ws asked).0;
  closed = (all_close ws asked).1;
  works_are = sym (works_again ws asked);
}

-- a payload says works in one way
pub says_once : (limits : Limits) (payload : List ℕ) (vs ws : List Work) → Says limits payload vs → Says limits payload ws → vs ≡ ws
says_once limits payload vs ws one two =
    one.works_are ∙ ap (work_for None) (sym (same_requests limits one.requests two.requests payload one.splits two.splits)) ∙ sym two.works_are

says_same : (limits : Limits) (ws read : List Work) (payload : List ℕ) → AreAsked ws → Splits limits (map Some (flat_map requests_of ws)) [] payload → Says limits payload read → read ≡ ws
says_same limits ws read payload asked whole says = says_once limits payload read ws says (says_asked limits ws payload asked whole)

whole_of : (limits : Limits) (ws : List Work) (payload : List ℕ) → AreWithin limits (flat_map requests_of ws) → payload ≡ flat_map log_text ws → Splits limits (map Some (flat_map requests_of ws)) [] payload
whole_of limits ws payload within is = subst (Splits limits (map Some (flat_map requests_of ws)) []) (sym is) (read_again limits ws within)

-- works that a payload says are those that it was written of
pub says_again : (limits : Limits) (ws read : List Work) (payload : List ℕ) → AreAsked ws → AreWithin limits (flat_map requests_of ws) → payload ≡ flat_map log_text ws → Says limits payload read → read ≡ ws
says_again limits ws read payload asked within is says = says_same limits ws read payload asked (whole_of limits ws payload within is) says

whole_again : (limits : Limits) (ws : List Work) (payload : List ℕ) (result : Result (Vec Work) Refusal) → AreAsked ws → Splits limits (map Some (flat_map requests_of ws)) [] payload → IsRead limits payload result → IsAgain ws result
whole_again limits ws payload (Ok read) asked whole says = says_same limits ws read.items payload asked whole says
whole_again limits ws payload (Err refusal) asked whole refused = not_refused limits payload ws refusal (says_asked limits ws payload asked whole) refused

pub read_as : (limits : Limits) (payload : List ℕ) (result : Result (Vec Work) Refusal) → IsRead limits payload result → (ws : List Work) → AreAsked ws → AreWithin limits (flat_map requests_of ws) → payload ≡ flat_map log_text ws → IsAgain ws result
read_as limits payload result read ws asked within is =
    whole_again limits ws payload result asked (whole_of limits ws payload within is) read
