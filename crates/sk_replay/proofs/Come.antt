-- How far a payload is read.
use Rattle.sk_replay.proofs.Names.{map_push, take_rest, ◌≡◌, ℕ, ◌+◌, ◌-◌, ◌≤◌, Bool, true, false, List, [], ◌∷◌, ◌++◌}
use Rattle.sk_replay.proofs.Names.{length, map, take, drop, Option, Some, None, is_some, Result, Ok, Err, IfErr, refl}
use Rattle.sk_replay.proofs.Names.{sym, ap, subst, ◌∙◌, arith, length-drop, Vec, take-add, take_all, take-append-drop}
use Rattle.sk_replay.proofs.Names.{EndsWithin, HasRead, ReadsOn, Splits, Limits, ReaderRefusal, Reader, Taken, Queue}
use Rattle.sk_replay.proofs.Names.{Work, log_limits, queue_after, refused_at, HasCarried, HasCome, IsRefused}
use Rattle.sk_replay.proofs.Names.{IsRefusedBehind, IsToldOf, Says, Reading, Refusal}
use Rattle.sk_requests.specs.declared.fault.Refusal.TheVariants as reader
use Rattle.sk_replay.specs.declared.refusal.Refusal.TheVariants as refusals

-- so many bytes more came
on_by : (payload : List ℕ) (place count : ℕ) → take place payload ++ take count (drop place payload) ≡ take (place + count) payload
on_by payload place count = sym (take-add place count payload)

-- no request is whole yet
pub part_on : (payload : List ℕ) (old new : Reading) (count : ℕ) (come : HasCome payload old) → count ≤ length (drop old.place payload) → new.channel ≡ old.channel → new.place ≡ old.place + count
    → HasRead log_limits (map Some come.requests) (take old.place payload ++ take count (drop old.place payload)) new.reader → HasCome payload new
part_on payload old new count come few channel place read = record {
  requests = come.requests;
  within = omega (arith, place, few, come.within, length-drop old.place payload);
  read = subst (λ s. HasRead log_limits (map Some come.requests) s new.reader) (on_by payload old.place count ∙ ap (λ n. take n payload) (sym place)) read;
  carried = subst (HasCarried come.requests) (sym channel) come.carried;
}

-- a request is
pub request_on : (payload : List ℕ) (old new : Reading) (count : ℕ) (words : List (List ℕ)) (come : HasCome payload old) → count ≤ length (drop old.place payload) → new.place ≡ old.place + count
    → HasRead log_limits (map Some come.requests ++ Some words ∷ []) (take old.place payload ++ take count (drop old.place payload)) new.reader → HasCarried (come.requests ++ words ∷ []) new.channel → HasCome payload new
request_on payload old new count words come few place read carried = record {
  requests = come.requests ++ words ∷ [];
  within = omega (arith, place, few, come.within, length-drop old.place payload);
  read = subst (λ t. HasRead log_limits t (take new.place payload) new.reader) (sym (map_push Some come.requests words))
      (subst (λ s. HasRead log_limits (map Some come.requests ++ Some words ∷ []) s new.reader) (on_by payload old.place count ∙ ap (λ n. take n payload) (sym place)) read);
  carried = carried;
}

-- what is told of the bytes so far
told_so_far : (limits : Limits) (told : List (Option (List (List ℕ)))) (payload : List ℕ) (place count : ℕ) (reader : Reader) → count ≤ length (drop place payload) → place ≤ length payload
    → HasRead limits told (take place payload ++ take count (drop place payload)) reader → IsToldOf limits told (place + count) payload
told_so_far limits told payload place count reader few within read =
    (omega (arith, few, within, length-drop place payload), (read.rest, subst (Splits limits told read.rest) (on_by payload place count) read.splits))

pub large_refused : (payload : List ℕ) (old : Reading) (count : ℕ) (reader : Reader) (come : HasCome payload old) → count ≤ length (drop old.place payload)
    → HasRead log_limits (map Some come.requests ++ None ∷ []) (take old.place payload ++ take count (drop old.place payload)) reader → IsRefused log_limits payload (refusals.TooLarge (old.place + count))
large_refused payload old count reader come few read =
    (come.requests, come.carried.taken, told_so_far log_limits (map Some come.requests ++ None ∷ []) payload old.place count reader few come.within read)

pub request_refused : (payload : List ℕ) (old : Reading) (count : ℕ) (reader : Reader) (words : List (List ℕ)) (refusal : Refusal) (come : HasCome payload old) → count ≤ length (drop old.place payload)
    → HasRead log_limits (map Some come.requests ++ Some words ∷ []) (take old.place payload ++ take count (drop old.place payload)) reader → IsRefusedBehind come.requests words (old.place + count) refusal → IsRefused log_limits payload refusal
request_refused payload old count reader words (refusals.Command fault behind) come few read refused =
    let told = told_so_far log_limits (map Some come.requests ++ Some words ∷ []) payload old.place count reader few come.within read in (
      come.requests,
      words,
      come.carried.taken,
      subst (λ n. IsToldOf log_limits (map Some (come.requests ++ words ∷ [])) n payload) (sym refused.0) (subst (λ t. IsToldOf log_limits t (old.place + count) payload) (sym (map_push Some come.requests words)) told),
      refused.1,
    )
request_refused payload old count reader words refusals.Memory come few read refused = tt
request_refused payload old count reader words s come few read refused = absurd refused

-- no request can come
pub reader_refused : (payload : List ℕ) (old : Reading) (new : Reader) (refusal : ReaderRefusal) (come : HasCome payload old) → ReadsOn log_limits (map Some come.requests) (take old.place payload) (drop old.place payload) (Err refusal) new
    → IsRefused log_limits payload (refused_at old.place refusal)
reader_refused payload old new (reader.Fault fault) come (read, (rest, splits, has)) = (
  come.requests,
  come.carried.taken,
  (come.within, (come.read.rest, come.read.splits)),
  (rest, subst (Splits log_limits (map Some come.requests) rest) (take-append-drop old.place payload) splits, has),
)
reader_refused payload old new reader.Memory come read = tt

-- ---- the end

pub all_read : (payload : List ℕ) (reading : Reading) (come : HasCome payload reading) → length payload ≤ reading.place → HasRead log_limits (map Some come.requests) payload reading.reader
all_read payload reading come all = subst (λ s. HasRead log_limits (map Some come.requests) s reading.reader) (take_all reading.place payload all) come.read

none_of : (q : Option Queue) → is_some q ≡ false → q ≡ None
none_of None e = refl
none_of (Some q) e = cc

pub cut : (payload : List ℕ) (reading : Reading) (b : Bool) (come : HasCome payload reading) → EndsWithin log_limits (map Some come.requests) payload b → b ≡ true → IsRefused log_limits payload refusals.Cut
cut payload reading b come ends is = (come.requests, come.carried.taken, subst (EndsWithin log_limits (map Some come.requests) payload) is ends)

pub left_open : (payload : List ℕ) (reading : Reading) (b opened : Bool) (come : HasCome payload reading) → EndsWithin log_limits (map Some come.requests) payload b → b ≡ false → opened ≡ is_some reading.channel.session.queue → opened ≡ true
    → IsRefused log_limits payload refusals.Open
left_open payload reading b opened come ends is opens true_is =
    (come.requests, come.carried.taken, subst (EndsWithin log_limits (map Some come.requests) payload) is ends, ap is_some (sym come.carried.queue) ∙ sym opens ∙ true_is)

pub all_said : (payload : List ℕ) (reading : Reading) (b opened : Bool) (works : Vec Work) (come : HasCome payload reading) → EndsWithin log_limits (map Some come.requests) payload b → b ≡ false → opened ≡ is_some reading.channel.session.queue → opened ≡ false
    → works ≡ reading.channel.works → Says log_limits payload works.items
all_said payload reading b opened works come ends is opens false_is same = record {
  requests = come.requests;
  splits = subst (EndsWithin log_limits (map Some come.requests) payload) is ends;
  taken = come.carried.taken;
  closed = none_of (queue_after None come.requests) (ap is_some (sym come.carried.queue) ∙ sym opens ∙ false_is);
  works_are = ap (λ v. v.items) same ∙ come.carried.works;
}

-- ---- results

pub if_refused : (result : Result (Unit {0}) Refusal) (P Q : Refusal → Type 0) → ((r : Refusal) → P r → Q r) → IfErr result P → IfErr result Q
if_refused (Ok u) P Q f h = h
if_refused (Err e) P Q f h = f e h

-- ---- the rest of a payload

-- what a reader answers of the rest
pub reads_rest : (payload : List ℕ) (old : Reading) (result : Result Taken ReaderRefusal) (new : Reader) (come : HasCome payload old)
    → ReadsOn log_limits (map Some come.requests) (take old.place payload) (take (length payload - old.place) (drop old.place payload)) result new
    → ReadsOn log_limits (map Some come.requests) (take old.place payload) (drop old.place payload) result new
reads_rest payload old result new come reads =
    subst (λ b. ReadsOn log_limits (map Some come.requests) (take old.place payload) b result new) (take_rest payload old.place) reads
