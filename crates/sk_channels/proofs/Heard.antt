-- What was heard, with more bytes.
use Rattle.sk_channels.proofs.Names.{◌≡◌, ℕ, ◌+◌, ◌<◌, ◌≤◌, Bool, true, false, is_some, List, [], ◌∷◌, ◌++◌, length}
use Rattle.sk_channels.proofs.Names.{take, Option, Some, None, refl, sym, ◌∙◌, ap, subst, arith, length-append}
use Rattle.sk_channels.proofs.Names.{append_assoc, false≢true, append-nil, take_all, Fault, Limits, Found, HasFault}
use Rattle.sk_channels.proofs.Names.{words_of, HasRead, HasFound, Splits, go_on, Ask, Text, Say, Do, Reject, Asked}
use Rattle.sk_channels.proofs.Names.{Inlet, Requests, is_for_host, is_hosts, with_words, AskInTurn, ComesTo, with_posed}
use Rattle.sk_channels.proofs.Names.{IsAsked, IfSome, IsOpen, IsClosed, IsHeard, HasHeard, HoldsWith, IsGiven}
use Rattle.sk_channels.proofs.Names.{WordsAsk, Finds, Queue}
use Rattle.sk_requests.specs.declared.reader.Found.TheVariants as finds
use Rattle.sk_channels.specs.declared.rejection.Rejection.TheVariants as rejections
use Rattle.sk_channels.proofs.Asks.{ask_on, words_more, none_more, empty_more, text_on}

-- It is the host's to answer.
abbrev pub IsHosts : Option Queue → Option (List (List ℕ)) → Type 0
IsHosts queue posed = IfSome posed (λ words. is_for_host queue words ≡ true)

-- The inlet heard the stream, and what is asked for now stands behind what was.
abbrev pub HasHeardOn : Limits → List Ask → List ℕ → Option Asked → Inlet → Type 0
HasHeardOn limits asked stream one inlet = HoldsWith (λ asked stream. HasHeard limits asked stream inlet) asked stream one

pub opened : (limits : Limits) (asked : List Ask) (stream : List ℕ) (inlet : Inlet) → inlet.closed ≡ false
    → HasHeard limits asked stream inlet → IsOpen limits asked stream inlet
opened limits asked stream inlet is_open has = subst (λ b. IsHeard b limits asked stream inlet) is_open has.heard

pub closed_one : (limits : Limits) (asked : List Ask) (stream : List ℕ) (inlet : Inlet) → inlet.closed ≡ true
    → HasHeard limits asked stream inlet → IsClosed limits asked stream × (inlet.posed ≡ None)
closed_one limits asked stream inlet closed has = subst (λ b. IsHeard b limits asked stream inlet) closed has.heard

still_open : (limits : Limits) (asked : List Ask) (stream : List ℕ) (inlet : Inlet) → inlet.closed ≡ false
    → IsOpen limits asked stream inlet → inlet.next ≡ length asked + 1 → HasHeard limits asked stream inlet
still_open limits asked stream inlet is_open is next = record
    { heard = subst (λ b. IsHeard b limits asked stream inlet) (sym is_open) is; tickets = next }

now_closed : (limits : Limits) (asked : List Ask) (stream : List ℕ) (inlet : Inlet) → inlet.closed ≡ true
    → IsClosed limits asked stream × (inlet.posed ≡ None) → inlet.next ≡ length asked + 1
    → HasHeard limits asked stream inlet
now_closed limits asked stream inlet closed is next = record
    { heard = subst (λ b. IsHeard b limits asked stream inlet) (sym closed) is; tickets = next }

-- ---- where the host is not asked

pub none_posed : (posed : Option (List (List ℕ))) (some : Bool) → some ≡ is_some posed → some ≡ false → posed ≡ None
none_posed None some same is = refl
none_posed (Some words) some same is = absurd (false≢true (sym is ∙ same))

pub some_posed : (posed : Option (List (List ℕ))) → is_some posed ≡ true → (words : List (List ℕ)) × (posed ≡ Some words)
some_posed None is = absurd (false≢true is)
some_posed (Some words) is = (words, refl)

-- just what was asked for was read
pub read_idle : (limits : Limits) (asked : List Ask) (stream : List ℕ) (inlet : Inlet)
    (is : IsOpen limits asked stream inlet) → inlet.posed ≡ None → HasRead limits is.told stream inlet.reader
read_idle limits asked stream inlet is none =
    subst (λ ts. HasRead limits ts stream inlet.reader) (ap (with_posed is.told) none) is.read

idle_open : (limits : Limits) (asked : List Ask) (stream : List ℕ) (told : Requests) (inlet : Inlet)
    → HasRead limits told stream inlet.reader → AskInTurn None (with_words told) asked inlet.session.queue
    → inlet.posed ≡ None → IsOpen limits asked stream inlet
idle_open limits asked stream told inlet has asks none = record {
  told = told;
  read = subst (λ ts. HasRead limits ts stream inlet.reader) (sym (ap (with_posed told) none)) has;
  asks = asks;
  hosts = subst (IsHosts inlet.session.queue) (sym none) tt;
}

-- While the host is asked no byte is taken.
pub still_posed : (limits : Limits) (asked : List Ask) (stream bytes : List ℕ) (inlet : Inlet) (some : Bool)
    → some ≡ is_some inlet.posed → some ≡ true → HasHeard limits asked stream inlet
    → (0 ≤ length bytes) × (0 < length bytes → is_some inlet.posed ≡ false → 0 < 0)
    × HasHeard limits asked (stream ++ take 0 bytes) inlet
still_posed limits asked stream bytes inlet some same is has = (
  omega arith,
  (λ more none. absurd (false≢true (sym none ∙ sym same ∙ is))),
  subst (λ s. HasHeard limits asked s inlet) (sym (append-nil stream)) has,
)

-- A closed channel drops what comes.
pub dropped_on : (limits : Limits) (asked : List Ask) (stream bytes : List ℕ) (inlet : Inlet) → inlet.closed ≡ true
    → HasHeard limits asked stream inlet
    → HasHeard limits asked (stream ++ take (length bytes) bytes) inlet
dropped_on limits asked stream bytes inlet closed has =
    let both = closed_one limits asked stream inlet closed has in
    let was = both.0 in
    let on : IsClosed limits asked (stream ++ bytes) = record {
      told = was.told;
      before = was.before;
      fault = was.fault;
      faulty = was.faulty;
      behind = was.behind ++ bytes;
      queue = was.queue;
      splits = subst (λ rest. Splits limits was.told rest (stream ++ bytes)) (append_assoc was.faulty was.behind bytes)
          (go_on limits was.told None (was.faulty ++ was.behind) stream bytes was.splits).0;
      has = was.has;
      asks = was.asks;
      rejects = was.rejects;
    } in
    subst (λ more. HasHeard limits asked (stream ++ more) inlet) (sym (take_all (length bytes) bytes (omega arith)))
    (now_closed limits asked (stream ++ bytes) inlet closed (on, both.1) has.tickets)

-- A request was found, and asks for something.
given_on : (limits : Limits) (asked : List Ask) (stream : List ℕ) (told : Requests) (t : Option (List (List ℕ)))
    (read new : Inlet) (result : Option Asked)
    → with_words (told ++ t ∷ []) ≡ with_words told ++ t ∷ [] → is_hosts read.session.queue t ≡ false
    → AskInTurn None (with_words told) asked read.session.queue → HasRead limits (told ++ t ∷ []) stream read.reader
    → read.posed ≡ None → read.closed ≡ false → read.next ≡ length asked + 1 → IsGiven read t result new
    → HasHeardOn limits asked stream result new
given_on limits asked stream told t read new result counts apart asks has none is_open next given =
    let comes : ComesTo (is_hosts read.session.queue t) read.session.queue t given.ask new.session.queue =
    subst (λ b. ComesTo b read.session.queue t given.ask new.session.queue) (sym apart) given.asks in
    let is : IsOpen limits (asked ++ given.ask ∷ []) stream new = idle_open limits (asked ++ given.ask ∷ []) stream
    (told ++ t ∷ []) new (subst (λ r. HasRead limits (told ++ t ∷ []) stream r) (sym given.reader) has)
    (subst (λ ts. AskInTurn None ts (asked ++ given.ask ∷ []) new.session.queue) (sym counts)
    (ask_on None (with_words told) asked read.session.queue t given.ask new.session.queue asks comes))
    (given.posed ∙ none) in
    subst (λ r. HasHeardOn limits asked stream r new) (sym given.given) (
      still_open limits (asked ++ given.ask ∷ []) stream new (given.closed ∙ is_open) is
          (omega (arith, given.next, next, length-append asked (given.ask ∷ []))),
      next,
    )

nothing_on : (limits : Limits) (asked : List Ask) (stream : List ℕ) (told : Requests) (read new : Inlet)
    (result : Option Asked)
    → AskInTurn None (with_words told) asked read.session.queue → HasRead limits told stream read.reader
    → read.posed ≡ None → read.closed ≡ false → read.next ≡ length asked + 1 → (result ≡ None) × (new ≡ read)
    → HasHeardOn limits asked stream result new
nothing_on limits asked stream told read new result asks has none is_open next same =
    let is : IsOpen limits asked stream read = idle_open limits asked stream told read has asks none in
    subst (λ r. HasHeardOn limits asked stream r new) (sym same.0)
    (subst (λ n. HasHeard limits asked stream n) (sym same.1) (still_open limits asked stream read is_open is next))

-- A request was found, and the host is asked.
posed_on : (limits : Limits) (asked : List Ask) (stream : List ℕ) (told : Requests) (words : List (List ℕ))
    (read new : Inlet) (result : Option Asked) → is_for_host read.session.queue words ≡ true
    → AskInTurn None (with_words told) asked read.session.queue
    → HasRead limits (told ++ Some words ∷ []) stream read.reader → read.closed ≡ false → read.next ≡ length asked + 1
    → (result ≡ None) × (new ≡ record read { posed = Some words }) → HasHeardOn limits asked stream result new
posed_on limits asked stream told words read new result hosts asks has is_open next same =
    let posed : Inlet = record read { posed = Some words } in
    let is : IsOpen limits asked stream posed = record { told = told; read = has; asks = asks; hosts = hosts } in
    subst (λ r. HasHeardOn limits asked stream r new) (sym same.0)
    (subst (λ n. HasHeard limits asked stream n) (sym same.1) (still_open limits asked stream posed is_open is next))

words_by : (hosts : Bool) (limits : Limits) (asked : List Ask) (stream : List ℕ) (told : Requests) (word : List ℕ)
    (words : List (List ℕ)) (read new : Inlet) (result : Option Asked)
    → is_for_host read.session.queue (word ∷ words) ≡ hosts
    → AskInTurn None (with_words told) asked read.session.queue
    → HasRead limits (told ++ Some (word ∷ words) ∷ []) stream read.reader → read.posed ≡ None → read.closed ≡ false
    → read.next ≡ length asked + 1
    → IsAsked hosts read (word ∷ words) result new → HasHeardOn limits asked stream result new
words_by true limits asked stream told word words read new result hosts asks has none is_open next found =
    posed_on limits asked stream told (word ∷ words) read new result hosts asks has is_open next found
words_by false limits asked stream told word words read new result hosts asks has none is_open next found =
    given_on limits asked stream told (Some (word ∷ words)) read new result
    (words_more word words told) hosts asks has none is_open next found

words_on : (limits : Limits) (asked : List Ask) (stream : List ℕ) (told : Requests) (words : List (List ℕ))
    (read new : Inlet) (result : Option Asked)
    → AskInTurn None (with_words told) asked read.session.queue
    → HasRead limits (told ++ Some words ∷ []) stream read.reader → read.posed ≡ None → read.closed ≡ false
    → read.next ≡ length asked + 1
    → WordsAsk read words result new → HasHeardOn limits asked stream result new
words_on limits asked stream told [] read new result asks has none is_open next found =
    nothing_on limits asked stream (told ++ Some [] ∷ []) read new result
    (subst (λ ts. AskInTurn None ts asked read.session.queue) (sym (empty_more told)) asks) has none is_open next found
words_on limits asked stream told (word ∷ words) read new result asks has none is_open next found =
    words_by (is_for_host read.session.queue (word ∷ words)) limits asked stream told word words read new result refl
    asks has none is_open next found

-- Bytes were read, and what was found in them is asked for.
pub found_on : (limits : Limits) (asked : List Ask) (stream : List ℕ) (told : Requests) (found : Found)
    (read new : Inlet) (result : Option Asked)
    → AskInTurn None (with_words told) asked read.session.queue → HasFound limits told stream found read.reader
    → read.posed ≡ None → read.closed ≡ false → read.next ≡ length asked + 1 → Finds read found result new
    → HasHeardOn limits asked stream result new
found_on limits asked stream told finds.Part read new result asks has none is_open next found = nothing_on limits asked
    stream told read new result asks has none is_open next found
found_on limits asked stream told (finds.Request words) read new result asks has none is_open next found =
    words_on limits asked stream told (words_of words.items) read new result asks has none is_open next found
found_on limits asked stream told finds.TooLarge read new result asks has none is_open next found = given_on limits
    asked stream told None read new result (none_more told) refl asks has none is_open next found

-- A fault was told, and is rejected.
pub closed_on : (limits : Limits) (asked : List Ask) (stream bytes rest : List ℕ) (fault : Fault) (told : Requests)
    (old new : Inlet)
    → AskInTurn None (with_words told) asked old.session.queue → Splits limits told rest (stream ++ bytes)
    → HasFault limits fault rest → new.posed ≡ None → new.closed ≡ true → new.next ≡ length asked + 1 + 1
    → HasHeard limits (asked ++ Reject (rejections.Fault fault) ∷ []) (stream ++ take (length bytes) bytes) new
closed_on limits asked stream bytes rest fault told old new asks splits has none closed next =
    let all = asked ++ Reject (rejections.Fault fault) ∷ [] in
    let is : IsClosed limits all (stream ++ bytes) = record {
      told = told;
      before = asked;
      fault = fault;
      faulty = rest;
      behind = [];
      queue = old.session.queue;
      splits = subst (λ r. Splits limits told r (stream ++ bytes)) (sym (append-nil rest)) splits;
      has = has;
      asks = asks;
      rejects = refl;
    } in
    subst (λ more. HasHeard limits all (stream ++ more) new) (sym (take_all (length bytes) bytes (omega arith)))
    (now_closed limits all (stream ++ bytes) new closed (is, none)
    (omega (arith, next, length-append asked (Reject (rejections.Fault fault) ∷ []))))

-- The host told a text.
pub told_on : (limits : Limits) (asked : List Ask) (stream text : List ℕ) (old : Inlet) → is_some old.posed ≡ true
    → HasHeard limits asked stream old
    → HasHeard limits (asked ++ Do (Say (Text text)) ∷ []) stream (record old { posed = None; next = old.next + 1 })
told_on limits asked stream text old posed has =
    let all = asked ++ Do (Say (Text text)) ∷ [] in
    let new : Inlet = record old { posed = None; next = old.next + 1 } in
    let some = some_posed old.posed posed in
    elim old.closed as (λ b. old.closed ≡ b → HasHeard limits all stream new) [
      | true ↦ λ closed.
          let none = (closed_one limits asked stream old closed has).1 in
          absurd (false≢true (sym (ap is_some none) ∙ posed))
      | false ↦ λ is_open.
          let was = opened limits asked stream old is_open has in
          let is : IsOpen limits all stream new = record {
            told = was.told ++ Some some.0 ∷ [];
            read = subst (λ p. HasRead limits (with_posed was.told p) stream old.reader) some.1 was.read;
            asks = text_on old.session.queue was.told asked some.0 text
                (subst (IsHosts old.session.queue) some.1 was.hosts) was.asks;
            hosts = tt;
          } in
          still_open limits all stream new is_open is
          (omega (arith, has.tickets, length-append asked (Do (Say (Text text)) ∷ [])))
    ] refl
