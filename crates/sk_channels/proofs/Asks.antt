-- What requests ask for, one after another.
use Rattle.sk_channels.proofs.Names.{◌≡◌, ◌≢◌, ℕ, Bool, true, false, List, [], ◌∷◌, ◌++◌, map, Option, Some, None}
use Rattle.sk_channels.proofs.Names.{Result, Ok, Err, refl, sym, ◌∙◌, ap, subst, false≢true, is_none, Fault, Command}
use Rattle.sk_channels.proofs.Names.{Order, Run, Multi, Exec, Discard, Said, Unknown, Name, Text, Queue, Work, Say}
use Rattle.sk_channels.proofs.Names.{name_of, order_named, order_of, executes, refuses, turn, Turn, Ask, Do, Reject}
use Rattle.sk_channels.proofs.Names.{Requests, is_for_host, is_hosts, with_words, AskInTurn, ComesTo, asks_of, untold}
use Rattle.sk_channels.proofs.Names.{HadMemory}
use Rattle.sk_channels.specs.declared.rejection.Rejection.TheVariants as rejections

-- One more request asks for something.
pub ask_on : (old : Option Queue) (told : Requests) (asked : List Ask) (mid : Option Queue)
    (t : Option (List (List ℕ))) (a : Ask) (new : Option Queue)
    → AskInTurn old told asked mid → ComesTo (is_hosts mid t) mid t a new
    → AskInTurn old (told ++ t ∷ []) (asked ++ a ∷ []) new
ask_on old [] [] mid t a new is asks = (new, subst (λ q. ComesTo (is_hosts q t) q t a new) is asks, refl)
ask_on old [] (b ∷ asked) mid t a new is asks = absurd is
ask_on old (u ∷ told) [] mid t a new is asks = absurd is
ask_on old (u ∷ told) (b ∷ asked) mid t a new is asks = (is.0, is.1, ask_on is.0 told asked mid t a new is.2 asks)

-- ---- the host's requests

unnamed : (name : Option Name) (words : List (List ℕ)) → is_none name ≡ true → order_named name words ≡ Err Unknown
unnamed None words none = refl
unnamed (Some name) words none = absurd (false≢true none)

-- no queue is open, and no command has this name
hosts_is : (old : Option Queue) (words : List (List ℕ)) → is_for_host old words ≡ true
    → (old ≡ None) × (order_of words ≡ Err Unknown)
hosts_is None [] hosts = absurd (false≢true hosts)
hosts_is (Some queue) [] hosts = absurd (false≢true hosts)
hosts_is None (word ∷ words) hosts = (refl, unnamed (name_of word) words hosts)
hosts_is (Some queue) (word ∷ words) hosts = absurd (false≢true hosts)

-- no request says what only a host tells
executes_untold : (spoiled : Bool) (commands : List Command)
    → untold (Do (executes spoiled commands).work) ≡ Do (executes spoiled commands).work
executes_untold true commands = refl
executes_untold false commands = refl

never_told : (old : Option Queue) (order : Result Order Said) → untold (Do (turn old order).work) ≡ Do (turn old order).work
never_told None (Ok (Run command)) = refl
never_told None (Ok Multi) = refl
never_told None (Ok Exec) = refl
never_told None (Ok Discard) = refl
never_told None (Err fault) = refl
never_told (Some queue) (Ok (Run command)) = refl
never_told (Some queue) (Ok Multi) = refl
never_told (Some queue) (Ok Exec) = executes_untold queue.spoiled queue.commands
never_told (Some queue) (Ok Discard) = refl
never_told (Some queue) (Err fault) = refl

-- There is one ask, and one queue is open then.
one_ask : (hosts : Bool) (old : Option Queue) (t : Option (List (List ℕ))) (a : Ask) (next : Option Queue)
    (told : Requests) (asked : List Ask)
    → is_hosts old t ≡ hosts → ComesTo hosts old t a next → (a ≢ Reject rejections.Memory) × (a ≢ Reject rejections.QueueFull)
    → map untold asked ≡ asks_of next told → untold a ∷ map untold asked ≡ asks_of old (t ∷ told)
one_ask true old None a next told asked hosts is had rest = absurd (false≢true hosts)
one_ask true old (Some words) a next told asked hosts ((text, says), same) had rest =
    let known = hosts_is old words hosts in
    let turned : turn old (order_of words) ≡ refuses None Unknown = λ i. turn (known.0 i) (known.1 i) in
    (λ i. untold (says i) ∷ (rest ∙ ap (λ q. asks_of q told) (same ∙ known.0)) i)
    ∙ sym (ap (λ (u : Turn). Do u.work ∷ asks_of u.queue told) turned)
one_ask false old (Some words) (Do work) next told asked hosts is had rest = λ i.
    (ap (λ w. untold (Do w)) is.0 ∙ never_told old (order_of words)) i ∷ (rest ∙ ap (λ q. asks_of q told) is.1) i
one_ask false old (Some words) (Reject (rejections.Fault fault)) next told asked hosts is had rest = absurd is
one_ask false old (Some words) (Reject rejections.TooLarge) next told asked hosts is had rest = absurd is
one_ask false old (Some words) (Reject rejections.Memory) next told asked hosts is had rest = absurd (had.0 refl)
one_ask false old (Some words) (Reject rejections.QueueFull) next told asked hosts is had rest = absurd (had.1 refl)
one_ask false old None (Do work) next told asked hosts is had rest = absurd is
one_ask false old None (Reject (rejections.Fault fault)) next told asked hosts is had rest = absurd is
one_ask false old None (Reject rejections.TooLarge) next told asked hosts is had rest = λ i. Reject rejections.TooLarge ∷
    (rest ∙ ap (λ q. asks_of q told) is) i
one_ask false old None (Reject rejections.Memory) next told asked hosts is had rest = absurd is
one_ask false old None (Reject rejections.QueueFull) next told asked hosts is had rest = absurd is

pub asks_are : (old : Option Queue) (told : Requests) (asked : List Ask) (new : Option Queue)
    → AskInTurn old told asked new → HadMemory asked → map untold asked ≡ asks_of old told
asks_are old [] [] new is had = refl
asks_are old [] (b ∷ asked) new is had = absurd is
asks_are old (u ∷ told) [] new is had = absurd is
asks_are old (u ∷ told) (b ∷ asked) new is had = one_ask (is_hosts old u) old u b is.0 told asked refl is.1 had.0
    (asks_are is.0 told asked new is.2 had.1)

pub had_before : (before : List Ask) (a : Ask) → HadMemory (before ++ a ∷ []) → HadMemory before
had_before [] a had = tt
had_before (b ∷ before) a had = (had.0, had_before before a had.1)

done_no_reject : (work : Work) → (Do work ≢ Reject rejections.Memory) × (Do work ≢ Reject rejections.QueueFull)
done_no_reject work = (λ is. cc, λ is. cc)

pub had_more : (asked : List Ask) (work : Work) → HadMemory asked → HadMemory (asked ++ Do work ∷ [])
had_more [] work had = (done_no_reject work, tt)
had_more (b ∷ asked) work had = (had.0, had_more asked work had.1)

-- One request more has words, or is too large.
pub words_more : (word : List ℕ) (words : List (List ℕ)) (told : Requests)
    → with_words (told ++ Some (word ∷ words) ∷ []) ≡ with_words told ++ Some (word ∷ words) ∷ []
words_more word words [] = refl
words_more word words (Some [] ∷ told) = words_more word words told
words_more word words (Some (w ∷ ws) ∷ told) = ap (λ ts. Some (w ∷ ws) ∷ ts) (words_more word words told)
words_more word words (None ∷ told) = ap (λ ts. None ∷ ts) (words_more word words told)

pub none_more : (told : Requests) → with_words (told ++ None ∷ []) ≡ with_words told ++ None ∷ []
none_more [] = refl
none_more (Some [] ∷ told) = none_more told
none_more (Some (w ∷ ws) ∷ told) = ap (λ ts. Some (w ∷ ws) ∷ ts) (none_more told)
none_more (None ∷ told) = ap (λ ts. None ∷ ts) (none_more told)

-- It has no words.
pub empty_more : (told : Requests) → with_words (told ++ Some [] ∷ []) ≡ with_words told
empty_more [] = refl
empty_more (Some [] ∷ told) = empty_more told
empty_more (Some (w ∷ ws) ∷ told) = ap (λ ts. Some (w ∷ ws) ∷ ts) (empty_more told)
empty_more (None ∷ told) = ap (λ ts. None ∷ ts) (empty_more told)

-- The request that the host is asked is asked for with what it tells.
pub text_on : (queue : Option Queue) (told : Requests) (asked : List Ask) (words : List (List ℕ)) (text : List ℕ)
    → is_for_host queue words ≡ true → AskInTurn None (with_words told) asked queue
    → AskInTurn None (with_words (told ++ Some words ∷ [])) (asked ++ Do (Say (Text text)) ∷ []) queue
text_on queue told asked [] text hosts asks = absurd (false≢true hosts)
text_on queue told asked (word ∷ words) text hosts asks =
    subst (λ ts. AskInTurn None ts (asked ++ Do (Say (Text text)) ∷ []) queue) (sym (words_more word words told))
    (ask_on None (with_words told) asked queue (Some (word ∷ words)) (Do (Say (Text text))) queue asks
    (subst (λ b. ComesTo b queue (Some (word ∷ words)) (Do (Say (Text text))) queue) (sym hosts) ((text, refl), refl)))
