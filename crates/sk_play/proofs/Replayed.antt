-- One more event that happens, and what a replayed trace leaves.
use Rattle.sk_play.proofs.Names.{◌≡◌, ℕ, ◌<◌, ◌+◌, List, [], ◌∷◌, ◌++◌, map, take, drop, zero, suc, length, get_or}
use Rattle.sk_play.proofs.Names.{refl, sym, ap, ◌∙◌, subst, arith, append-nil, append_assoc, Event, KernelView}
use Rattle.sk_play.proofs.Names.{with_event, CallAnswer, AnswerMatches, held_after, Plays, Replays, StopsAt, call_of}
use Rattle.sk_play.proofs.Names.{told_by, replayed}
use Rattle.sk_trace.specs.declared.event.Event.TheVariants as events
use Rattle.sk_play.proofs.Turns.{plays_more}

map_more : {A B : Type 0} (f : A → B) (xs : List A) (x : A) → map f (xs ++ x ∷ []) ≡ map f xs ++ f x ∷ []
map_more f [] x = refl
map_more f (y ∷ xs) x = ap (λ ys. f y ∷ ys) (map_more f xs x)

pub replays_more : (es : List Event) (e : Event) (a : CallAnswer) (ts us : List ℕ) (k mid last : KernelView) → Replays es ts k us mid → a ≡ told_by e → AnswerMatches a (call_of e) us mid last
    → Replays (es ++ e ∷ []) ts k (held_after a (call_of e) us) last
replays_more es e a ts us k mid last p is told =
    subst (λ cs. Plays cs (map told_by (es ++ e ∷ [])) ts k (held_after a (call_of e) us) last) (sym (map_more call_of es e))
    (subst (λ bs. Plays (map call_of es ++ call_of e ∷ []) bs ts k (held_after a (call_of e) us) last) (ap (λ b. map told_by es ++ b ∷ []) is ∙ sym (map_more told_by es e))
    (plays_more (map call_of es) (map told_by es) (call_of e) a ts us k mid last p told))

-- the place of the first event that does not happen parts the trace
pub stops_at : (es : List Event) (i at : ℕ) (e : Event) (a : CallAnswer) (ts us : List ℕ) (k mid last : KernelView) → i < length es → e ≡ get_or es i e → at ≡ i + 1 → Replays (take i es) ts k us mid
    → AnswerMatches a (call_of e) us mid last → ¬ (a ≡ told_by e) → StopsAt es ts k at
stops_at es i at e a ts us k mid last within item place p told other = record {
  before = take i es;
  event = e;
  later = drop (suc i) es;
  parts = parted es i e within item;
  place = place ∙ ap (λ n. n + 1) (sym (before es i within));
  left = us;
  here = mid;
  replays = p;
  answer = a;
  next = last;
  answered = told;
  other = other;
} where
  parted : (xs : List Event) (i : ℕ) (x : Event) → i < length xs → x ≡ get_or xs i x → xs ≡ take i xs ++ x ∷ drop (suc i) xs
  parted [] i x lt is = absurd (omega arith)
  parted (y ∷ xs) zero x lt is = ap (λ z. z ∷ xs) (sym is)
  parted (y ∷ xs) (suc i) x lt is = ap (λ rest. y ∷ rest) (parted xs i x (omega arith) is)

  before : (xs : List Event) (i : ℕ) → i < length xs → length (take i xs) ≡ i
  before [] i lt = absurd (omega arith)
  before (y ∷ xs) zero lt = refl
  before (y ∷ xs) (suc i) lt = ap suc (before xs i (omega arith))

-- what the call of an event leaves where it is answered as the event tells
one_more : (e : Event) (ts : List ℕ) (k next : KernelView) → AnswerMatches (told_by e) (call_of e) ts k next → next ≡ with_event k e
one_more (events.Step pid input) ts k next h = h.1
one_more (events.Guess id pid input) ts k next h = h.2 ∙ ap (λ n. with_event k (events.Guess n pid input)) (sym h.1)
one_more (events.Commit id) ts k next h = h.2
one_more (events.Fail id) ts k next h = h.2

pub leaves : (es : List Event) (ts left : List ℕ) (k last : KernelView) → Replays es ts k left last → last ≡ replayed k es
leaves [] ts left k last p = p.1 ∙ (λ i. record k { trace = sym (append-nil k.trace) i })
leaves (e ∷ es) ts left k last p =
    let first : p.0 ≡ with_event k e = one_more e ts k p.0 p.1 in
    leaves es (held_after (told_by e) (call_of e) ts) left p.0 last p.2 ∙ ap (λ (x : KernelView). replayed x es) first
    ∙ (λ i. record k { trace = append_assoc k.trace (e ∷ []) es i })
