-- What a channel carries out, request by request.
use Rattle.sk_replay.proofs.Names.{◌≡◌, ℕ, List, [], ◌∷◌, ◌++◌, unwrap_or, Option, Some, None, refl, sym, ap, subst}
use Rattle.sk_replay.proofs.Names.{◌∙◌, order_of, turn, with_work, work_for, Fault, Error, Queue, Work, Say, fault_in}
use Rattle.sk_replay.proofs.Names.{queue_after, AreTaken, HasCarried, Channel}

pub queue_on : (queue : Option Queue) (rs : List (List (List ℕ))) (words : List (List ℕ)) → queue_after queue (rs ++ words ∷ []) ≡ (turn (queue_after queue rs) (order_of words)).queue
queue_on queue [] words = refl
queue_on queue (r ∷ rs) words = queue_on (turn queue (order_of r)).queue rs words

with_more : (w : Work) (xs ys : List Work) → with_work w (xs ++ ys) ≡ with_work w xs ++ ys
with_more (Say reply) xs ys = refl
with_more other xs ys = refl

pub works_on : (queue : Option Queue) (rs : List (List (List ℕ))) (words : List (List ℕ)) → work_for queue (rs ++ words ∷ []) ≡ work_for queue rs ++ with_work (turn (queue_after queue rs) (order_of words)).work []
works_on queue [] words = refl
works_on queue (r ∷ rs) words =
    let next = turn queue (order_of r) in
    ap (with_work next.work) (works_on next.queue rs words)
    ∙ with_more next.work (work_for next.queue rs) (with_work (turn (queue_after next.queue rs) (order_of words)).work [])

pub taken_on : (queue : Option Queue) (rs : List (List (List ℕ))) (words : List (List ℕ)) → AreTaken queue rs → fault_in (turn (queue_after queue rs) (order_of words)).work ≡ None → AreTaken queue (rs ++ words ∷ [])
taken_on queue [] words taken one = (one, tt)
taken_on queue (r ∷ rs) words taken one = (taken.0, taken_on (turn queue (order_of r)).queue rs words taken.1 one)

-- one request more came
pub carried_on : (rs : List (List (List ℕ))) (words : List (List ℕ)) (old new : Channel) (work : Work) → HasCarried rs old
    → work ≡ (turn old.session.queue (order_of words)).work → new.session.queue ≡ (turn old.session.queue (order_of words)).queue
    → fault_in work ≡ None → new.works.items ≡ old.works.items ++ with_work work [] → HasCarried (rs ++ words ∷ []) new
carried_on rs words old new work carried is left taken works =
    let before = queue_after None rs in
    let same : work ≡ (turn before (order_of words)).work = is ∙ ap (λ q. (turn q (order_of words)).work) carried.queue in
    record {
      taken = taken_on None rs words carried.taken (subst (λ w. fault_in w ≡ None) same taken);
      queue = left ∙ ap (λ q. (turn q (order_of words)).queue) carried.queue ∙ sym (queue_on None rs words);
      works = works ∙ ap (λ ws. ws ++ with_work work []) carried.works ∙ ap (λ w. work_for None rs ++ with_work w []) same ∙ sym (works_on None rs words);
    }

says_fault : (w : Work) (fault : Fault) → fault_in w ≡ Some fault → w ≡ Say (Error fault)
says_fault (Say (Error other)) fault e = ap (λ o. Say (Error (unwrap_or o other))) e
says_fault s fault e = cc

-- a request to which a fault is replied
pub refused_behind : (rs : List (List (List ℕ))) (words : List (List ℕ)) (old : Channel) (work : Work) (fault : Fault) → HasCarried rs old → work ≡ (turn old.session.queue (order_of words)).work → fault_in work ≡ Some fault
    → (turn (queue_after None rs) (order_of words)).work ≡ Say (Error fault)
refused_behind rs words old work fault carried is said =
    sym (is ∙ ap (λ q. (turn q (order_of words)).work) carried.queue) ∙ says_fault work fault said
