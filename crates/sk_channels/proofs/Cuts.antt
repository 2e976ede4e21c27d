-- Streams that were cut in different ways.
use Rattle.sk_channels.proofs.Names.{◌≡◌, ◌≢◌, ℕ, ◌+◌, Bool, true, false, List, [], ◌∷◌, ◌++◌, drop, get_or, map}
use Rattle.sk_channels.proofs.Names.{Option, Some, None, refl, sym, ◌∙◌, ap, subst, inl, inr, ◌⊎◌, true≢false}
use Rattle.sk_channels.proofs.Names.{map-append, Fault, Limits, HasFault, IsPart, one_fault, fault_is_final}
use Rattle.sk_channels.proofs.Names.{parts_are_none, read_once, Ask, Text, Queue, Say, Do, Reject, Inlet, Requests}
use Rattle.sk_channels.proofs.Names.{with_words, asks_of, untold, AskInTurn, HadMemory, with_posed, IsOpen, IsClosed}
use Rattle.sk_channels.proofs.Names.{HasHeard, with_ask, AsksAreSaid, CutsDontMatter, TicketsInOrder}
use Rattle.sk_channels.specs.declared.rejection.Rejection.TheVariants as rejections
use Rattle.sk_channels.proofs.Asks.{asks_are, had_before, had_more, text_on}
use Rattle.sk_channels.proofs.Heard.{opened, closed_one, IsHosts}

-- Of two fronts of the same bytes one is the front of the other.
fronts : (xs a ys b : List ℕ) → xs ++ a ≡ ys ++ b → ((m : List ℕ) × (ys ≡ xs ++ m)) ⊎ ((m : List ℕ) × (xs ≡ ys ++ m))
fronts [] a ys b is = inl (ys, refl)
fronts (x ∷ xs) a [] b is = inr (x ∷ xs, refl)
fronts (x ∷ xs) a (y ∷ ys) b is =
    let first : x ≡ y = ap (λ (zs : List ℕ). get_or zs 0 0) is in
    elim (fronts xs a ys b (ap (λ (zs : List ℕ). drop 1 zs) is)) [
      | inl f ↦ inl (f.0, λ i. sym first i ∷ f.1 i)
      | inr f ↦ inr (f.0, λ i. first i ∷ f.1 i)
    ]

-- The rest behind what was told is no request that is whole.
open_part : (limits : Limits) (asked : List Ask) (stream : List ℕ) (inlet : Inlet)
    (is : IsOpen limits asked stream inlet) → IsPart limits is.read.rest
open_part limits asked stream inlet is = subst (λ l. IsPart l is.read.rest) is.read.same
    (parts_are_none is.read.rest inlet.reader is.read.behind)

closed_part : (limits : Limits) (asked : List Ask) (stream : List ℕ) (is : IsClosed limits asked stream)
    → IsPart limits (is.faulty ++ is.behind)
closed_part limits asked stream is words text more request same = fault_is_final limits is.fault is.faulty is.has words
    text is.behind more request same

-- what is asked for, the host's request among it
all_asks : (queue : Option Queue) (told : Requests) (asked : List Ask) (posed : Option (List (List ℕ)))
    → IsHosts queue posed → AskInTurn None (with_words told) asked queue → HadMemory asked
    → with_ask (map untold asked) posed ≡ asks_of None (with_words (with_posed told posed))
all_asks queue told asked None hosts asks had = asks_are None (with_words told) asked queue asks had
all_asks queue told asked (Some words) hosts asks had =
    sym (map-append untold asked (Do (Say (Text [])) ∷ []))
    ∙ asks_are None (with_words (told ++ Some words ∷ [])) (asked ++ Do (Say (Text [])) ∷ []) queue
    (text_on queue told asked words [] hosts asks) (had_more asked (Say (Text [])) had)

open_asks : (limits : Limits) (asked : List Ask) (stream : List ℕ) (inlet : Inlet)
    (is : IsOpen limits asked stream inlet) → HadMemory asked
    → with_ask (map untold asked) inlet.posed ≡ asks_of None (with_words (with_posed is.told inlet.posed))
open_asks limits asked stream inlet is had =
    all_asks inlet.session.queue is.told asked inlet.posed is.hosts is.asks had

closed_asks : (limits : Limits) (asked : List Ask) (stream : List ℕ) (is : IsClosed limits asked stream)
    → HadMemory asked → map untold is.before ≡ asks_of None (with_words is.told)
closed_asks limits asked stream is had =
    asks_are None (with_words is.told) is.before is.queue is.asks
    (had_before is.before (Reject (rejections.Fault is.fault)) (subst HadMemory is.rejects had))

-- the host is not asked, and what is asked for ends with the fault
closed_all : (limits : Limits) (asked : List Ask) (stream : List ℕ) (posed : Option (List (List ℕ)))
    (is : IsClosed limits asked stream) → posed ≡ None → HadMemory asked
    → with_ask (map untold asked) posed ≡ asks_of None (with_words is.told) ++ Reject (rejections.Fault is.fault) ∷ []
closed_all limits asked stream posed is none had =
    let fault : List Ask = Reject (rejections.Fault is.fault) ∷ [] in
    ap (with_ask (map untold asked)) none ∙ ap (map untold) is.rejects ∙ map-append untold is.before fault
    ∙ ap (λ asks. asks ++ fault) (closed_asks limits asked stream is had)

pub asks_are_said : AsksAreSaid
asks_are_said limits asked stream told handed channel has is_open had =
    let is = opened limits asked stream channel.inlet is_open has.heard in (
      with_posed is.told channel.inlet.posed,
      is.read.rest,
      is.read.splits,
      open_part limits asked stream channel.inlet is,
      open_asks limits asked stream channel.inlet is had,
    )

both_open : (limits : Limits) (asked other : List Ask) (stream : List ℕ) (inlet inlet' : Inlet)
    → IsOpen limits asked stream inlet → IsOpen limits other stream inlet'
    → HadMemory asked → HadMemory other → with_ask (map untold asked) inlet.posed ≡ with_ask (map untold other) inlet'.posed
both_open limits asked other stream inlet inlet' one two had had' =
    let same = read_once limits (with_posed one.told inlet.posed) (with_posed two.told inlet'.posed) one.read.rest
    two.read.rest stream one.read.splits
    (open_part limits asked stream inlet one) two.read.splits (open_part limits other stream inlet' two) in
    open_asks limits asked stream inlet one had ∙ ap (λ ts. asks_of None (with_words ts)) same.0
    ∙ sym (open_asks limits other stream inlet' two had')

-- Two faults at the front of one stream are one fault.
same_fault : (limits : Limits) (f g : Fault) (xs a ys b : List ℕ) → HasFault limits f xs → HasFault limits g ys
    → xs ++ a ≡ ys ++ b → f ≡ g
same_fault limits f g xs a ys b has has' is = elim (fronts xs a ys b is) [
  | inl m ↦ one_fault limits f g xs m.0 has (subst (HasFault limits g) m.1 has')
  | inr m ↦ sym (one_fault limits g f ys m.0 has' (subst (HasFault limits f) m.1 has))
]

both_closed : (limits : Limits) (asked other : List Ask) (stream : List ℕ) (posed posed' : Option (List (List ℕ)))
    → IsClosed limits asked stream → IsClosed limits other stream → posed ≡ None → posed' ≡ None
    → HadMemory asked → HadMemory other → with_ask (map untold asked) posed ≡ with_ask (map untold other) posed'
both_closed limits asked other stream posed posed' one two none none' had had' =
    let same = read_once limits one.told two.told (one.faulty ++ one.behind)
    (two.faulty ++ two.behind) stream one.splits (closed_part limits asked stream one) two.splits
    (closed_part limits other stream two) in
    let fault : one.fault ≡ two.fault = same_fault limits one.fault two.fault one.faulty one.behind two.faulty
    two.behind one.has two.has same.1 in
    closed_all limits asked stream posed one none had
    ∙ (λ i. asks_of None (with_words (same.0 i)) ++ Reject (rejections.Fault (fault i)) ∷ [])
    ∙ sym (closed_all limits other stream posed' two none' had')

one_closed : (limits : Limits) (asked other : List Ask) (stream : List ℕ) (inlet : Inlet)
    (posed : Option (List (List ℕ))) → IsOpen limits asked stream inlet → IsClosed limits other stream → posed ≡ None
    → HadMemory asked → HadMemory other
    → (fault : Fault) × (with_ask (map untold other) posed
    ≡ with_ask (map untold asked) inlet.posed ++ Reject (rejections.Fault fault) ∷ [])
one_closed limits asked other stream inlet posed one two none had had' =
    let same = read_once limits (with_posed one.told inlet.posed) two.told one.read.rest (two.faulty ++ two.behind) stream
    one.read.splits (open_part limits asked stream inlet one) two.splits (closed_part limits other stream two) in
    let before : asks_of None (with_words two.told) ≡ with_ask (map untold asked) inlet.posed =
    ap (λ ts. asks_of None (with_words ts)) (sym same.0) ∙ sym (open_asks limits asked stream inlet one had) in (
      two.fault,
      closed_all limits other stream posed two none had'
          ∙ ap (λ xs. xs ++ Reject (rejections.Fault two.fault) ∷ []) before,
    )

alike : (limits : Limits) (asked other : List Ask) (stream : List ℕ) (inlet inlet' : Inlet) (closed closed' : Bool)
    → inlet.closed ≡ closed → inlet'.closed ≡ closed' → closed ≡ closed'
    → HasHeard limits asked stream inlet → HasHeard limits other stream inlet' → HadMemory asked → HadMemory other
    → with_ask (map untold asked) inlet.posed ≡ with_ask (map untold other) inlet'.posed
alike limits asked other stream inlet inlet' false false is is' same one two had had' =
    both_open limits asked other stream inlet inlet' (opened limits asked stream inlet is one)
    (opened limits other stream inlet' is' two) had had'
alike limits asked other stream inlet inlet' true true is is' same one two had had' =
    let first = closed_one limits asked stream inlet is one in
    let second = closed_one limits other stream inlet' is' two in
    both_closed limits asked other stream inlet.posed inlet'.posed first.0 second.0 first.1 second.1 had had'
alike limits asked other stream inlet inlet' true false is is' same one two had had' = absurd (true≢false same)
alike limits asked other stream inlet inlet' false true is is' same one two had had' = absurd (true≢false (sym same))

pub cuts_dont_matter : CutsDontMatter
cuts_dont_matter limits asked other stream told said handed given channel channel' one two had had' = (
  (λ same. alike limits asked other stream channel.inlet channel'.inlet channel.inlet.closed channel'.inlet.closed refl
      refl same one.heard two.heard had had'),
  (λ is_open closed.
      let second = closed_one limits other stream channel'.inlet closed two.heard in
      one_closed limits asked other stream channel.inlet channel'.inlet.posed
      (opened limits asked stream channel.inlet is_open one.heard) second.0 second.1 had had'),
)

pub tickets_in_order : TicketsInOrder
tickets_in_order limits asked stream told handed channel has = ((channel.outlet.waiting, sym has.said.bytes), has.given)
