-- The step of an entry does what its deed says.
use Rattle.sk_served.proofs.Names.{◌≡◌, ℕ, List, [], ◌∷◌, ◌++◌, map, Option, Some, Result, Ok, Err, refl, sym, ap, ◌∙◌}
use Rattle.sk_served.proofs.Names.{option_map, perform, with_read, Effect, Step, Ask, Refuse, Done, map_append, asking}
use Rattle.sk_served.proofs.Names.{effect_of, Answer, Have, comes_to, looks_at, works, act_does, act, batch_keys, deed}
use Rattle.sk_served.proofs.Names.{logged, Asked, Entry, Opens, Runs}

-- what keys have
abbrev values : List (List ℕ) → Have → List (List ℕ × Option (List ℕ))
values keys has = map (λ k. (k, has k)) keys

-- what was done, where these keys are looked at too, with the ticket
abbrev ticketed : List (List ℕ) → ℕ → Have → Result (Effect (List ℕ) (List ℕ) (ℕ × Answer)) (Unit {0})
    → Result (Effect (List ℕ) (List ℕ) (ℕ × (ℕ × Answer))) (Unit {0})
ticketed keys ticket has (Ok f) = Ok (record { read = f.read ++ values keys has; written = f.written; said = option_map (λ s. (s.0, (ticket, s.1))) f.said })
ticketed keys ticket has (Err why) = Err why

read_first : (keys : List (List ℕ)) (ticket : ℕ) (has : Have) (key : List ℕ) (value : Option (List ℕ)) (o : Result (Effect (List ℕ) (List ℕ) (ℕ × Answer)) (Unit {0}))
    → with_read key value (ticketed keys ticket has o) ≡ ticketed keys ticket has (with_read key value o)
read_first keys ticket has key value (Ok f) = refl
read_first keys ticket has key value (Err why) = refl

asked : (keys : List (List ℕ)) (has : Have) (written : List (List ℕ × Option (List ℕ))) (said : Option (ℕ × (ℕ × Answer)))
    → perform has (asking keys (Done written said)) ≡ Ok (record { read = values keys has; written = written; said = said })
asked [] has written said = refl
asked (key ∷ keys) has written said = ap (with_read key (has key)) (asked keys has written said)

performed : (keys : List (List ℕ)) (ticket : ℕ) (has : Have) (step : Step (List ℕ) (List ℕ) (ℕ × Answer) (Unit {0}))
    → perform has (logged keys ticket step) ≡ ticketed keys ticket has (perform has step)
performed keys ticket has (Ask key next) =
    ap (with_read key (has key)) (performed keys ticket has (next (has key))) ∙ read_first keys ticket has key (has key) (perform has (next (has key)))
performed keys ticket has (Refuse why) = refl
performed keys ticket has (Done written said) = asked keys has written (option_map (λ s. (s.0, (ticket, s.1))) said)

-- what work does, where this is read
abbrev done_by : List (List ℕ × Option (List ℕ)) → Asked → Have
    → Result (Effect (List ℕ) (List ℕ) (ℕ × (ℕ × Answer))) (Unit {0})
done_by read a has = Ok (record {
  read = read;
  written = (comes_to a.known a.work has).written;
  said = Some (a.channel, (a.ticket, (comes_to a.known a.work has).reply));
})

pub acts : (n : Entry) (has : Have) → perform has (act n) ≡ Ok (effect_of has (deed n has))
acts (Opens n) has = refl
acts (Runs a) has =
    performed (batch_keys a.batch) a.ticket has (works a.channel a.known a.work)
    ∙ ap (ticketed (batch_keys a.batch) a.ticket has) (act_does a.channel a.known a.work has)
    ∙ ap (λ read. done_by read a has) (sym (map_append (λ k. (k, has k)) (looks_at a.known a.work) (batch_keys a.batch)))
