-- What the parts become, as the machine of records has it: after a step, a commit and a failure.
use Rattle.sk_machine.proofs.Names.{◌≡◌, ℕ, true, false, cond, List, [], ◌∷◌, ◌++◌, Option, Some, None, Ok, refl, sym}
use Rattle.sk_machine.proofs.Names.{◌∙◌, ap, subst, ◌==◌, eqb-true, append-nil, perform, without, noted, opened}
use Rattle.sk_machine.proofs.Names.{step_tags, still_open, not_struck, Fails, lightened, not_dropped, with_drawn}
use Rattle.sk_machine.proofs.Names.{with_status, with_failure, Merges, MergedTakes, MergedCommits, is_in, said_by}
use Rattle.sk_machine.proofs.Names.{Committed, status_since, drawn, next_of, status-drawn, Input, TaggedText}
use Rattle.sk_machine.proofs.Names.{TerminalMap, texts_at, texts_said, entity_cmp, look_at, log_at, Lightened, Unwound}
use Rattle.sk_machine.proofs.Names.{EntryView, Scripts, Saying, act, plain, effect_of, writes_of, texts_after}
use Rattle.sk_machine.proofs.Names.{said_in_plan, PlanView, Parts, machine_of, undo_state_of, planned_effect, said_at}
use Rattle.sk_machine.proofs.Names.{Performed, entities_of, SlotMap}
use Rattle.std.proofs.Common.{arith}

-- ---- texts

said_more : (t : ℕ) (xs : List TaggedText) (x : TaggedText) → said_at t (xs ++ x ∷ []) ≡ said_at t xs ++ (record { to = t; text = x.0 }, x.1) ∷ []
said_more t [] x = refl
said_more t (y ∷ xs) x = ap (λ ys. (record { to = t; text = y.0 }, y.1) ∷ ys) (said_more t xs x)

said_after : (scripts : Scripts) (m : TerminalMap) (tags : List ℕ) (said : Option Saying) (t : ℕ)
    → said_at t (texts_at (texts_after m tags said) t) ≡ said_at t (texts_at m t) ++ said_by (plain scripts) t said tags
said_after scripts m tags None t = sym (append-nil (said_at t (texts_at m t)))
said_after scripts m tags (Some s) t =
    ap (said_at t) (texts_said m s.to (s.text, tags) t)
    ∙ elim (s.to == t) as (λ b. (s.to == t) ≡ b → said_at t (texts_at m t ++ cond b ((s.text, tags) ∷ []) []) ≡ said_at t (texts_at m t) ++ cond b ((s, tags) ∷ []) []) [
      | true ↦ λ is. said_more t (texts_at m t) (s.text, tags) ∙ (λ i. said_at t (texts_at m t) ++ (record { to = sym (eqb-true s.to t is) i; text = s.text }, tags) ∷ [])
      | false ↦ λ apart. ap (said_at t) (append-nil (texts_at m t)) ∙ sym (append-nil (said_at t (texts_at m t)))
    ] refl

-- the texts after the commit of a guess
said_lightened : (t g : ℕ) (xs : List TaggedText) → said_at t (lightened g xs) ≡ lightened g (said_at t xs)
said_lightened t g [] = refl
said_lightened t g (x ∷ xs) = ap (λ ys. (record { to = t; text = x.0 }, without g x.1) ∷ ys) (said_lightened t g xs)

-- and after its failure
said_left : (t g : ℕ) (xs : List TaggedText) → said_at t (not_dropped g xs) ≡ not_dropped g (said_at t xs)
said_left t g [] = refl
said_left t g (x ∷ xs) = grind (arith, said_left t g xs)

-- ---- the parts

-- a step, with the status of its guess and its text
pub takes_of : (scripts : Scripts) (a b : Parts) (n : EntryView) (plan : PlanView) (tags : List ℕ)
    → perform (look_at a.slots) (act scripts n.pid n.input) ≡ Ok (effect_of (look_at a.slots) n.pid n.input plan)
    → tags ≡ step_tags (undo_state_of a) (planned_effect a n plan)
    → Performed a.slots tags (writes_of (look_at a.slots) n.pid plan) b.slots
    → b.opens ≡ a.opens ++ opened n.guess tags
    → ((g : ℕ) → status_since b.guesses g ≡ with_drawn n.guess (status_since a.guesses) g)
    → b.texts ≡ texts_after a.texts tags (said_in_plan plan)
    → MergedTakes (plain scripts) (machine_of a) n (machine_of b)
takes_of scripts a b n plan tags accepted is did opens status texts = record {
  effect = effect_of (look_at a.slots) n.pid n.input plan;
  accepted = accepted;
  look = did.look;
  logs = λ e. subst (λ ts. Merges [] (log_at a.slots e ++ noted (is_in entity_cmp (entities_of (writes_of (look_at a.slots) n.pid plan)) e) ts (look_at a.slots e) []) (log_at b.slots e)) is (did.logs e);
  opens = opens ∙ ap (λ ts. a.opens ++ opened n.guess ts) is;
  status = status;
  texts = λ t.
      ap (λ m. said_at t (texts_at m t)) texts ∙ said_after scripts a.texts tags (said_in_plan plan) t
      ∙ ap (λ ts. said_at t (texts_at a.texts t) ++ said_by (plain scripts) t (said_in_plan plan) ts) is;
}

-- a guess, whose number is the next
pub takes_guess : (scripts : Scripts) (a b : Parts) (pid : ℕ) (input : Input) (id : ℕ) (plan : PlanView) (tags : List ℕ)
    → id ≡ next_of a.guesses
    → perform (look_at a.slots) (act scripts pid input) ≡ Ok (effect_of (look_at a.slots) pid input plan)
    → tags ≡ step_tags (undo_state_of a) (planned_effect a (record { pid = pid; input = input; guess = Some id }) plan)
    → Performed a.slots tags (writes_of (look_at a.slots) pid plan) b.slots
    → b.opens ≡ a.opens ++ (id, tags) ∷ []
    → b.texts ≡ texts_after a.texts tags (said_in_plan plan)
    → b.guesses ≡ drawn a.guesses
    → MergedTakes (plain scripts) (machine_of a) (record { pid = pid; input = input; guess = Some (next_of a.guesses) }) (machine_of b)
takes_guess scripts a b pid input id plan tags number accepted is did opens texts guesses =
    subst (λ k. MergedTakes (plain scripts) (machine_of a) (record { pid = pid; input = input; guess = Some k }) (machine_of b)) number
    (takes_of scripts a b (record { pid = pid; input = input; guess = Some id }) plan tags accepted is did opens
    (λ g. ap (λ v. status_since v g) guesses ∙ status-drawn a.guesses g ∙ ap (λ k. with_drawn (Some k) (status_since a.guesses) g) (sym number))
    texts)

pub commits_of : (a b : Parts) (g : ℕ) → Lightened a.slots g b.slots → b.opens ≡ still_open g a.opens
    → ((h : ℕ) → status_since b.guesses h ≡ with_status g Committed (status_since a.guesses) h)
    → ((t : ℕ) → texts_at b.texts t ≡ lightened g (texts_at a.texts t))
    → MergedCommits (machine_of a) g (machine_of b)
commits_of a b g did opens status texts = record {
  look = did.look;
  logs = did.logs;
  opens = opens;
  status = status;
  texts = λ t. ap (said_at t) (texts t) ∙ said_lightened t g (texts_at a.texts t);
}

pub fails_of : (a b : Parts) (g : ℕ) → Unwound a.slots g b.slots → b.opens ≡ not_struck g a.opens
    → ((h : ℕ) → status_since b.guesses h ≡ with_failure g a.opens (status_since a.guesses) h)
    → ((t : ℕ) → texts_at b.texts t ≡ not_dropped g (texts_at a.texts t))
    → Fails (machine_of a) g (machine_of b)
fails_of a b g did opens status texts = record {
  state = record { look = did.look; logs = did.logs; opens = opens };
  status = status;
  texts = λ t. ap (said_at t) (texts t) ∙ said_left t g (texts_at a.texts t);
}

-- equal in each part
pub same_parts : (a b : Parts) → a.slots ≡ b.slots → a.opens ≡ b.opens → a.guesses ≡ b.guesses → a.texts ≡ b.texts → a ≡ b
same_parts a b slots opens guesses texts = λ i. record { slots = slots i; opens = opens i; guesses = guesses i; texts = texts i }

-- or but for what is in place, which is equal
pub with_slots : (p : Parts) (m : SlotMap) → m ≡ p.slots → record p { slots = m } ≡ p
with_slots p m is = λ i. record p { slots = is i }
