-- What was foreseen of a step is what is listed of it.
use Rattle.sk_run.proofs.Names.{◌≡◌, ℕ, [], Option, Some, None, Result, Ok, Err, refl, ap, ◌∙◌, option_and_then}
use Rattle.sk_run.proofs.Names.{result_ok, Proc, Input, Refusal, Event, KernelView, effect_at, tags_at, footprint_of}
use Rattle.sk_run.proofs.Names.{appended, IsForeseen, Footprint, touched_lines, event_lines, listed, touched, foreseen}
use Rattle.sk_run.proofs.Names.{lines_of, foreseen_lines}
use Rattle.sk_trace.specs.declared.event.Event.TheVariants as events

nothing : (f : Option Footprint) (k : KernelView) → lines_of f k None ≡ []
nothing None k = refl
nothing (Some f) k = refl

committed : (f : Option Footprint) (k : KernelView) (id : ℕ) → lines_of f k (Some (events.Commit id)) ≡ []
committed None k id = refl
committed (Some f) k id = refl

failed : (f : Option Footprint) (k : KernelView) (id : ℕ) → lines_of f k (Some (events.Fail id)) ≡ []
failed None k id = refl
failed (Some f) k id = refl

stepped : (r : Result Footprint Refusal) (k : KernelView) (pid : ℕ) (input : Input) → lines_of (result_ok r) k (Some (events.Step pid input)) ≡ touched_lines r (tags_at k (Proc pid))
stepped (Ok f) k pid input = refl
stepped (Err why) k pid input = refl

guessed : (r : Result Footprint Refusal) (k : KernelView) (id pid : ℕ) (input : Input) → lines_of (result_ok r) k (Some (events.Guess id pid input)) ≡ touched_lines r (tags_at k (Proc pid))
guessed (Ok f) k id pid input = refl
guessed (Err why) k id pid input = refl

by_event : (upcoming : Option (ℕ × Input)) (k new : KernelView) (e : Option Event) → IsForeseen upcoming e → lines_of (option_and_then (touched k) upcoming) new e ≡ event_lines k new e
by_event upcoming k new None h = nothing (option_and_then (touched k) upcoming) new
by_event upcoming k new (Some (events.Step pid input)) h =
    ap (λ u. lines_of (option_and_then (touched k) u) new (Some (events.Step pid input))) h
    ∙ stepped (footprint_of (effect_at k (record { pid = pid; input = input; guess = None }))) new pid input
by_event upcoming k new (Some (events.Guess id pid input)) h =
    ap (λ u. lines_of (option_and_then (touched k) u) new (Some (events.Guess id pid input))) h
    ∙ guessed (footprint_of (effect_at k (record { pid = pid; input = input; guess = Some id }))) new id pid input
by_event upcoming k new (Some (events.Commit id)) h = committed (option_and_then (touched k) upcoming) new id
by_event upcoming k new (Some (events.Fail id)) h = failed (option_and_then (touched k) upcoming) new id

pub lines_are : (upcoming : Option (ℕ × Input)) (k new : KernelView) → IsForeseen upcoming (appended k new) → foreseen_lines (foreseen k upcoming) new ≡ listed k new
lines_are upcoming k new h = by_event upcoming k new (appended k new) h
