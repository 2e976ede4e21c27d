-- The plain kernel as it is seen: what entities have, and the texts that were said.
use Rattle.std.specs.Prelude.{◌≡◌, ℕ, List, [], map, Option, Result, Ok, Err, refl}
use Rattle.sk_plain.specs.Base.{AllByRecursion, option_map, Effect, perform, put_all, Entity, TerminalMap}
use Rattle.sk_plain.specs.Base.{terminals_code, texts_at, ScriptMap, script_map_code, Input, State, state_code}
use Rattle.sk_plain.specs.Base.{BootView, EntityState, Refusal}
use Rattle.std.specs.Coded.{Coded, code_by, coded×}
use Rattle.std.specs.FinMap as maps
use Rattle.sk_record.specs.Machine.{released}
use Rattle.sk_store.specs.Start.{start_of}
use Rattle.sk_plain.specs.Refusal.{cause}
use Rattle.sk_plain.specs.Act.{act, Saying}
use Rattle.sk_plain.specs.Planned.{refusal_of, texts_after}

-- the scripts that it was booted with, what entities have, and the texts of each terminal, of which none depends on a guess
pub record PlainView : Type 0 where
  pub scripts : ScriptMap
  pub state : State
  pub texts : TerminalMap

abbrev pub plain_code : Coded PlainView
plain_code =
    code_by (ScriptMap × (State × TerminalMap)) (coded× script_map_code (coded× state_code terminals_code))
    (λ k. (k.scripts, (k.state, k.texts))) (λ p. record { scripts = p.0; state = p.1.0; texts = p.1.1 }) (λ _. refl)

-- a plain kernel that was just booted
abbrev pub plain_start : BootView → PlainView
plain_start boot = record { scripts = boot.scripts; state = start_of boot; texts = maps.empty }

-- the texts said to a terminal so far
abbrev pub texts_said : PlainView → ℕ → List (List ℕ)
texts_said k t = released (texts_at k.texts t)

-- all texts said to a terminal so far, whatever they depend on
abbrev pub all_said : PlainView → ℕ → List (List ℕ)
all_said k t = map (λ x. x.0) (texts_at k.texts t)

-- none of the texts depends on a guess
abbrev pub AllClear : TerminalMap → Type 0
AllClear m = (t : ℕ) → AllByRecursion (λ x. x.1 ≡ []) (texts_at m t)

-- what the next step of a process does with an input
abbrev pub step_of : PlainView → ℕ → Input → Result (Effect Entity EntityState Saying) Refusal
step_of k pid input = perform (maps.get k.state) (act k.scripts pid input)

-- after an accepted step
abbrev pub with_said : TerminalMap → Option Saying → TerminalMap
with_said texts said = texts_after texts [] said

abbrev pub stepped : PlainView → Effect Entity EntityState Saying → PlainView
stepped k f = record k { state = put_all f.written k.state; texts = with_said k.texts f.said }

-- a step is taken where it is accepted, and answers its text; a refusal tells the first cause, or want of memory where there is none, and nothing has changed
abbrev pub Steps : Result (Option (List ℕ)) Refusal → Result (Effect Entity EntityState Saying) Refusal → PlainView → PlainView → Type 0
Steps (Ok text) (Ok f) old new = (text ≡ option_map (λ s. s.text) f.said) × (new ≡ stepped old f)
Steps (Ok text) (Err why) old new = ⊥
Steps (Err refusal) does old new = (refusal_of does ≡ cause refusal) × (new ≡ old)
