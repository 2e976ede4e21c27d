-- What steps that are no guess ask of a machine, and what they make of it.
use Rattle.std.specs.Prelude.{◌≡◌, ℕ, None, Result, OnOk, OnErr}
use Rattle.sk_machine.specs.Base.{AllocError, HandsIn, MergedTakes, Proc, Input, Process, Scripts, plain, alone_reads}
use Rattle.sk_machine.specs.Base.{Plan, EntityState}
use Rattle.sk_machine.specs.Dependents.{IsOrdered}
use Rattle.sk_machine.specs.Parts.{IsPlanned, Parts, machine_of, undo_state_of}

-- the step is planned, and what is noted is in order
pub record CanTake (m : Parts) (scripts : Scripts) (pid : ℕ) (input : Input) (plan : Plan) : Type 0 where
  pub planned : IsPlanned m scripts pid input plan
  pub order : IsOrdered (undo_state_of m)

-- the step was taken; without memory nothing has changed
pub record HasTaken (result : Result (Unit {0}) AllocError) (scripts : Scripts) (pid : ℕ) (input : Input) (old new : Parts) : Type 0 where
  pub ok : OnOk result (MergedTakes (plain scripts) (machine_of old) (record { pid = pid; input = input; guess = None }) (machine_of new))
  pub guesses : new.guesses ≡ old.guesses
  pub err : OnErr result (new ≡ old)

-- a process became this by private instructions
abbrev pub HandsInProcess : Parts → ℕ → Process → Parts → Type 0
HandsInProcess a pid p b = (scripts : Scripts) → HandsIn (plain scripts) (machine_of a) (Proc pid) (alone_reads pid) (EntityState.Process p) (machine_of b)
