-- The step of an epoch is taken on the next guess, whose token stands last in the line.
use Rattle.real_epochs.proofs.Names.{◌≡◌, ◌∷◌, ◌++◌, [], Some, ap, sym, ◌∙◌, subst, next_of, Begun, Entry, Opens, deed_of}
use Rattle.std.proofs.Common.{rules, ℕ}
use Rattle.std.proofs.lemmas.Result.{err_from_is_err_and}
use Rattle.sk_guesses.specs.Token.{Token}
use Rattle.real_epochs.specs.Calls.{Began}
use Rattle.real_epochs.specs.Story.{with_call, Begins}
use Rattle.real_epochs.specs.Tells.{EpochsView, Goes}
use Rattle.real_epochs.proofs.Begin.{begin_goes}
use Rattle.real_epochs.proofs.Plugs.{began_not, same_stays, took_deed}
use Rattle.real_epochs.proofs.epochs.Epochs.begin.Goals as goal

pub returns-in_err-token : goal.returns-in_err-token
returns-in_err-token c =
    let a : EpochsView = record { parts = c.self.inside.kernel; line = c.self.inside.line.items } in
    let b : EpochsView = record { parts = c.guess.new.self; line = c.reserve.new.self.items } in
    subst (λ (v : EpochsView). Began c.args.checkpoint c.from_residual-in_err-token.result v b) c.self.view_is
    (began_not a b c.args.checkpoint c.in_err-token.field-0.0 c.from_residual-in_err-token.result
    (err_from_is_err_and c.from_residual-in_err-token.result c.from_residual-in_err-token.ensures.1) c.in_err-token.ensures.why
    (same_stays a b c.in_err-token.ensures.err c.reserve.ensures.items))

pub invariant_of-self-2 : goal.invariant_of-self-2
invariant_of-self-2 c =
    let a : EpochsView = record { parts = c.self.inside.kernel; line = c.self.inside.line.items } in
    let b : EpochsView = record { parts = c.guess.new.self; line = c.push_reserved.new.self.items } in
    let n : Entry = Opens (next_of a.parts.guesses) c.args.checkpoint in
    let took = took_deed a.parts b.parts (Some (next_of a.parts.guesses)) c.in_ok-step.step.looked.items c.in_ok-step.step.written.items c.in_ok-step.step.said (deed_of n)
    c.in_ok-step.ensures.looked c.in_ok-step.ensures.written c.in_ok-step.ensures.said c.in_ok-token.ensures.ok in
    let line : b.line ≡ a.line ++ (record { token = record { kernel = a.parts.guesses.kernel; id = next_of a.parts.guesses }; checkpoint = c.args.checkpoint }) ∷ [] =
    c.push_reserved.ensures.items ∙ ap (λ xs. xs ++ (record { token = c.in_ok-token.token; checkpoint = c.args.checkpoint }) ∷ []) c.reserve.ensures.items
    ∙ ap (λ (t : Token). a.line ++ (record { token = t; checkpoint = c.args.checkpoint }) ∷ []) c.in_ok-token.ensures.token in (
      with_call (Begins (next_of a.parts.guesses) c.args.checkpoint) c.self.invariant.0,
      begin_goes a b c.args.checkpoint took line c.self.invariant.0 c.self.invariant.1,
    )

pub returns : goal.returns
returns c =
    let a : EpochsView = record { parts = c.self.inside.kernel; line = c.self.inside.line.items } in
    let b : EpochsView = record { parts = c.guess.new.self; line = c.push_reserved.new.self.items } in
    let n : Entry = Opens (next_of a.parts.guesses) c.args.checkpoint in
    let took = took_deed a.parts b.parts (Some (next_of a.parts.guesses)) c.in_ok-step.step.looked.items c.in_ok-step.step.written.items c.in_ok-step.step.said (deed_of n)
    c.in_ok-step.ensures.looked c.in_ok-step.ensures.written c.in_ok-step.ensures.said c.in_ok-token.ensures.ok in
    let line : b.line ≡ a.line ++ (record { token = record { kernel = a.parts.guesses.kernel; id = next_of a.parts.guesses }; checkpoint = c.args.checkpoint }) ∷ [] =
    c.push_reserved.ensures.items ∙ ap (λ xs. xs ++ (record { token = c.in_ok-token.token; checkpoint = c.args.checkpoint }) ∷ []) c.reserve.ensures.items
    ∙ ap (λ (t : Token). a.line ++ (record { token = t; checkpoint = c.args.checkpoint }) ∷ []) c.in_ok-token.ensures.token in
    let said : c.number-number.result ≡ c.in_ok-token.token.id = search rules in
    let number : c.number-number.result ≡ next_of a.parts.guesses = said ∙ ap (λ (t : Token). t.id) c.in_ok-token.ensures.token in (
      number ∙ ap (λ (v : EpochsView). next_of v.parts.guesses) c.self.view_is,
      subst (λ (v : EpochsView). Goes (Begins c.number-number.result c.args.checkpoint) v b) c.self.view_is
          (subst (λ (k : ℕ). Goes (Begins k c.args.checkpoint) a b) (sym number) (begin_goes a b c.args.checkpoint took line)),
    )
