-- One process more keeps what holds of every boot.
use Rattle.sk_script.proofs.Names.{rules, ◌≡◌, false, true, List, [], ◌∷◌, ◌++◌, sym, ap, ◌∙◌, BootProcess, BootView}
use Rattle.sk_script.proofs.Names.{has_process, has_script}
use Rattle.sk_script.proofs.Boots.{process_declared, process_found}
use Rattle.sk_script.proofs.boot.Boot.process.Goals as goal

pub invariant_of-self-2 : goal.invariant_of-self-2
invariant_of-self-2 c =
    let boot : BootView = record { scripts = c.self.inside.scripts; objects = c.self.inside.objects.items; copies = c.self.inside.copies.items; processes = c.self.inside.processes.items } in
    let made : BootProcess = record { number = c.args.number; script = c.args.script.now; terminal = c.args.terminal } in
    let new : has_process boot c.args.number ≡ false = ap (λ (b : BootView). has_process b c.args.number) c.self.view_is ∙ sym c.has_process.ensures ∙ c.if-has_process.false in
    let there : has_script boot c.args.script.now ≡ true = grind (c.is_none.ensures, c.get.ensures, c.if-is_none.false, c.self.view_is, rules) in
    let told : (c.push_reserved.new.self.items ≡ c.self.inside.processes.items ++ made ∷ []) =
    c.push_reserved.ensures.items ∙ ap (λ (l : List BootProcess). l ++ made ∷ []) c.in_ok-reserve.ensures.items in (
      rw told (process_declared boot c.args.number c.args.script.now c.args.terminal c.self.invariant.0 c.requires.number c.requires.terminal new there),
      rw told (rw (c.in_ok-put.ensures.ok) (process_found _ _ boot c.args.number _ c.args.script.now c.args.terminal c.self.invariant.1)),
    )
