-- One copy more keeps what holds of every boot.
use Rattle.sk_script.proofs.Names.{◌≡◌, ℕ, false, List, [], ◌∷◌, ◌++◌, sym, ap, ◌∙◌, ContentView, BootView, has_copy}
use Rattle.sk_script.proofs.Boots.{copy_declared, copy_found}
use Rattle.sk_script.proofs.boot.Boot.copy.Goals as goal

pub invariant_of-self-2 : goal.invariant_of-self-2
invariant_of-self-2 c =
    let boot : BootView = record { scripts = c.self.inside.scripts; objects = c.self.inside.objects.items; copies = c.self.inside.copies.items; processes = c.self.inside.processes.items } in
    let new : has_copy boot c.args.name ≡ false = ap (λ (b : BootView). has_copy b c.args.name) c.self.view_is ∙ sym c.has_copy.ensures ∙ c.if-has_copy.false in
    let told : (c.push_reserved.new.self.items ≡ c.self.inside.copies.items ++ (c.args.name, c.args.content) ∷ []) =
    c.push_reserved.ensures.items ∙ ap (λ (l : List (List ℕ × ContentView)). l ++ (c.args.name, c.args.content) ∷ []) c.in_ok-reserve.ensures.items in (
      rw told (copy_declared boot c.args.name c.args.content c.self.invariant.0 new),
      rw told (rw (c.in_ok-put.ensures.ok) (copy_found _ _ boot c.args.name _ c.args.content c.self.invariant.1)),
    )
