-- From the loan of `Map::get_mut` and what the terminal's own call leaves.
use Rattle.sk_terminal.proofs.Names.{◌≡◌, ◌∙◌, sym, ap, option_copied_mut, nat_cmp, seen, not_dropped, the_view}
use Rattle.std.specs.FinMap as map
use Rattle.sk_terminal.proofs.TerminalMaps.{changed_at, none_at}
use Rattle.sk_terminal.proofs.numbered.Numbered.drop_at.Goals.{in-Some, in_default}
use Rattle.sk_terminal.proofs.numbered.Numbered.drop_at.Goals as goal

pub returns : goal.returns
returns c t =
    let k = c.args.number in
    let m = c.args.self.now in
    let found = c.get_mut.ensures.value ∙ ap (λ n. map.get n k) c.self.view_is in
    elim c.match-get_mut.branch [
      | in-Some w ↦
          let v = w.drop_of.new.self in
          let lent : seen nat_cmp (c.get_mut.follows.lender v) ≡ map.insert (seen nat_cmp c.self.inside.terminals) k v = rw w.in-Some.is at (c.get_mut.follows.holds v) in
          ap (λ n. map.get n t) (ap the_view w.self-inside-is ∙ lent ∙ ap (λ n. map.insert n k v) c.self.view_is)
          ∙ changed_at (not_dropped c.args.id) m k w.in-Some.terminal.now v (sym (ap option_copied_mut w.in-Some.is) ∙ found) w.drop_of.ensures t
      | in_default w ↦
          ap (λ n. map.get n t) (ap the_view w.self-inside-is ∙ ap (seen nat_cmp) c.get_mut.follows.holds-at-none ∙ c.self.view_is)
          ∙ none_at (not_dropped c.args.id) m k (sym (ap option_copied_mut w.in_default.is) ∙ found) t
    ]
