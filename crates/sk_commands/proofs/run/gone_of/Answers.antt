-- Each key that is taken is made absent where it is there and not among those that were.
use Rattle.sk_commands.proofs.Names.{◌≡◌, [], ◌∷◌, is_some, refl, sym, ap, ◌∙◌, append-nil, there, told}
use Rattle.sk_commands.proofs.Deleted.{pops, some_copied}
use Rattle.sk_commands.proofs.run.gone_of.Goals as goal

pub loop-key-init : goal.loop-key-init
loop-key-init g c = ([], append-nil _, ap told c.new-gone.ensures)

pub loop-key-preserved : goal.loop-key-preserved
loop-key-preserved g c =
    let has = g.S.Look.look c.args.store.now in
    let done = c.loop-key.invariant.0 in
    let seen : c.is_some-is_there.result ≡ is_some (has c.in-Some.key.items) =
    c.is_some-is_there.ensures ∙ some_copied c.value.result ∙ ap is_some (c.value.ensures ∙ ap has c.as_slice.ensures.value) in (
      c.in-Some.key.items ∷ done,
      pops c.loop-key.keys.items c.pop.new.self.items c.in-Some.key done _ c.in-Some.ensures.items c.loop-key.invariant.1,
      c.in_ok-note_gone.ensures has (there has done) seen c.loop-key.invariant.2,
    )
