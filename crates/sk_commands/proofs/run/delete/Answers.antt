-- Each key that is taken is made absent where it is there and not among those that were.
use Rattle.sk_commands.proofs.Names.{◌≡◌, ◌+◌, ◌≤◌, [], ◌∷◌, is_some, vec_len, refl, sym, ap, ◌∙◌, arith, vec_capacity}
use Rattle.sk_commands.proofs.Names.{append-nil, there}
use Rattle.sk_commands.proofs.Deleted.{pops, some_copied, steps}
use Rattle.sk_commands.proofs.run.delete.Goals as goal

pub loop-key-init : goal.loop-key-init
loop-key-init g c =
    let room : vec_len c.reserve.new.self + c.len.result ≤ vec_capacity c.reserve.new.self = c.in_ok-reserve.ensures.ok in
    let many : c.len.result ≡ vec_len c.into_vec-keys.result = c.len.ensures in
    ([], [], append-nil _, sym (append-nil _), refl, omega arith)

pub loop-key-preserved : goal.loop-key-preserved
loop-key-preserved g c =
    let has = g.S.Look.look c.args.store.now in
    let done = c.loop-key.invariant.0 in
    let new = c.loop-key.invariant.1 in
    let seen : c.is_some-is_there.result ≡ is_some (has c.in-Some.key.items) =
    c.is_some-is_there.ensures ∙ some_copied c.value.result ∙ ap is_some (c.value.ensures ∙ ap has c.as_slice.ensures.value) in
    let step =
    steps has c.reserve.new.self.items c.loop-key.written.items c.delete_one.new.written.items new c.len-from.result c.is_some-is_there.result c.in-Some.key
    (there has done) (c.len-from.ensures ∙ c.reserve.new.self.ok.0) seen c.loop-key.invariant.3 c.loop-key.invariant.4 c.delete_one.ensures.written in
    let room : vec_len c.loop-key.written + vec_len c.loop-key.keys ≤ vec_capacity c.loop-key.written = c.loop-key.invariant.5 in
    let less : vec_len c.pop.new.self + 1 ≡ vec_len c.loop-key.keys = c.in-Some.ensures.cases in
    let same : vec_capacity c.delete_one.new.written ≡ vec_capacity c.loop-key.written = c.delete_one.ensures.capacity in
    let most : vec_len c.delete_one.new.written ≤ vec_len c.loop-key.written + 1 = c.delete_one.ensures.len in (
      c.in-Some.key.items ∷ done,
      step.0,
      pops c.loop-key.keys.items c.pop.new.self.items c.in-Some.key done _ c.in-Some.ensures.items c.loop-key.invariant.2,
      step.1,
      step.2,
      omega arith,
    )
