-- Where the directory has a number, it is one more.
use Rattle.sk_undo.proofs.Cites.{◌≡◌, ◌+◌, true, cond, Some, sym, ap, ◌∙◌, is_some, option_copied_mut}
use Rattle.sk_undo.proofs.Cites.{unwrap_or, object_cmp, count_in, the_view}
use Rattle.std.specs.FinMap as map
use Rattle.sk_map.specs.Seen.{seen}
use Rattle.sk_undo.proofs.names.Names.add_one.Goals.{in-Some, in_default}
use Rattle.sk_undo.proofs.names.Names.add_one.Goals as goal

found_is : (c : goal.Joined-get_mut) → option_copied_mut c.get_mut.result ≡ map.get c.args.self.now c.args.directory.now
found_is c = c.get_mut.ensures.value ∙ ap (λ m. map.get m c.args.directory.now) c.self.view_is

pub returns : goal.returns
returns c =
    let d = c.args.directory.now in
    let n = count_in c.args.self.now d + 1 in
    elim c.match-get_mut.branch [
      | in-Some w ↦
          let had : Some w.in-Some.count.now ≡ map.get c.args.self.now d = sym (ap option_copied_mut w.in-Some.is) ∙ found_is c in
          let there : is_some (map.get c.args.self.now d) ≡ true = sym (ap is_some had) in
          ap the_view w.self-inside-is
          ∙ (rw w.in-Some.is at (c.get_mut.follows.holds (w.in-Some.count.now + 1)))
          ∙ ap (λ m. map.insert m d (w.in-Some.count.now + 1)) c.self.view_is
          ∙ ap (λ k. map.insert c.args.self.now d k) (ap (λ o. unwrap_or o 0 + 1) had)
          ∙ sym (ap (λ b. cond b (map.insert c.args.self.now d n) c.args.self.now) there)
      | in_default w ↦
          let gone = sym (found_is c) ∙ ap option_copied_mut w.in_default.is in
          ap the_view w.self-inside-is ∙ ap (seen object_cmp) c.get_mut.follows.holds-at-none ∙ c.self.view_is
          ∙ sym (ap (λ o. cond (is_some o) (map.insert c.args.self.now d n) c.args.self.now) gone)
    ]
