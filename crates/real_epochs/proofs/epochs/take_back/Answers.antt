-- The oldest token is failed, and those of the others are let go of.
use Rattle.real_epochs.proofs.Names.{◌≡◌, ◌==◌, ◌∷◌, false, refl, false_from_ne_true}
use Rattle.std.proofs.Common.{rules, length}
use Rattle.real_epochs.specs.Tells.{EpochsView}
use Rattle.real_epochs.proofs.Plugs.{back_told, front_is, oldest_at, refuse_goes, rest_forgotten}
use Rattle.real_epochs.proofs.epochs.take_back.Goals as goal

pub fail_oldest-undone-requires-clause-own : goal.fail_oldest-undone-requires-clause-own
fail_oldest-undone-requires-clause-own c =
    let some : (length c.args.line.now.items == 0) ≡ false = search rules in
    let front = front_is c.args.line.now.items c.remove-token.new.self.items c.remove-token.result some c.remove-token.ensures.value c.remove-token.ensures.items in
    (oldest_at (record { parts = c.args.kernel.now; line = c.args.line.now.items }) c.remove-token.result c.remove-token.new.self.items front c.requires.0 c.requires.1 _ refl).0

pub fail_oldest-undone-requires-clause-undecided : goal.fail_oldest-undone-requires-clause-undecided
fail_oldest-undone-requires-clause-undecided c =
    let some : (length c.args.line.now.items == 0) ≡ false = search rules in
    let front = front_is c.args.line.now.items c.remove-token.new.self.items c.remove-token.result some c.remove-token.ensures.value c.remove-token.ensures.items in
    (oldest_at (record { parts = c.args.kernel.now; line = c.args.line.now.items }) c.remove-token.result c.remove-token.new.self.items front c.requires.0 c.requires.1 _ refl).1

pub fail_oldest-undone-requires-clause-kept : goal.fail_oldest-undone-requires-clause-kept
fail_oldest-undone-requires-clause-kept c =
    let some : (length c.args.line.now.items == 0) ≡ false = search rules in
    let front = front_is c.args.line.now.items c.remove-token.new.self.items c.remove-token.result some c.remove-token.ensures.value c.remove-token.ensures.items in
    false_from_ne_true _
    (oldest_at (record { parts = c.args.kernel.now; line = c.args.line.now.items }) c.remove-token.result c.remove-token.new.self.items front c.requires.0 c.requires.1 _ refl).2

pub forget_all-requires : goal.forget_all-requires
forget_all-requires c =
    let some : (length c.args.line.now.items == 0) ≡ false = search rules in
    let front = front_is c.args.line.now.items c.remove-token.new.self.items c.remove-token.result some c.remove-token.ensures.value c.remove-token.ensures.items in
    rest_forgotten (record { parts = c.args.kernel.now; line = c.args.line.now.items }) c.remove-token.result c.remove-token.new.self.items front
    c.fail_oldest-undone.new.kernel c.fail_oldest-undone.ensures.fails c.requires

pub returns-clause-back : goal.returns-clause-back
returns-clause-back c =
    let some : (length c.args.line.now.items == 0) ≡ false = search rules in
    let front = front_is c.args.line.now.items c.remove-token.new.self.items c.remove-token.result some c.remove-token.ensures.value c.remove-token.ensures.items in
    let a : EpochsView = record { parts = c.args.kernel.now; line = c.args.line.now.items } in (
      back_told a c.remove-token.result c.remove-token.new.self.items front c.fail_oldest-undone.result c.fail_oldest-undone.ensures.back
          (record { checkpoint = c.remove-token.result.checkpoint; names = c.names_in-names.result }) refl c.names_in-names.ensures.names c.names_in-names.ensures.rising,
      refuse_goes a c.remove-token.result c.remove-token.new.self.items front (record { parts = c.forget_all.new.kernel; line = c.forget_all.new.line.items })
          c.fail_oldest-undone.new.kernel c.fail_oldest-undone.ensures.fails c.forget_all.ensures.kernel c.forget_all.ensures.line,
    )
