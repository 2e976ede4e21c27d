-- The tree is the first key, if it is one.
use Rattle.real_epochs.proofs.Names.{◌≡◌, true, false}
use Rattle.std.proofs.Common.{rules}
use Rattle.real_epochs.specs.Host.{begins_with_tree}
use Rattle.real_epochs.proofs.Plugs.{names_else, names_rising, names_then}
use Rattle.real_epochs.proofs.epochs.names_in.Goals as goal

pub returns-then-begins_with_tree-clause-names : goal.returns-then-begins_with_tree-clause-names
returns-then-begins_with_tree-clause-names c =
    let begins : begins_with_tree c.args.keys.items ≡ true = search rules in
    names_then c.args.keys.items c.remove.new.self.items c.requires begins c.remove.ensures.items

pub returns-then-begins_with_tree-clause-rising : goal.returns-then-begins_with_tree-clause-rising
returns-then-begins_with_tree-clause-rising c =
    let begins : begins_with_tree c.args.keys.items ≡ true = search rules in
    names_rising c.args.keys.items c.remove.new.self.items c.requires begins c.remove.ensures.items

pub returns-else-begins_with_tree-clause-names : goal.returns-else-begins_with_tree-clause-names
returns-else-begins_with_tree-clause-names c =
    let none : begins_with_tree c.args.keys.items ≡ false = search rules in names_else c.args.keys.items c.requires none
