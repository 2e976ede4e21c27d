-- The names stand side by side, from the first that is not before them on.
use Rattle.sk_report.proofs.Names.{rules, of_calls, ◌≡◌, ◌-◌, ◌≤◌, length, true, false, List, take, drop, subst, sym}
use Rattle.sk_report.proofs.Names.{ap, ◌∙◌, Bool, IsPartitionPoint, IsPartitionedBy, take_rest, IsPartitionPoint-from_clause}
use Rattle.sk_report.proofs.Names.{Present, is_before, is_name_of}
use Rattle.sk_report.proofs.Sideways.{parted_before, parted_rest, side_by_side}
use Rattle.sk_report.proofs.directories.names_of.Goals as goal

pub returns : goal.returns
returns c =
    let d = c.args.directory.now in
    let xs = c.args.all.now in
    let i = c.partition_point-first.result in
    let k = c.partition_point-count.result in
    let before : Present → Bool = λ p. is_before d p.entity in
    let named : Present → Bool = λ p. is_name_of d p.entity in
    let bound = c.partition_point-first.ensures.bound in
    let rest : take (length xs - i) (drop i xs) ≡ drop i xs = take_rest xs i in
    let first = IsPartitionPoint-from_clause before xs i c.partition_point-first.ensures.partitioned (parted_before d xs c.requires) (λ a r f call. search (rules, of_calls)) in
    let parted = subst (IsPartitionedBy named) (sym rest) (parted_rest d xs c.requires i bound first) in
    let point = IsPartitionPoint-from_clause named _ k c.partition_point-count.ensures.partitioned parted (λ a r f call. search (rules, of_calls)) in
    let low = subst (λ (ys : List Present). k ≤ length ys) rest c.partition_point-count.ensures.bound in
    ap (take k) rest
    ∙ side_by_side d xs c.requires i bound first k low (subst (λ (ys : List Present). IsPartitionPoint (λ p. named p ≡ true) (λ p. named p ≡ false) ys k) rest point)
