-- A directory has one count of names.
use Rattle.sk_kernel.proofs.Names.{Option, sym, ap, subst, ◌∙◌, nat_le, ObjId, name_there, one_count, look_at}
use Rattle.sk_kernel.proofs.Names.{DIRECTORY_LIMIT}
use Rattle.sk_kernel.proofs.Refusals.{TellsRoom}
use Rattle.sk_kernel.proofs.room.is_crowded.Goals as goal

pub returns-in-Some : goal.returns-in-Some
returns-in-Some c =
    let slots = c.args.machine.now.slots in
    let d = c.in-Some.directory in
    subst (λ (o : Option ObjId). TellsRoom slots o (nat_le DIRECTORY_LIMIT c.names.result)) (sym c.in-Some.is ∙ c.adds.ensures)
    (λ n counted. ap (nat_le DIRECTORY_LIMIT) (one_count (name_there (look_at slots)) d c.names.result n c.names.ensures counted))
