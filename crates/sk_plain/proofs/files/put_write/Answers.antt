-- The bytes of the file that is there.
use Rattle.sk_plain.proofs.Cites.{◌≡◌, ℕ, List, [], Option, Some, Result, Ok, ap, subst, ◌∙◌, Ask, perform, with_read}
use Rattle.sk_plain.proofs.Cites.{held, Entity, ObjId, Process, Instruction, EntityState, on_file, on_number, number_in}
use Rattle.sk_plain.proofs.Cites.{PlansAfter, Plan, Refusal, Obj}
use Rattle.sk_objects.specs.declared.value.Value.TheVariants as values
use Rattle.sk_store.specs.declared.entity_state.EntityState.TheVariants as stored
use Rattle.sk_script.specs.declared.instruction.Input.TheVariants as inputs
use Rattle.sk_plain.specs.Files.{write, written_at}
use Rattle.sk_plain.proofs.files.put_write.Goals as goal

written_found : (look : Entity → Option EntityState) (i : Option Instruction) (p : Process) (pid : ℕ) (o : ObjId) (bytes : List ℕ) (at : ℕ) (r : Result Plan Refusal)
    → look (Obj o) ≡ Some (stored.Value (values.File bytes))
    → PlansAfter look i inputs.None p [] pid (Ask (Obj o) (λ v. written_at pid p o bytes at)) r
    → PlansAfter look i inputs.None p [] pid (write pid p (Some o) (Some at)) r
written_found look i p pid o bytes at r here h = record {
  plans =
      ap (λ v. with_read (Obj o) (look (Obj o)) (perform look (on_file pid p (λ b. on_number pid p (written_at pid p o b) (Some at)) v))) here
      ∙ h.plans;
  can = h.can;
  apart = h.apart;
  fits = h.fits;
  named = h.named;
}

pub returns-in-Some-number_at : goal.returns-in-Some-number_at
returns-in-Some-number_at g c = λ i.
    let look = g.S.Look.look c.args.store.now in
    let p = c.args.process.now in
    let pid = c.args.pid in
    let o = c.in-Some.object in
    let r = Ok c.put_written.new.plan in
    subst (λ x. PlansAfter look i inputs.None p [] pid (write pid p x (number_in (held p.registers c.args.at))) r) c.in-Some.ensures
    (subst (λ n. PlansAfter look i inputs.None p [] pid (write pid p (Some o) n) r) c.in-Some-number_at.ensures
    (written_found look i p pid o c.in-Ok.file.now c.in-Some-number_at.at r c.in-Ok.ensures.ok (c.put_written.ensures i)))
