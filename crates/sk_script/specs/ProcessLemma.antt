-- The test that processes derive is exact.
use Rattle.sk_script.specs.Base.{ap, unsigned_Decides, signed_Decides, booleans_Decides, first_so, second_so}
use Rattle.sk_script.specs.Base.{pointwise_decides, IsExact, exact_from, exact_option, exact_bytes, exact_text}
use Rattle.sk_script.specs.Base.{exact_object, Val, Num, Obj, Who, Process}
use Rattle.sk_script.specs.contracts.register.ValEq.TheImpl.Laws.{laws-law as val_laws}
use Rattle.sk_script.specs.contracts.process.ProcessEq.TheImpl.Laws.{laws-law as process_laws}
use Rattle.std.specs.Prelude.{◌≡◌, true}
use Rattle.sk_script.specs.contracts.register.ValPartialEq.TheImpl as val
use Rattle.sk_script.specs.contracts.register.RegistersPartialEq.TheImpl as registers
use Rattle.sk_script.specs.contracts.process.ProcessPartialEq.TheImpl as process

val_from : (a b : Val) → (val.ghosts).eq a b ≡ true → a ≡ b
val_from (Num m) (Num n) h = ap Num ((signed_Decides m n).0 h)
val_from (Obj o) (Obj u) h = ap Obj ((exact_object o u).0 h)
val_from (Who p) (Who q) h = ap Who ((unsigned_Decides p q).0 h)
val_from _ _ h = cc

exact_val : IsExact (val.ghosts).eq
exact_val = exact_from (val.ghosts).eq val_laws.refl val_from

exact_registers : IsExact (registers.ghosts).eq
exact_registers = pointwise_decides exact_val

process_from : (p q : Process) → (process.ghosts).eq p q ≡ true → p ≡ q
process_from p q h0 =
    let pid = (unsigned_Decides p.pid q.pid).0 (first_so _ _ h0) in
    let h1 = second_so _ _ h0 in
    let script = (exact_bytes p.script q.script).0 (first_so _ _ h1) in
    let h2 = second_so _ _ h1 in
    let place = (unsigned_Decides p.place q.place).0 (first_so _ _ h2) in
    let h3 = second_so _ _ h2 in
    let registers = (exact_registers p.registers q.registers).0 (first_so _ _ h3) in
    let h4 = second_so _ _ h3 in
    let buffer = (exact_text p.buffer q.buffer).0 (first_so _ _ h4) in
    let h5 = second_so _ _ h4 in
    let children = (unsigned_Decides p.children q.children).0 (first_so _ _ h5) in
    let h6 = second_so _ _ h5 in
    let objects = (unsigned_Decides p.objects q.objects).0 (first_so _ _ h6) in
    let h7 = second_so _ _ h6 in
    let handler = (exact_option unsigned_Decides p.handler q.handler).0 (first_so _ _ h7) in
    let h8 = second_so _ _ h7 in
    let saved = (exact_option unsigned_Decides p.saved q.saved).0 (first_so _ _ h8) in
    let h9 = second_so _ _ h8 in
    let terminal = (unsigned_Decides p.terminal q.terminal).0 (first_so _ _ h9) in
    let ended = (booleans_Decides p.ended q.ended).0 (second_so _ _ h9) in
    λ i. record { pid = pid i; script = script i; place = place i; registers = registers i; buffer = buffer i; children = children i; objects = objects i; handler = handler i; saved = saved i; terminal = terminal i; ended = ended i }

pub exact_process : IsExact (process.ghosts).eq
exact_process = exact_from (process.ghosts).eq process_laws.refl process_from
