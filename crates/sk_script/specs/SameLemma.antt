-- The tests of instructions and scripts are exact.
use Rattle.std.specs.Prelude.{◌≡◌, Bool, true, ◌&&◌, refl}
use Rattle.sk_script.specs.Base.{ap, unsigned_Decides, signed_Decides, first_so, second_so, pointwise_decides, IsExact}
use Rattle.sk_script.specs.Base.{exact_map, exact_from, exact_bytes, exact_text, Instruction, Set, Move, Add, Text}
use Rattle.sk_script.specs.Base.{Len, SelfPid, BootPid, Jump, Zero, Negative, Handler, Return, Say, MakeFile, MakeDir}
use Rattle.sk_script.specs.Base.{MakePipe, Look, Link, Unlink, Size, Write, Read, Cut, Put, Take, Shut, Fork, Wait}
use Rattle.sk_script.specs.Base.{Kill, Exit, Fetch, Store}
use Rattle.sk_script.specs.Same.{same_script, same_scripts}
use Rattle.sk_script.specs.contracts.instruction.InstructionPartialEq.TheImpl as instruction
use Rattle.sk_script.specs.contracts.instruction.InstructionEq.TheImpl.Laws.{laws-law}

-- two parts, and three
both : {A B C : Type 0} {E : A → A → Bool} {F : B → B → Bool} → IsExact E → IsExact F → (make : A → B → C) → (a b : A) (c d : B) → (E a b && F c d) ≡ true → make a c ≡ make b d
both {E = E} {F = F} e f make a b c d h = λ i. make ((e a b).0 (first_so (E a b) (F c d) h) i) ((f c d).0 (second_so (E a b) (F c d) h) i)

all_three : {A B C D : Type 0} {E : A → A → Bool} {F : B → B → Bool} {G : C → C → Bool} → IsExact E → IsExact F → IsExact G → (make : A → B → C → D)
    → (a b : A) (c d : B) (k l : C) → (E a b && (F c d && G k l)) ≡ true → make a c k ≡ make b d l
all_three {E = E} {F = F} {G = G} e f g make a b c d k l h =
    let rest = second_so (E a b) (F c d && G k l) h in
    λ i. make ((e a b).0 (first_so (E a b) (F c d && G k l) h) i) ((f c d).0 (first_so (F c d) (G k l) rest) i) ((g k l).0 (second_so (F c d) (G k l) rest) i)

instruction_from : (a b : Instruction) → (instruction.ghosts).eq a b ≡ true → a ≡ b
instruction_from (Set a b) (Set c d) h = both unsigned_Decides signed_Decides Set a c b d h
instruction_from (Move a b) (Move c d) h = both unsigned_Decides unsigned_Decides Move a c b d h
instruction_from (Add a b) (Add c d) h = both unsigned_Decides unsigned_Decides Add a c b d h
instruction_from (Text a) (Text b) h = ap Text ((exact_text a b).0 h)
instruction_from (Len a) (Len b) h = ap Len ((unsigned_Decides a b).0 h)
instruction_from (SelfPid a) (SelfPid b) h = ap SelfPid ((unsigned_Decides a b).0 h)
instruction_from (BootPid a b) (BootPid c d) h = both unsigned_Decides unsigned_Decides BootPid a c b d h
instruction_from (Jump a) (Jump b) h = ap Jump ((unsigned_Decides a b).0 h)
instruction_from (Zero a b) (Zero c d) h = both unsigned_Decides unsigned_Decides Zero a c b d h
instruction_from (Negative a b) (Negative c d) h = both unsigned_Decides unsigned_Decides Negative a c b d h
instruction_from (Handler a) (Handler b) h = ap Handler ((unsigned_Decides a b).0 h)
instruction_from Return Return h = refl
instruction_from Say Say h = refl
instruction_from (MakeFile a) (MakeFile b) h = ap MakeFile ((unsigned_Decides a b).0 h)
instruction_from (MakeDir a) (MakeDir b) h = ap MakeDir ((unsigned_Decides a b).0 h)
instruction_from (MakePipe a) (MakePipe b) h = ap MakePipe ((unsigned_Decides a b).0 h)
instruction_from (Look a b c) (Look d e f) h = all_three unsigned_Decides unsigned_Decides exact_bytes Look a d b e c f h
instruction_from (Link a b c) (Link d e f) h = all_three unsigned_Decides exact_bytes unsigned_Decides Link a d b e c f h
instruction_from (Unlink a b) (Unlink c d) h = both unsigned_Decides exact_bytes Unlink a c b d h
instruction_from (Size a) (Size b) h = ap Size ((unsigned_Decides a b).0 h)
instruction_from (Write a b) (Write c d) h = both unsigned_Decides unsigned_Decides Write a c b d h
instruction_from (Read a b) (Read c d) h = both unsigned_Decides unsigned_Decides Read a c b d h
instruction_from (Cut a b) (Cut c d) h = both unsigned_Decides unsigned_Decides Cut a c b d h
instruction_from (Put a) (Put b) h = ap Put ((unsigned_Decides a b).0 h)
instruction_from (Take a b) (Take c d) h = both unsigned_Decides unsigned_Decides Take a c b d h
instruction_from (Shut a) (Shut b) h = ap Shut ((unsigned_Decides a b).0 h)
instruction_from (Fork a b) (Fork c d) h = both unsigned_Decides unsigned_Decides Fork a c b d h
instruction_from (Wait a b) (Wait c d) h = both unsigned_Decides unsigned_Decides Wait a c b d h
instruction_from (Kill a b) (Kill c d) h = both unsigned_Decides unsigned_Decides Kill a c b d h
instruction_from (Exit a) (Exit b) h = ap Exit ((unsigned_Decides a b).0 h)
instruction_from (Fetch a) (Fetch b) h = ap Fetch ((exact_bytes a b).0 h)
instruction_from (Store a) (Store b) h = ap Store ((exact_bytes a b).0 h)
instruction_from _ _ h = cc

exact_instruction : IsExact (instruction.ghosts).eq
exact_instruction = exact_from (instruction.ghosts).eq laws-law.refl instruction_from

pub exact_script : IsExact same_script
exact_script = pointwise_decides exact_instruction

pub exact_scripts : IsExact same_scripts
exact_scripts = exact_map exact_bytes exact_script
