-- A process at its beginning.
use Rattle.std.specs.Prelude.{ℕ, pos, false, List, [], None, replicate, slice_set}
use Rattle.sk_script.specs.Base.{ObjId, Num, Obj, Process}

-- the root directory, 0:1
abbrev pub root : ObjId
root = record { maker = None; count = 1 }

-- a process of a boot before its first step: r0 to r6 hold 0, and r7 the root
abbrev pub beginning : ℕ → List ℕ → ℕ → Process
beginning pid script terminal = record {
  pid = pid;
  script = script;
  place = 0;
  registers = slice_set (replicate 8 (Num (pos 0))) 7 (Obj root);
  buffer = [];
  children = 0;
  objects = 0;
  handler = None;
  saved = None;
  terminal = terminal;
  ended = false;
}
