-- When two objects hold the same.
use Rattle.std.specs.Prelude.{ℕ, Bool, ◌&&◌, List, nat_eq}
use Rattle.std.specs.Bool.{beq}
use Rattle.std.specs.Cmp.Lexicographic.{pointwise}
use Rattle.sk_objects.specs.Pipe.{PipeView}

abbrev pub same_bytes : List ℕ → List ℕ → Bool
same_bytes = pointwise nat_eq

abbrev pub same_pipe : PipeView → PipeView → Bool
same_pipe p q = beq p.shut q.shut && same_bytes p.bytes q.bytes
