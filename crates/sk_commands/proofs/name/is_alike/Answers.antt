-- Both tests tell the same.
use Rattle.sk_commands.proofs.Names.{same_from_decides, bytes_eq-Decides}
use Rattle.sk_commands.proofs.name.is_alike.Goals as goal

pub returns : goal.returns
returns c = same_from_decides _ _ c.eq_ignore_ascii_case.ensures.test (bytes_eq-Decides _ _)
