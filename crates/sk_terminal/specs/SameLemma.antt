-- The tests of what was said are exact.
use Rattle.std.specs.Cmp.{unsigned_Decides}
use Rattle.std.specs.Cmp.Lexicographic.{pointwise_decides}
use Rattle.sk_ids.specs.Same.{IsExact, exact_pair, exact_map}
use Rattle.sk_ids.specs.SameLemma.{exact_bytes, exact_text}
use Rattle.sk_terminal.specs.Same.{same_said, same_texts, same_terminals}

pub exact_said : IsExact same_said
exact_said = exact_pair exact_text exact_bytes

pub exact_texts : IsExact same_texts
exact_texts = pointwise_decides exact_said

pub exact_terminals : IsExact same_terminals
exact_terminals = exact_map unsigned_Decides exact_texts
