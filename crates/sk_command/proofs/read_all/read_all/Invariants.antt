-- Reading all: what was read so far, with what is left, is what the reader had.
use Rattle.sk_command.proofs.Names.{◌≤◌, vec_len, Consumes, INPUT_LIMIT}
use Rattle.sk_command.proofs.read_all.read_all.Given as goal

abbrev pub invariant-reads : goal.invariant-reads
invariant-reads g l = record {
  short : vec_len l.text ≤ INPUT_LIMIT;
  taken : Consumes (g.R.Read.remaining l.fn.reader) (g.R.Read.remaining l.reader) l.text.items;
}
