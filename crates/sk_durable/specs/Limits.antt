-- Limits that a store may have.
use Rattle.std.specs.Prelude.{◌&&◌, ◌+◌, ◌^◌, Bool, nat_lt, nat_le}
use Rattle.sk_durable.specs.declared.limits.Limits.{Limits}

-- a line has 16 bytes at least; all that is undecided has room in one frame, and that in a segment, behind the head of a cut
abbrev pub are_sound : Limits → Bool
are_sound limits = nat_le 16 limits.requests.line && (nat_lt (24 + limits.undecided) (2 ^ 28) && nat_le (limits.undecided + 48) limits.segment)
