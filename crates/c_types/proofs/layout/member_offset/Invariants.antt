use Rattle.std.proofs.Common.{◌≡◌, map}
use Rattle.c_types.specs.Sizes.{offset_of}
use Rattle.c_types.proofs.Maps.{entry}
use Rattle.c_types.proofs.layout.member_offset.Given as goal

-- what the members left say is what all say
abbrev pub invariant-loop-key : goal.invariant-loop-key
invariant-loop-key l = offset_of (map entry l.key-iterator) l.name ≡ offset_of (map entry l.structure.members.entries) l.name
