-- `has_room` adds and compares in the signed word: in-flight in its bounds and an MTU more fit it, by `more_is`.
use mir.Syntax.{w64}
use mir.ValLaws.{to_z_pos}
use native.Mathlib.Omega.{arith}
use Rattle.ledger.proofs.Signs.{more_ok, more_is}
use Rattle.sender.specs.Named.{has_room}
use Rattle.sender.proofs.naming.has_room.Goals as goal

pub overflow_add-result : goal.overflow_add-result
overflow_add-result c = more_ok c.args.in_flight c.args.mtu c.requires.flown (omega arith)

pub returns : goal.returns
unfolding has_room
returns c = rw (more_is c.args.in_flight c.args.mtu c.requires.flown (omega arith), to_z_pos w64 c.args.cwnd (omega arith))
