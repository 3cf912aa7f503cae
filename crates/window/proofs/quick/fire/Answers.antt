-- `fire` does what firing does, by what it calls.
use mir.Facts.{to_z-of_z}
use Rattle.window.specs.Quick.{fire_of}
use Rattle.window.proofs.quick.fire.Goals as goal

pub returns : goal.returns
unfolding fire_of
returns c =
    simp (c.above_zero.ensures, c.most.ensures, to_z-of_z c.ranges.in_flight)
