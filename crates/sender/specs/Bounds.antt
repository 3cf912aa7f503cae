-- What judging and stepping rely on of a sound state: bounds, by which no sum overflows.
-- Assumes nothing.
use Rattle.std.specs.Prelude.{ℕ, ◌≤◌, ◌<◌, ◌^◌}
use Rattle.rules.specs.Branch.{if_eq, if_so}
use Rattle.ledger.specs.Bounds.{backlog_most, Flown}
use Rattle.sender.specs.Named.{has_room}
use Rattle.sender.specs.declared.Controller.{Controller}

pub record Bounded (c : Controller) : Type 0 where
  pub flown : Flown (2 ^ 26) c.totals.in_flight
  pub backlog_high : c.flow.backlog ≤ backlog_most
  pub total_high : c.totals.backlog < 2 ^ 62
  pub mtu_high : c.settings.mtu ≤ 2 ^ 14
  pub cwnd_high : c.window.cwnd ≤ 2 ^ 26
  pub evs_high : c.settings.ev_count ≤ 4096

-- a number that is given already, or 6 where there is no room
unfoldable pub room_after : Controller → ℕ → ℕ
room_after c n = if_eq n 0 (if_so (has_room c.settings.mtu c.window.cwnd c.totals.in_flight) 0 6) n
