-- Refusal 2: "state or buffers don't hold together". Document 01, "Number 2 is", in full.
-- Assumes nothing.
use Rattle.std.specs.Prelude.{◌≡◌, Bool, true, ◌&&◌, List, [], ◌∷◌, ℕ, length, ltb, eqb}
use Rattle.window.specs.Limits.{time_end, later_end}
use Rattle.window.specs.Range.{in_range}
use Rattle.window.specs.Sound.{sound_window}
use Rattle.ledger.specs.Sound.{Others, alone, Few, sound_ledger}
use Rattle.sender.specs.World.{World, View, view_of, ledger_in}
use Rattle.sender.specs.Named.{phase_of}
use Rattle.sender.specs.declared.Controller.{Controller}

-- no "EV time of 2^49 or more"
unfoldable pub times_ok : List ℕ → Bool
times_ok [] = true
times_ok (t ∷ ts) = ltb t later_end && times_ok ts

-- "a state name other than the rule's"
unfoldable pub named_ok : Controller → Bool
named_ok c = eqb c.phase (phase_of c.settings.mtu c.window.cwnd c.totals)

-- a flow among others, whose packets and backlog the totals count too (request M-107)
unfoldable pub sound_among : Others → View → Bool
sound_among o v =
    let c = v.state in
    in_range c.settings
    && sound_window c.settings c.clock c.window
    && sound_ledger c.settings.mtu c.settings.maxwnd c.clock o (ledger_in v)
    && ltb c.clock time_end
    && eqb (length v.times) c.settings.ev_count
    && times_ok v.times
    && ltb c.cursor c.settings.ev_count
    && named_ok c

-- a flow by itself
abbrev pub sound_view : View → Bool
sound_view v = sound_among alone v

-- of a world: of what it shows
abbrev pub sound : World → Bool
sound w = sound_view (view_of w)

-- What a step relies on: state and buffers hold together, among some others whose sums fit.
pub record Holds (w : World) : Type 0 where
  pub others : Others
  pub few : Few others
  pub so : sound_among others (view_of w) ≡ true
