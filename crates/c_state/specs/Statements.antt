-- What words that are a state's have, and which states are read back as they were.
-- Assumes nothing.
use Rattle.std.specs.Prelude.{◌≡◌, List, ℕ, ◌+◌, ◌≤◌, ◌<◌, length}
use Rattle.ledger.specs.Bounds.{Flown}
use Rattle.context.specs.declared.Controller.{Controller}
use Rattle.c_state.specs.Places as place
use Rattle.c_state.specs.Layout.{word_count, field_end, in_flight_added, in_flight_most, word}

-- the test of words, fact by fact
pub record WordsFacts (ws : List ℕ) : Type 0 where
  pub long : length ws ≡ word_count
  pub first_psn : word ws place.first_psn < field_end
  pub quick_adapt_off : word ws place.quick_adapt_off < field_end
  pub flying : word ws place.flying < field_end
  pub marked : word ws place.marked < field_end
  pub in_flight : word ws place.in_flight ≤ in_flight_most + in_flight_added
  pub fast : word ws place.fast < field_end
  pub trigger : word ws place.trigger < field_end
  pub cursor : word ws place.cursor < field_end
  pub phase : word ws place.phase < field_end

-- a state that the machine can hold: 32-bit fields of 32 bits; and in-flight in its bounds for some MaxWnd
pub record Machine (c : Controller) : Type 0 where
  pub first_psn : c.settings.first_psn < field_end
  pub quick_adapt_off : c.settings.quick_adapt_off < field_end
  pub flying : c.totals.flying < field_end
  pub marked : c.totals.marked < field_end
  pub fast : c.window.fast < field_end
  pub trigger : c.window.trigger < field_end
  pub cursor : c.cursor < field_end
  pub phase : c.phase < field_end
  pub flown : Flown in_flight_most c.totals.in_flight
