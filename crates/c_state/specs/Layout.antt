-- The shared state of a context as words, in the order of `Places`: the settings in document 01's order, the first PSN and the mode that
-- disables quick adapt; the totals over all flows: backlog, flying, marked, marked bytes and in-flight; the window; the clock, the path
-- cursor and the state's name; the number of EVs (request M-110); the held turn (request M-108). Low, next, held and backlog of each flow
-- "sit in a lent table of flow records" (request M-107), not here.
-- Assumes nothing.
use Rattle.std.specs.Prelude.{Bool, true, false, ◌&&◌, List, [], ◌∷◌, ℕ, ◌+◌, ◌^◌, ltb, eqb, ℤ, pos, nat_abs, ◌+ℤ◌, ◌-ℤ◌, length, get_or}
use Rattle.std.specs.Int.Signed.{lt_z}
use Rattle.rules.specs.Branch.{if_so}
use Rattle.window.specs.declared.Settings.{Settings}
use Rattle.window.specs.declared.Window.{Window}
use Rattle.ledger.specs.declared.Totals.{Totals}
use Rattle.sender.specs.Start.{no_settings}
use Rattle.context.specs.Start.{fresh_state}
use Rattle.context.specs.declared.Controller.{Controller}
use Rattle.c_state.specs.Places as place
use Rattle.c_state.specs.declared.Unpacked.{Unpacked}

-- how many words a state has
abbrev pub word_count : ℕ
word_count = 38

-- how many numbers the settings have, which come first
abbrev pub settings_count : ℕ
settings_count = 12

-- one past the largest number of a 32-bit field
abbrev pub field_end : ℕ
field_end = 2 ^ 32

-- what is added to in-flight: "from -2^24 up to MaxWnd"
abbrev pub in_flight_added : ℕ
in_flight_added = 2 ^ 24

-- in-flight is at most the largest MaxWnd
abbrev pub in_flight_most : ℕ
in_flight_most = 2 ^ 26

-- ---- a state's words

-- in-flight with 2^24 added; a number out of its range, which no state that holds together has, is cut to the range
unfoldable pub in_flight_word : ℤ → ℕ
in_flight_word z =
    if_so (lt_z z (pos 0 -ℤ pos in_flight_added))
    0
    (if_so (lt_z (pos in_flight_most) z) (in_flight_most + in_flight_added) (nat_abs (z +ℤ pos in_flight_added)))

unfoldable pub state_words : Controller → List ℕ
state_words c =
    c.settings.mtu
    ∷ c.settings.maxwnd
    ∷ c.settings.config_base_rtt
    ∷ c.settings.target_qdelay
    ∷ c.settings.fi
    ∷ c.settings.eta
    ∷ c.settings.alpha
    ∷ c.settings.gamma
    ∷ c.settings.max_md_jump
    ∷ c.settings.adjust_period
    ∷ c.settings.adjust_bytes
    ∷ c.settings.qa_threshold
    ∷ c.settings.first_psn
    ∷ c.settings.quick_adapt_off
    ∷ c.totals.backlog
    ∷ c.totals.flying
    ∷ c.totals.marked
    ∷ c.totals.marked_bytes
    ∷ in_flight_word c.totals.in_flight
    ∷ c.window.cwnd
    ∷ c.window.base
    ∷ c.window.avg
    ∷ c.window.inc_bytes
    ∷ c.window.received
    ∷ c.window.achieved
    ∷ c.window.ignored
    ∷ c.window.bytes_to_ignore
    ∷ c.window.fi_count
    ∷ c.window.fast
    ∷ c.window.trigger
    ∷ c.window.qa_end
    ∷ c.window.last_adjust
    ∷ c.window.last_dec
    ∷ c.clock
    ∷ c.cursor
    ∷ c.phase
    ∷ c.settings.ev_count
    ∷ c.turn
    ∷ []

-- ---- the state of words

-- word i
abbrev pub word : List ℕ → ℕ → ℕ
word ws i = get_or ws i 0

-- the twelve numbers, the first PSN, the mode that disables quick adapt and the number of EVs
unfoldable pub settings_from : List ℕ → ℕ → ℕ → ℕ → Settings
settings_from ws psn off evs =
    record {
      mtu = word ws place.mtu;
      maxwnd = word ws place.maxwnd;
      config_base_rtt = word ws place.config_base_rtt;
      target_qdelay = word ws place.target_qdelay;
      fi = word ws place.fi;
      eta = word ws place.eta;
      alpha = word ws place.alpha;
      gamma = word ws place.gamma;
      max_md_jump = word ws place.max_md_jump;
      adjust_period = word ws place.adjust_period;
      adjust_bytes = word ws place.adjust_bytes;
      qa_threshold = word ws place.qa_threshold;
      first_psn = psn;
      quick_adapt_off = off;
      ev_count = evs;
    }

unfoldable pub totals_from : List ℕ → Totals
totals_from ws =
    record {
      flying = word ws place.flying;
      marked = word ws place.marked;
      marked_bytes = word ws place.marked_bytes;
      backlog = word ws place.backlog;
      in_flight = pos (word ws place.in_flight) -ℤ pos in_flight_added;
    }

unfoldable pub window_from : List ℕ → Window
window_from ws =
    record {
      cwnd = word ws place.cwnd;
      base = word ws place.base;
      avg = word ws place.avg;
      inc_bytes = word ws place.inc_bytes;
      received = word ws place.received;
      achieved = word ws place.achieved;
      ignored = word ws place.ignored;
      bytes_to_ignore = word ws place.bytes_to_ignore;
      fi_count = word ws place.fi_count;
      fast = word ws place.fast;
      trigger = word ws place.trigger;
      qa_end = word ws place.qa_end;
      last_adjust = word ws place.last_adjust;
      last_dec = word ws place.last_dec;
    }

unfoldable pub state_from : List ℕ → Controller
state_from ws =
    record {
      settings = settings_from ws (word ws place.first_psn) (word ws place.quick_adapt_off) (word ws place.ev_count);
      totals = totals_from ws;
      window = window_from ws;
      clock = word ws place.clock;
      cursor = word ws place.cursor;
      phase = word ws place.phase;
      turn = word ws place.turn;
    }

-- ---- words that are those of a state

-- a 32-bit field holds a number of 32 bits, and in-flight is in its range; the other bounds, of modes, the name and the turn too, are
-- number 2's
unfoldable pub words_ok : List ℕ → Bool
words_ok ws =
    eqb (length ws) word_count
    && ltb (word ws place.first_psn) field_end
    && ltb (word ws place.quick_adapt_off) field_end
    && ltb (word ws place.flying) field_end
    && ltb (word ws place.marked) field_end
    && ltb (word ws place.in_flight) (in_flight_most + in_flight_added + 1)
    && ltb (word ws place.fast) field_end
    && ltb (word ws place.trigger) field_end
    && ltb (word ws place.cursor) field_end
    && ltb (word ws place.phase) field_end

-- the state, or a state of zeros
unfoldable pub unpacked : List ℕ → Unpacked
unpacked ws =
    if_so (words_ok ws) (record { good = true; state = state_from ws }) (record { good = false; state = fresh_state no_settings })
