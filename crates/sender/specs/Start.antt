-- Setting up. "A fresh state has an empty ring of zeros, low = next = first PSN, all times and tallies 0, modes off, cwnd = MaxWnd, base =
-- config_base_rtt, clock 0, path cursor 0." "A refused setting up: a state of zeros."
-- Assumes nothing.
use Rattle.std.specs.Prelude.{List, ℕ, pos, length, replicate}
use Rattle.rules.specs.Branch.{if_eq}
use Rattle.rules.specs.Mode.{off}
use Rattle.rules.specs.Rows.{first_of}
use Rattle.window.specs.Sound.{fresh_of}
use Rattle.window.specs.declared.Settings.{Settings}
use Rattle.ledger.specs.Memory.{Memory, memory}
use Rattle.ledger.specs.declared.Flow.{Flow}
use Rattle.ledger.specs.declared.Totals.{Totals}
use Rattle.sender.specs.Named.{idle}
use Rattle.sender.specs.Rows.{set_up_rows}
use Rattle.sender.specs.World.{Answered, answered}
use Rattle.sender.specs.declared.Controller.{Controller}

-- every number 0, modes off
unfoldable pub no_settings : Settings
no_settings =
    record {
      mtu = 0;
      maxwnd = 0;
      config_base_rtt = 0;
      target_qdelay = 0;
      fi = 0;
      eta = 0;
      alpha = 0;
      gamma = 0;
      max_md_jump = 0;
      adjust_period = 0;
      adjust_bytes = 0;
      qa_threshold = 0;
      first_psn = 0;
      quick_adapt_off = off;
      ev_count = 0;
    }

abbrev pub fresh_flow : ℕ → Flow
fresh_flow psn = record { low = psn; next = psn; held = 0; backlog = 0 }

abbrev pub fresh_totals : Totals
fresh_totals = record { flying = 0; marked = 0; marked_bytes = 0; backlog = 0; in_flight = pos 0 }

-- the fresh state of settings; of no settings it is the state of zeros
unfoldable pub fresh_state : Settings → Controller
fresh_state s =
    record {
      settings = s;
      flow = fresh_flow s.first_psn;
      totals = fresh_totals;
      window = fresh_of s;
      clock = 0;
      cursor = 0;
      phase = idle;
    }

abbrev pub zeros : List ℕ → List ℕ
zeros xs = replicate (length xs) 0

abbrev pub clear_memory : Memory → Memory
clear_memory m = memory (zeros m.outstanding) (zeros m.marked) (zeros m.sizes) (zeros m.sent)

unfoldable pub on_set_up : Settings → Memory → List ℕ → Answered
on_set_up s m times =
    let n = first_of (set_up_rows s m times) in
    if_eq n 0 (answered 0 (fresh_state s) (clear_memory m) (zeros times)) (answered n (fresh_state no_settings) m times)
