-- The window with one number changed. Document 01's rules say which number becomes what: a rule is a row of these.
-- Assumes nothing.
use Rattle.std.specs.Prelude.{ℕ}
use Rattle.window.specs.declared.Window.{Window}

abbrev pub with_cwnd : ℕ → Window → Window
with_cwnd x w =
    record {
      cwnd = x;
      base = w.base;
      avg = w.avg;
      inc_bytes = w.inc_bytes;
      received = w.received;
      achieved = w.achieved;
      ignored = w.ignored;
      bytes_to_ignore = w.bytes_to_ignore;
      fi_count = w.fi_count;
      fast = w.fast;
      trigger = w.trigger;
      qa_end = w.qa_end;
      last_adjust = w.last_adjust;
      last_dec = w.last_dec;
    }

abbrev pub with_base : ℕ → Window → Window
with_base x w =
    record {
      cwnd = w.cwnd;
      base = x;
      avg = w.avg;
      inc_bytes = w.inc_bytes;
      received = w.received;
      achieved = w.achieved;
      ignored = w.ignored;
      bytes_to_ignore = w.bytes_to_ignore;
      fi_count = w.fi_count;
      fast = w.fast;
      trigger = w.trigger;
      qa_end = w.qa_end;
      last_adjust = w.last_adjust;
      last_dec = w.last_dec;
    }

abbrev pub with_avg : ℕ → Window → Window
with_avg x w =
    record {
      cwnd = w.cwnd;
      base = w.base;
      avg = x;
      inc_bytes = w.inc_bytes;
      received = w.received;
      achieved = w.achieved;
      ignored = w.ignored;
      bytes_to_ignore = w.bytes_to_ignore;
      fi_count = w.fi_count;
      fast = w.fast;
      trigger = w.trigger;
      qa_end = w.qa_end;
      last_adjust = w.last_adjust;
      last_dec = w.last_dec;
    }

abbrev pub with_inc_bytes : ℕ → Window → Window
with_inc_bytes x w =
    record {
      cwnd = w.cwnd;
      base = w.base;
      avg = w.avg;
      inc_bytes = x;
      received = w.received;
      achieved = w.achieved;
      ignored = w.ignored;
      bytes_to_ignore = w.bytes_to_ignore;
      fi_count = w.fi_count;
      fast = w.fast;
      trigger = w.trigger;
      qa_end = w.qa_end;
      last_adjust = w.last_adjust;
      last_dec = w.last_dec;
    }

abbrev pub with_received : ℕ → Window → Window
with_received x w =
    record {
      cwnd = w.cwnd;
      base = w.base;
      avg = w.avg;
      inc_bytes = w.inc_bytes;
      received = x;
      achieved = w.achieved;
      ignored = w.ignored;
      bytes_to_ignore = w.bytes_to_ignore;
      fi_count = w.fi_count;
      fast = w.fast;
      trigger = w.trigger;
      qa_end = w.qa_end;
      last_adjust = w.last_adjust;
      last_dec = w.last_dec;
    }

abbrev pub with_achieved : ℕ → Window → Window
with_achieved x w =
    record {
      cwnd = w.cwnd;
      base = w.base;
      avg = w.avg;
      inc_bytes = w.inc_bytes;
      received = w.received;
      achieved = x;
      ignored = w.ignored;
      bytes_to_ignore = w.bytes_to_ignore;
      fi_count = w.fi_count;
      fast = w.fast;
      trigger = w.trigger;
      qa_end = w.qa_end;
      last_adjust = w.last_adjust;
      last_dec = w.last_dec;
    }

abbrev pub with_ignored : ℕ → Window → Window
with_ignored x w =
    record {
      cwnd = w.cwnd;
      base = w.base;
      avg = w.avg;
      inc_bytes = w.inc_bytes;
      received = w.received;
      achieved = w.achieved;
      ignored = x;
      bytes_to_ignore = w.bytes_to_ignore;
      fi_count = w.fi_count;
      fast = w.fast;
      trigger = w.trigger;
      qa_end = w.qa_end;
      last_adjust = w.last_adjust;
      last_dec = w.last_dec;
    }

abbrev pub with_bytes_to_ignore : ℕ → Window → Window
with_bytes_to_ignore x w =
    record {
      cwnd = w.cwnd;
      base = w.base;
      avg = w.avg;
      inc_bytes = w.inc_bytes;
      received = w.received;
      achieved = w.achieved;
      ignored = w.ignored;
      bytes_to_ignore = x;
      fi_count = w.fi_count;
      fast = w.fast;
      trigger = w.trigger;
      qa_end = w.qa_end;
      last_adjust = w.last_adjust;
      last_dec = w.last_dec;
    }

abbrev pub with_fi_count : ℕ → Window → Window
with_fi_count x w =
    record {
      cwnd = w.cwnd;
      base = w.base;
      avg = w.avg;
      inc_bytes = w.inc_bytes;
      received = w.received;
      achieved = w.achieved;
      ignored = w.ignored;
      bytes_to_ignore = w.bytes_to_ignore;
      fi_count = x;
      fast = w.fast;
      trigger = w.trigger;
      qa_end = w.qa_end;
      last_adjust = w.last_adjust;
      last_dec = w.last_dec;
    }

abbrev pub with_fast : ℕ → Window → Window
with_fast x w =
    record {
      cwnd = w.cwnd;
      base = w.base;
      avg = w.avg;
      inc_bytes = w.inc_bytes;
      received = w.received;
      achieved = w.achieved;
      ignored = w.ignored;
      bytes_to_ignore = w.bytes_to_ignore;
      fi_count = w.fi_count;
      fast = x;
      trigger = w.trigger;
      qa_end = w.qa_end;
      last_adjust = w.last_adjust;
      last_dec = w.last_dec;
    }

abbrev pub with_trigger : ℕ → Window → Window
with_trigger x w =
    record {
      cwnd = w.cwnd;
      base = w.base;
      avg = w.avg;
      inc_bytes = w.inc_bytes;
      received = w.received;
      achieved = w.achieved;
      ignored = w.ignored;
      bytes_to_ignore = w.bytes_to_ignore;
      fi_count = w.fi_count;
      fast = w.fast;
      trigger = x;
      qa_end = w.qa_end;
      last_adjust = w.last_adjust;
      last_dec = w.last_dec;
    }

abbrev pub with_qa_end : ℕ → Window → Window
with_qa_end x w =
    record {
      cwnd = w.cwnd;
      base = w.base;
      avg = w.avg;
      inc_bytes = w.inc_bytes;
      received = w.received;
      achieved = w.achieved;
      ignored = w.ignored;
      bytes_to_ignore = w.bytes_to_ignore;
      fi_count = w.fi_count;
      fast = w.fast;
      trigger = w.trigger;
      qa_end = x;
      last_adjust = w.last_adjust;
      last_dec = w.last_dec;
    }

abbrev pub with_last_adjust : ℕ → Window → Window
with_last_adjust x w =
    record {
      cwnd = w.cwnd;
      base = w.base;
      avg = w.avg;
      inc_bytes = w.inc_bytes;
      received = w.received;
      achieved = w.achieved;
      ignored = w.ignored;
      bytes_to_ignore = w.bytes_to_ignore;
      fi_count = w.fi_count;
      fast = w.fast;
      trigger = w.trigger;
      qa_end = w.qa_end;
      last_adjust = x;
      last_dec = w.last_dec;
    }

abbrev pub with_last_dec : ℕ → Window → Window
with_last_dec x w =
    record {
      cwnd = w.cwnd;
      base = w.base;
      avg = w.avg;
      inc_bytes = w.inc_bytes;
      received = w.received;
      achieved = w.achieved;
      ignored = w.ignored;
      bytes_to_ignore = w.bytes_to_ignore;
      fi_count = w.fi_count;
      fast = w.fast;
      trigger = w.trigger;
      qa_end = w.qa_end;
      last_adjust = w.last_adjust;
      last_dec = x;
    }
