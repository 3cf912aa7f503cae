-- `new_data` supplies the flow and names the state; row 4 leaves the backlog room.
use Rattle.ledger.specs.Steps.{supplied_totals}
use Rattle.sender.specs.Steps.{new_data_state}
use Rattle.sender.proofs.Stepping.{new_data_facts}
use Rattle.sender.proofs.steps.new_data.Goals as goal

pub supply-requires : goal.supply-requires
supply-requires c =
    ((new_data_facts c.args.time c.args.bytes c.args.c c.requires.c_value).1, c.requires.bounded.total_high)

pub state_of-requires : goal.state_of-requires
unfolding supplied_totals
state_of-requires c =
    let B = c.requires.bounded in
    record {
      flown = rw c.supply.ensures.1 B.flown;
      mtu_bound = (B.mtu_high, B.cwnd_high);
    }

pub returns : goal.returns
unfolding new_data_state
returns c = rw (← c.supply.ensures.0, ← c.supply.ensures.1) c.state_of.ensures
