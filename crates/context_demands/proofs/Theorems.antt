-- Every statement of specs/Demands with its proof, in the order of the statements.
-- Assumes nothing.
use Rattle.context.specs.Context.{world_at}
use Rattle.demands.proofs.Sampled as one
use Rattle.context_demands.specs.Demands as demand
use Rattle.context_demands.proofs.Runs as runs
use Rattle.context_demands.proofs.Bursts as bursts
use Rattle.context_demands.proofs.Histories as histories
use Rattle.context_demands.proofs.Sampled as sampled
use Rattle.context_demands.proofs.Sends as sends

pub number_exact : demand.NumberExact
number_exact = runs.number_exact

pub set_up_exact : demand.SetUpExact
set_up_exact = runs.set_up_exact

pub refused_same : demand.RefusedSame
refused_same = runs.refused_same

pub set_up_refused : demand.SetUpRefused
set_up_refused = runs.set_up_refused

pub rules_hold : demand.RulesHold
rules_hold = runs.rules_hold

pub path_taken : demand.PathTaken
path_taken = runs.path_taken

pub set_up_fresh : demand.SetUpFresh
set_up_fresh = runs.set_up_fresh

pub permitted_send : demand.PermittedSend
permitted_send = sends.permitted_send

pub always_sound : demand.AlwaysSound
always_sound = runs.always_sound

pub cwnd_between : demand.CwndBetween
cwnd_between = runs.cwnd_between

pub history : demand.History
history = histories.history

pub ack_sampled : demand.AckSampled
ack_sampled time k ticks a x = one.ack_sampled time ticks a (world_at k x)

pub nack_sampled : demand.NackSampled
nack_sampled time k ticks a x = one.nack_sampled time ticks a (world_at k x)

pub ack_takes : demand.AckTakes
ack_takes = sampled.ack_takes

pub nack_takes : demand.NackTakes
nack_takes = sampled.nack_takes

pub base_stays : demand.BaseStays
base_stays = sampled.base_stays

pub average_fed : demand.AverageFed
average_fed = sampled.average_fed

pub burst : demand.Burst
burst = bursts.burst

pub delivers : demand.Delivers
delivers = bursts.delivers
