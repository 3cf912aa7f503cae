-- Every statement of specs/Demands with its proof, in the order of the statements; then those of specs/Past.
-- Assumes nothing.
use mathlib.Core.Logic.{⊎_elim}
use Rattle.sender.specs.World.{view_of}
use Rattle.sender.proofs.Refusals.{new_data_exact, send_exact, ack_exact, nack_exact, loss_exact, path_exact, permitted_new}
use Rattle.sender.proofs.Refusals.{permitted_resend}
use Rattle.sender.proofs.Refusals as refusals
use Rattle.sender.proofs.Sounds.{sound_facts}
use Rattle.sender.proofs.Starts as starts
use Rattle.demands.specs.Events.{new_data, send, ack, nack, loss, path, run}
use Rattle.demands.specs.Demands as demand
use Rattle.demands.specs.Past as past
use Rattle.demands.proofs.Runs as runs
use Rattle.demands.proofs.Sounded as sounded
use Rattle.demands.proofs.Histories as histories
use Rattle.demands.proofs.Sampled as sampled
use Rattle.demands.proofs.Averaged as averaged
use Rattle.demands.proofs.Bursts as bursts
use Rattle.demands.proofs.Delivered as delivered

pub number_exact : demand.NumberExact
number_exact (new_data time bytes) w = new_data_exact time w bytes
number_exact (send time a) w = send_exact time w a
number_exact (ack time a) w = ack_exact time w a
number_exact (nack time a) w = nack_exact time w a
number_exact (loss time a) w = loss_exact time w a
number_exact (path time) w = path_exact time w

pub set_up_exact : demand.SetUpExact
set_up_exact = refusals.set_up_exact

pub refused_same : demand.RefusedSame
refused_same = runs.refused_same

pub set_up_refused : demand.SetUpRefused
set_up_refused = runs.set_up_refused

pub rules_hold : demand.RulesHold
rules_hold = runs.rules_hold

pub path_taken : demand.PathTaken
path_taken = runs.path_taken

pub set_up_fresh : demand.SetUpFresh
set_up_fresh s m times n = (starts.set_up_fresh s m times n).2

pub permitted_send : demand.PermittedSend
permitted_send time a w = ⊎_elim (permitted_new time a w) (permitted_resend time a w)

pub always_sound : demand.AlwaysSound
always_sound = sounded.always_sound

pub cwnd_between : demand.CwndBetween
cwnd_between s m times w es u =
    let H = (sound_facts (view_of (run w es)) (sounded.always_sound s m times w es u)).sound_window_lem in
    (H.cwnd_low, H.cwnd_high)

pub history : demand.History
history = histories.history

pub ack_sampled : demand.AckSampled
ack_sampled = sampled.ack_sampled

pub nack_sampled : demand.NackSampled
nack_sampled = sampled.nack_sampled

pub ack_takes : demand.AckTakes
ack_takes = sampled.ack_lowered

pub nack_takes : demand.NackTakes
nack_takes = sampled.nack_lowered

pub base_stays : demand.BaseStays
base_stays = sampled.base_stays

pub average_fed : demand.AverageFed
average_fed = averaged.average_fed

pub burst : demand.Burst
burst = bursts.burst

pub delivers : demand.Delivers
delivers = delivered.delivers

-- ---- one flow among others

pub sound_among_lem : past.SoundAmong
sound_among_lem = sounded.sound_among_lem

pub history_among : past.HistoryAmong
history_among = histories.history_among

pub sums_among : past.SumsAmong
sums_among = histories.sums_among

pub burst_among : past.BurstAmong
burst_among = bursts.burst_among

pub delivers_among : past.DeliversAmong
delivers_among = delivered.delivers_among
