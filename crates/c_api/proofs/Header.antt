-- THE THEOREM on `nscc_chunk`, include/nscc.h: "The answers of all calls are those of nscc_replay on the joined log." Both are the turns of
-- one replay (chunks' `log_begun` and `log_joined`), and between calls the words hold what the definitions hold. Assumes nothing.
use mathlib.Core.Path.{◌≡◌, refl, sym, ap, ◌∙◌}
use mathlib.Core.Bool.{true}
use mathlib.Core.List.{List}
use mathlib.Core.Logic.{⊎_elim, inl, inr}
use Prim.Native.Nat.{ℕ}
use native.Mathlib.Omega.{arith}
use lib.ListN.{length, take}
use lib.Seq.{take_all}
use borrow.Author.Tests.{eq-eqb}
use Rattle.ledger.specs.Memory.{Memory}
use Rattle.context.specs.Context.{Context}
use Rattle.replay.specs.Answers.{sound_after}
use Rattle.replay.specs.Places.{logged, sound_place, Turning, turns_of, last_place, last_context}
use Rattle.replay.specs.Batches.{words_of}
use Rattle.replay.specs.declared.Place.{Place}
use Rattle.replay_chunks.specs.Chunks.{Chunking}
use Rattle.replay_chunks.specs.Statements.{Between, Kept, Call, joined_log, turns_fed, end_fed, Finished}
use Rattle.replay_chunks.proofs.Calls.{left_out, taken_in, either_way}
use Rattle.replay_chunks.proofs.Joined.{log_begun, log_joined}
use Rattle.replay_chunks.proofs.Joins.{words_long}
use Rattle.replay_chunks.proofs.Tests.{chunk_yes}
use Rattle.c_state.specs.Layout.{word_count}
use Rattle.c_api.specs.Flags.{bit}
use Rattle.c_api.specs.Batch.{lent_ok, words_then}
use Rattle.c_api.specs.Parts.{part_ok}
use Rattle.c_api.specs.Statements.{Lent, chunk_start, chunk_log, chunk_all, chunk_last, ChunkFinished, Placed, replay_start, rooms_long}
use Rattle.c_api.specs.Statements.{SameReplay, Enough, Sized, ChunkReplays, Takes, ChunkTaken}
use Rattle.c_api.proofs.ChunkCalls.{between, Sound, matches, Run, run}
use Rattle.c_api.proofs.ReplayCalls.{Stands, replays}
use Rattle.c_api.proofs.Stored.{three_words}

module _ (piece ws fs : List ℕ) (r : Memory) (t : List ℕ) (sized : Sized piece ws) where
  abbrev l : Lent
  l = chunk_start piece ws fs r t

  abbrev a : Placed
  a = replay_start ws fs r t

  abbrev b : Between
  b = between l

  abbrev p : Place
  p = b.carry.place

  abbrev w : Context
  w = b.after

  -- before record 1 there is no state to hold together
  starts : sound_place p w ≡ true
  unfolding sound_place sound_after
  starts = refl

  start_kept : Kept b
  start_kept = chunk_yes b.carry w piece sized.room (omega arith) (omega arith) starts

  start_sound : Sound l
  unfolding part_ok bit
  start_sound =
      record {
        ok = rw (eq-eqb (length ws) word_count sized.many);
        good = start_kept;
        machine = λ some. absurd (some refl);
        first_words = refl;
      }

  start_stands : Stands a p w
  unfolding lent_ok bit
  start_stands =
      record {
        ok = rw (eq-eqb (length ws) word_count sized.many);
        place = refl;
        context_is = refl;
        going = (starts, λ some. absurd (some refl));
        first_words = refl;
      }

  module _ (cs : List Call) where
    abbrev calls : Run l cs
    calls = run l cs start_sound

    abbrev ts : List Turning
    ts = turns_fed b cs

    abbrev all : List Turning
    all = turns_of (logged (chunk_log l cs)) p w

    same_all : turns_of (logged (joined_log b cs)) p w ≡ all
    same_all = ap (λ (log : List ℕ). turns_of (logged log) p w) (sym calls.log)

    answered_long : length (chunk_all l cs) ≡ length ts
    answered_long = ap length (calls.answers ∙ (log_begun b cs start_kept refl refl).answers) ∙ words_long ts

    finished : ChunkFinished l cs → Finished true b cs
    finished = ⊎_elim (λ s. inl (ap (λ (d : Between). d.carry.place.stopped) (sym calls.last) ∙ s)) (λ e. inr (calls.ends e))

    -- the calls' turns are as many of the log's as the rooms have words
    same_turns : (rooms : List (List ℕ)) → Enough l cs rooms → ts ≡ take (rooms_long rooms) all
    same_turns rooms =
        ⊎_elim
        (λ e.
        (log_begun b cs start_kept refl refl).turns ∙ (ap (take (length ts)) same_all
        ∙ ap (λ (n : ℕ). take n all) (sym (e ∙ answered_long))))
        (λ q.
        let is : ts ≡ all = (log_joined b cs start_kept refl refl (finished q.0)).turns ∙ same_all in
        is ∙ sym (take_all (rooms_long rooms) all (omega (arith, q.1, answered_long, ap length is))))

    the_same : (rooms : List (List ℕ)) → Enough l cs rooms → SameReplay l cs a rooms
    the_same rooms enough =
        let g = log_begun b cs start_kept refl refl in
        let us = take (rooms_long rooms) all in
        let made = replays (chunk_log l cs) a p w rooms start_stands in
        let same : ts ≡ us = same_turns rooms enough in
        let place : (end_fed b cs).carry.place ≡ last_place p us = g.place ∙ ap (last_place p) same in
        let after : (end_fed b cs).after ≡ last_context w us = g.after ∙ ap (last_context w) same in
        let context_after : (between (chunk_last l cs)).after ≡ last_context w us = ap (λ (d : Between). d.after) calls.last ∙ after in
        let there = made.stands in
        record {
          answers = calls.answers ∙ (g.answers ∙ (ap words_of same ∙ sym made.answers));
          place =
              calls.sound.first_words
              ∙ (ap (λ (d : Between). three_words d.carry.place) calls.last ∙ (ap three_words place ∙ sym there.first_words));
          words =
              calls.words
              ∙ (ap (λ (q : Place). words_then 0 q (length ts) (end_fed b cs).after.state ws) place
              ∙ (ap (λ (n : ℕ). words_then 0 (last_place p us) n (end_fed b cs).after.state ws) (ap length same)
              ∙ (ap (λ (v : Context). words_then 0 (last_place p us) (length us) v.state ws) after ∙ sym made.words)));
          flows = ap (λ (v : Context). v.flows) (context_after ∙ sym there.context_is);
          slots = ap (λ (v : Context). v.slots) (context_after ∙ sym there.context_is);
          times = ap (λ (v : Context). v.times) (context_after ∙ sym there.context_is);
        }

    -- a call behind them
    takes_in : (c : Call) → Takes (chunk_last l cs) c
    takes_in c =
        let d = chunk_last l cs in
        let s = calls.sound in
        let m = matches d c s in
        either_way (between d) c s.good
        (λ q. inl (q, m.number ∙ ap (λ (x : Chunking). x.number) (left_out (between d) c s.good q)))
        (λ q.
        let e = taken_in (between d) c s.good q in
        inr (q, (m.number ∙ e.0, ⊎_elim (λ all. inl (m.took ∙ all)) (λ full. inr (m.told ∙ full)) e.1)))

-- THE HEADER'S SENTENCE: "The answers of all calls are those of nscc_replay on the joined log."
pub chunk_replays : ChunkReplays
chunk_replays = the_same

-- and a chunk is refused only with 28, else taken
pub chunk_taken : ChunkTaken
chunk_taken = takes_in
