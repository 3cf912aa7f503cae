-- A REFUSED CALL LEAVES EVERYTHING THAT IT WAS LENT AS IT WAS: the state's words, the flows', the ring buffer, the EV times; for any event
-- that does so to its context (`refused_words`), so for each event of a flow, for a path choice and for setting up; of a choice of the next
-- flow the words to answer in too (`choose_untouched`), of a planning its plan (`plan_untouched`), of a replay its place and its answers
-- (`replay_untouched`). A replay refuses words that are no state's where it looks at them (`replay_no_state`). And a word of two numbers
-- tells both (`path_word`, `ack_word`, `nack_word`, `judge_word`, `plan_word`).
-- Assumes nothing.
use mathlib.Core.Path.{◌≡◌, refl, sym, ap, ◌∙◌}
use mathlib.Core.Bool.{Bool, true, false, ◌&&◌}
use mathlib.Core.List.{List}
use mathlib.Core.Option.{none}
use Prim.Native.Nat.{ℕ, ◌^◌, ◌/◌, ◌%◌}
use native.Mathlib.Omega.{arith}
use lib.Dec.{leb}
use borrow.Author.Tests.{ne_eqb}
use Rattle.rules.specs.Branch.{if_so, if_eq, so_no, eq_no, so_both, lt_both, eq_both}
use Rattle.rules.specs.Rows.{first_of}
use Rattle.rules.specs.Test.{inside}
use Rattle.window.specs.Range.{in_range}
use Rattle.window.specs.declared.Settings.{Settings}
use Rattle.ledger.specs.Memory.{Memory}
use Rattle.sender.specs.Start.{no_settings, zeros, clear_memory}
use Rattle.sender.specs.Start.{fresh_state as freshSender}
use Rattle.sender.specs.declared.Send.{Send}
use Rattle.sender.specs.declared.Ack.{Ack}
use Rattle.sender.specs.declared.Nack.{Nack}
use Rattle.sender.specs.declared.Loss.{Loss}
use Rattle.sender.proofs.Rowing.{answer_other}
use Rattle.context.specs.Context.{Context, context, Answered, answered, Routing, shared_of}
use Rattle.context.specs.Sound.{sound_context}
use Rattle.context.specs.Events.{decided, chosen, on_new_data, on_send, on_ack, on_nack, on_loss, on_path}
use Rattle.context.specs.Turns.{Chosen, chose, past_choose, on_choose}
use Rattle.context.specs.Start.{set_up_rows, fresh_state, fresh_table, on_set_up}
use Rattle.context.specs.declared.Controller.{Controller}
use Rattle.plan.specs.Plan.{written}
use Rattle.plan.specs.Judge.{on_judge}
use Rattle.plan.specs.Planner.{planning_rows, Planning, proposed, on_plan}
use Rattle.plan.specs.declared.Planned.{Planned}
use Rattle.replay.specs.Answers.{sound_after}
use Rattle.replay.specs.Places.{logged, offset_most, sound_place}
use Rattle.replay.specs.Batches.{Batching, fill_room_of, batch_of}
use Rattle.replay_chunks.specs.Chunks.{Chunking, sound_chunk, takes, chunk_of}
use Rattle.c_state.specs.Layout.{word, settings_from, state_from, words_ok, unpacked}
use Rattle.c_api.specs.Flags.{flag}
use Rattle.c_state.specs.declared.Unpacked.{Unpacked}
use Rattle.c_api.specs.Calls.{Called, called, words_after, Beside, path_beside, ack_beside, nack_beside, beside_word, on_words}
use Rattle.c_api.specs.Calls.{on_beside_words, on_set_up_words}
use Rattle.c_api.specs.Turns.{turn_after, Choosing, choosing, packed_turn, on_choose_words}
use Rattle.c_api.specs.Plans.{judged_word, PlanCalled, planned_word, on_plan_words}
use Rattle.c_api.proofs.Plannings.{judge_number, plan_number}
use Rattle.c_api.proofs.Singles.{word_parts, path_double, ack_double, nack_double}
use Rattle.c_api.specs.Parts.{carry_from, part_ok, Chunked, chunk_called, part_then, handed_part, on_chunk_words}
use Rattle.c_api.specs.Batch.{place_from, lent_ok, Replayed, replay_called, place_then, words_then, handed, on_replay_words}

pub record Untouched (x : Called) (ws fs : List ℕ) (r : Memory) (t : List ℕ) : Type 0 where
  pub words_same : x.words ≡ ws
  pub flows_same : x.flows ≡ fs
  pub slots_same : x.slots ≡ r
  pub times_same : x.times ≡ t

-- ---- a word of two numbers

-- the first stands in the low 32 bits, the second above them
abbrev pub Parted : Beside → Type 0
Parted a = (beside_word a % 2 ^ 32 ≡ a.number) × (beside_word a / 2 ^ 32 ≡ a.above)

module _ (time k : ℕ) (x : Context) where
  pub path_word : Parted (path_beside time k x)
  path_word = word_parts _ _ (path_double time k x).most

  pub ack_word : (a : Ack) → Parted (ack_beside time k a x)
  ack_word a = word_parts _ _ (ack_double time k x a).most

  pub nack_word : (a : Nack) → Parted (nack_beside time k a x)
  nack_word a = word_parts _ _ (nack_double time k x a).most

-- of a judgement the number and the send that fails, of a planning the number and how many sends there are
module _ (time : ℕ) (x : Context) where
  pub judge_word : (ps : List Planned)
      → let j = on_judge time ps x in (judged_word j % 2 ^ 32 ≡ j.number) × (judged_word j / 2 ^ 32 ≡ j.send)
  judge_word ps = let m = judge_number time ps x in (omega (arith, m), omega (arith, m))

  pub plan_word : (size room : ℕ) (plan : List ℕ)
      → let p = proposed plan (on_plan time size room x) in
      ((planned_word p).word % 2 ^ 32 ≡ p.number) × ((planned_word p).word / 2 ^ 32 ≡ p.count)
  plan_word size room plan = let m = plan_number time size room x in (omega (arith, m), omega (arith, m))

-- ---- a refused event leaves its context as it was

-- whatever it would have done
refused_same : (n : ℕ) (x after : Context) → ((decided n x after).number ≡ 0 → ⊥) → (decided n x after).after ≡ x
unfolding decided
refused_same n x after h =
    ap (λ (a : Answered). a.after)
    (answer_other (λ (a : Answered). a.number) n (record { number = 0; after = after }) (record { number = n; after = x }) refl h)

-- a path choice
chosen_same : (n ev : ℕ) (x after : Context) → ((chosen n ev x after).number ≡ 0 → ⊥) → (chosen n ev x after).after ≡ x
unfolding chosen
chosen_same n ev x after h =
    ap (λ (a : Routing). a.after)
    (answer_other (λ (a : Routing). a.number) n (record { number = 0; ev = ev; after = after }) (record { number = n; ev = 0; after = x })
    refl h)

-- and setting up what it was lent, beside a state of zeros
set_up_same : (g : Settings) (fs : List ℕ) (r : Memory) (t : List ℕ) → ((on_set_up g fs r t).number ≡ 0 → ⊥)
    → (on_set_up g fs r t).after ≡ context (fresh_state no_settings) fs r t
unfolding on_set_up
set_up_same g fs r t h =
    let n = first_of (set_up_rows g fs r t) in
    ap (λ (a : Answered). a.after)
    (answer_other (λ (a : Answered). a.number) n
    (answered 0 (fresh_state g) (fresh_table g.first_psn fs) (clear_memory r) (zeros t))
    (answered n (fresh_state no_settings) fs r t) refl h)

-- ---- refused calls

module _ (ws fs : List ℕ) (r : Memory) (t : List ℕ) where
  -- a number other than 0 leaves all as it was
  abbrev pub Spared : Called → Type 0
  Spared x = (x.number ≡ 0 → ⊥) → Untouched x ws fs r t

  refused_here : (n : ℕ) → Untouched (called n ws fs r t) ws fs r t
  refused_here n = record { words_same = refl; flows_same = refl; slots_same = refl; times_same = refl }

  -- a number other than 0, beside a context whose flows, ring buffer and EV times are those that were lent
  refused_after : (n m : ℕ) (after : Context) (c : Controller) → (n ≡ 0 → ⊥) → after ≡ context c fs r t
      → Untouched (called m (words_after n ws after.state) after.flows after.slots after.times) ws fs r t
  unfolding words_after
  refused_after n m after c h e =
      record {
        words_same = sym (eq_no n 0 ws _ ws h refl);
        flows_same = ap (λ (v : Context). v.flows) e;
        slots_same = ap (λ (v : Context). v.slots) e;
        times_same = ap (λ (v : Context). v.times) e;
      }

  pub refused_words :
      (event : Context → Answered) → ((w : Context) → ((event w).number ≡ 0 → ⊥) → (event w).after ≡ w) →
      Spared (on_words ws fs r t event)
  unfolding on_words
  refused_words event same =
      let w = context (state_from ws) fs r t in
      so_both Spared (words_ok ws) _ _
      (λ _ h. refused_after (event w).number (event w).number (event w).after w.state h (same w h))
      (λ _ _. refused_here 2)

  -- the number of a call whose answer has a second one stands in the low 32 bits of its word
  abbrev pub SparedBeside : Called → Type 0
  SparedBeside x = (x.number % 2 ^ 32 ≡ 0 → ⊥) → Untouched x ws fs r t

  pub refused_beside :
      (event : Context → Beside) → ((w : Context) → Parted (event w))
      → ((w : Context) → ((event w).number ≡ 0 → ⊥) → (event w).after ≡ w) →
      SparedBeside (on_beside_words ws fs r t event)
  unfolding on_beside_words
  refused_beside event parted same =
      let w = context (state_from ws) fs r t in
      let a = event w in
      so_both SparedBeside (words_ok ws) _ _
      (λ _ h.
      let refused : a.number ≡ 0 → ⊥ = λ z. h ((parted w).0 ∙ z) in
      refused_after a.number (beside_word a) a.after w.state refused (same w refused))
      (λ _ _. refused_here 2)

  module _ (time k : ℕ) where
    pub new_data_untouched : (bytes : ℕ) → Spared (on_words ws fs r t (on_new_data time k bytes))
    unfolding on_new_data
    new_data_untouched bytes = refused_words (on_new_data time k bytes) (λ x. refused_same _ x _)

    pub send_untouched : (a : Send) → Spared (on_words ws fs r t (on_send time k a))
    unfolding on_send
    send_untouched a = refused_words (on_send time k a) (λ x. refused_same _ x _)

    pub loss_untouched : (a : Loss) → Spared (on_words ws fs r t (on_loss time k a))
    unfolding on_loss
    loss_untouched a = refused_words (on_loss time k a) (λ x. refused_same _ x _)

    pub ack_untouched : (a : Ack) → SparedBeside (on_beside_words ws fs r t (ack_beside time k a))
    unfolding on_ack
    ack_untouched a = refused_beside (ack_beside time k a) (λ x. ack_word time k x a) (λ x. refused_same _ x _)

    pub nack_untouched : (a : Nack) → SparedBeside (on_beside_words ws fs r t (nack_beside time k a))
    unfolding on_nack
    nack_untouched a = refused_beside (nack_beside time k a) (λ x. nack_word time k x a) (λ x. refused_same _ x _)

    pub path_untouched : SparedBeside (on_beside_words ws fs r t (path_beside time k))
    unfolding on_path
    path_untouched = refused_beside (path_beside time k) (path_word time k) (λ x. chosen_same _ _ x _)

  pub set_up_untouched : (ns : List ℕ) (psn off : ℕ) (evs : ℕ) → Spared (on_set_up_words ns psn off evs ws fs r t)
  unfolding on_set_up_words
  set_up_untouched ns psn off evs =
      let g = settings_from ns psn off evs in
      let a = on_set_up g fs r t in
      so_both Spared _ _ _
      (λ _.
      so_both Spared _ _ _
      (λ _.
      so_both Spared _ _ _
      (λ _ h. refused_after a.number a.number a.after (fresh_state no_settings) h (set_up_same g fs r t h))
      (λ _ _. refused_here 2))
      (λ _ _. refused_here 1))
      (λ _ _. refused_here 2)

-- ---- a refused choice

module _ (ws fs : List ℕ) (r : Memory) (t turn : List ℕ) where
  two_spared : (x : Context) → packed_turn ws turn (chose 2 none x) ≡ choosing 2 ws turn
  unfolding words_after turn_after if_eq if_so
  two_spared x = refl

  -- a number other than 0 is 2, and neither the state's words nor those to answer in are written
  pub choose_untouched : ((on_choose_words ws fs r t turn).number ≡ 0 → ⊥) → on_choose_words ws fs r t turn ≡ choosing 2 ws turn
  unfolding on_choose_words on_choose past_choose
  choose_untouched =
      so_both (λ (x : Choosing). (x.number ≡ 0 → ⊥) → x ≡ choosing 2 ws turn) _ _ _
      (λ _.
      so_both (λ (c : Chosen). (c.number ≡ 0 → ⊥) → packed_turn ws turn c ≡ choosing 2 ws turn)
      (sound_context (context (state_from ws) fs r t)) _ _ (λ _ h. absurd (h refl)) (λ _ _. two_spared (context (state_from ws) fs r t)))
      (λ _ _. refl)

-- ---- a refused planning

module _ (time size : ℕ) (plan ws fs : List ℕ) (r : Memory) (t : List ℕ) where
  -- a number other than 0, which stands in the low 32 bits, leaves the plan as it was
  abbrev pub SparedPlan : PlanCalled → Type 0
  SparedPlan x = (x.word % 2 ^ 32 ≡ 0 → ⊥) → x.plan ≡ plan

  pub plan_untouched : SparedPlan (on_plan_words time size plan ws fs r t)
  unfolding on_plan_words on_plan written
  plan_untouched =
      so_both SparedPlan (words_ok ws) _ _
      (λ _.
      eq_both (λ (p : Planning). SparedPlan (planned_word (proposed plan p)))
      (first_of (planning_rows time (context (state_from ws) fs r t))) 0 _ _ (λ _ h. absurd (h (omega arith))) (λ _ _. refl))
      (λ _ _. refl)

-- ---- a refused replay

-- a state of zeros does not hold together: its MTU is out of range
zeros_unsound : (fs : List ℕ) (r : Memory) (t : List ℕ) → sound_context (context (fresh_state no_settings) fs r t) ≡ false
unfolding sound_context in_range inside fresh_state shared_of freshSender no_settings
zeros_unsound fs r t = refl

and_no : (b : Bool) → (b && false) ≡ false
and_no true = refl
and_no false = refl

module _ (log place ws fs : List ℕ) (r : Memory) (t answers : List ℕ) where
  -- a number other than 0 is 2, and all is as it was
  abbrev pub SparedReplay : Replayed → Type 0
  SparedReplay x = (x.number ≡ 0 → ⊥) → x ≡ replay_called 2 place ws fs r t answers

  -- beside a refused batch nothing is stored
  abbrev SparedBatch : Batching → Type 0
  SparedBatch b = SparedReplay (replay_called b.number place ws b.after.flows b.after.slots b.after.times b.room)

  batch_spared : (b : Batching) → SparedBatch b → SparedReplay (handed place ws b)
  unfolding handed place_then words_then if_eq
  batch_spared b f h = rw (ne_eqb b.number 0 h) (f h)

  pub replay_untouched : SparedReplay (on_replay_words log place ws fs r t answers)
  unfolding on_replay_words batch_of fill_room_of
  replay_untouched =
      let p = place_from place in
      let w = context (unpacked ws).state fs r t in
      so_both SparedReplay (lent_ok place ws) _ _
      (λ _.
      batch_spared (batch_of (logged log) p w answers)
      (so_both SparedBatch (sound_place p w) _ _
      (λ _ h. absurd (h refl))
      (λ _ _. refl)))
      (λ _ _. refl)

  -- past record 1 and before a stop, words that are no state's are refused
  pub replay_no_state :
      words_ok ws ≡ false → (word place 1 ≡ 0 → ⊥) → flag place 2 ≡ false →
      on_replay_words log place ws fs r t answers ≡ replay_called 2 place ws fs r t answers
  unfolding on_replay_words batch_of handed place_then words_then sound_place sound_after unpacked if_eq
  replay_no_state bad done going =
      let p = place_from place in
      let w = context (unpacked ws).state fs r t in
      let no_state : (unpacked ws).state ≡ fresh_state no_settings
      = ap (λ (u : Unpacked). u.state) (sym (so_no (words_ok ws) _ _ _ bad refl)) in
      let unsound : sound_context w ≡ false = ap (λ (c : Controller). sound_context (context c fs r t)) no_state ∙ zeros_unsound fs r t in
      let broken : sound_place p w ≡ false = rw (going, ne_eqb (word place 1) 0 done, unsound)
      (and_no (leb (word place 1) (word place 0))) in
      so_both (λ (x : Replayed). x ≡ replay_called 2 place ws fs r t answers) (lent_ok place ws) _ _
      (λ _. sym (ap (handed place ws) (so_no (sound_place p w) _ _ _ broken refl)))
      (λ _. refl)

-- ---- a refused chunk

module _ (chunk : List ℕ) (ended : Bool) (part piece ws fs : List ℕ) (r : Memory) (t answers : List ℕ) where
  -- a number other than 0, and all is as it was
  abbrev pub SparedChunk : Chunked → Type 0
  SparedChunk x = (x.number ≡ 0 → ⊥) → x ≡ chunk_called x.number part piece ws fs r t answers

  -- beside a refused chunk nothing is stored
  abbrev SparedPart : Chunking → Type 0
  SparedPart b =
      SparedChunk (chunk_called b.number part b.piece ws b.after.flows b.after.slots b.after.times b.room)

  chunk_spared : (b : Chunking) → SparedPart b → SparedChunk (handed_part part ws b)
  unfolding handed_part part_then words_then if_eq
  chunk_spared b f h = rw (ne_eqb b.number 0 h) (f h)

  pub chunk_untouched : SparedChunk (on_chunk_words chunk ended part piece ws fs r t answers)
  unfolding on_chunk_words chunk_of takes
  chunk_untouched =
      let h = carry_from part in
      let w = context (unpacked ws).state fs r t in
      so_both SparedChunk (part_ok part ws) _ _
      (λ _.
      chunk_spared (chunk_of h w piece chunk ended answers)
      (so_both SparedPart (sound_chunk h w piece) _ _
      (λ _. so_both SparedPart h.place.stopped _ _ (λ _ n. absurd (n refl))
      (λ _. lt_both SparedPart offset_most _ _ _ (λ _ _. refl) (λ _ n. absurd (n refl))))
      (λ _ _. refl)))
      (λ _ _. refl)
