-- What each of the six events has, whatever it is handed: it answers 2 of a context that does not hold together, leaves one that does
-- holding together, and leaves as many words in the table.
-- Assumes nothing.
use mathlib.Core.Path.{◌≡◌, refl, sym, ap}
use mathlib.Core.Bool.{true, false}
use mathlib.Core.List.{List}
use mathlib.Core.Option.{none, some}
use Prim.Native.Nat.{ℕ}
use native.Mathlib.Omega.{arith}
use lib.ListN.{length}
use Rattle.rules.specs.Branch.{eq_no, eq_both}
use Rattle.rules.specs.Rows.{Row, first_of}
use Rattle.window.specs.declared.Sampling.{Sampling}
use Rattle.flow_table.proofs.Places.{with_length}
use Rattle.sender.specs.World.{World, view_of, world_of}
use Rattle.sender.specs.Events.{says}
use Rattle.sender.specs.Steps.{new_data_step, send_step, ack_sampling, ack_step, nack_sampling, nack_step, loss_step, path_step, route_of}
use Rattle.sender.specs.declared.Send.{Send}
use Rattle.sender.specs.declared.Ack.{Ack}
use Rattle.sender.specs.declared.Nack.{Nack}
use Rattle.sender.specs.declared.Loss.{Loss}
use Rattle.context.specs.Context.{Context, Answered, Routing, world_at, put_world}
use Rattle.context.specs.Sound.{sound_context}
use Rattle.context.specs.Rows.{with_sound}
use Rattle.context.specs.Events.{decided, chosen, new_data_of, send_of, ack_of, nack_of, loss_of, path_of, path_left, ack_says, nack_says}
use Rattle.context.specs.Events.{on_new_data, on_send, on_ack, on_nack, on_loss, on_path}
use Rattle.context.specs.Table.{route_answer}
use Rattle.context.proofs.Entries.{unsound_answer, unsound_route}
use Rattle.context.proofs.Kept.{new_data_lasts, send_lasts, ack_lasts, nack_lasts, loss_lasts, path_lasts}

pub record Event (on : Context → Answered) : Type 0 where
  pub refuses : (x : Context) → sound_context x ≡ false → on x ≡ record { number = 2; after = x }
  pub lasts : (x : Context) → sound_context x ≡ true → sound_context (on x).after ≡ true
  pub long : (x : Context) → length (on x).after.flows ≡ length x.flows

-- ---- an event whose answer is decided by rows

module _ (k : ℕ) (rows : Context → List Row) (left : Context → World) where
  abbrev by_rows : Context → Answered
  by_rows x = decided (first_of (with_sound x (rows x))) x (put_world k x (left x))

  rows_refuse : (x : Context) → sound_context x ≡ false → by_rows x ≡ record { number = 2; after = x }
  rows_refuse x e = sym (unsound_answer x e (rows x) (put_world k x (left x)))

  rows_long : (x : Context) → length (by_rows x).after.flows ≡ length x.flows
  unfolding decided put_world
  rows_long x =
      eq_both (λ (r : Answered). length r.after.flows ≡ length x.flows) (first_of (with_sound x (rows x))) 0 _ _
      (λ _. with_length x.flows k (left x).state.flow) (λ _. refl)

module _ (time k : ℕ) where
  pub new_data_event : (bytes : ℕ) → Event (on_new_data time k bytes)
  unfolding on_new_data
  new_data_event bytes =
      record {
        refuses = rows_refuse k (new_data_of time k bytes) (λ x. world_of (new_data_step time bytes (view_of (world_at k x))));
        lasts = λ x e. new_data_lasts x e time k bytes;
        long = rows_long k (new_data_of time k bytes) (λ x. world_of (new_data_step time bytes (view_of (world_at k x))));
      }

  pub send_event : (a : Send) → Event (on_send time k a)
  unfolding on_send
  send_event a =
      record {
        refuses = rows_refuse k (send_of time k a) (λ x. world_of (send_step time a (view_of (world_at k x))));
        lasts = λ x e. send_lasts x e time k a;
        long = rows_long k (send_of time k a) (λ x. world_of (send_step time a (view_of (world_at k x))));
      }

  pub ack_event : (a : Ack) → Event (on_ack time k a)
  unfolding on_ack
  ack_event a =
      record {
        refuses = rows_refuse k (ack_of time k a) (λ x. world_of (ack_step time a (view_of (world_at k x))));
        lasts = λ x e. ack_lasts x e time k a;
        long = rows_long k (ack_of time k a) (λ x. world_of (ack_step time a (view_of (world_at k x))));
      }

  pub nack_event : (a : Nack) → Event (on_nack time k a)
  unfolding on_nack
  nack_event a =
      record {
        refuses = rows_refuse k (nack_of time k a) (λ x. world_of (nack_step time a (view_of (world_at k x))));
        lasts = λ x e. nack_lasts x e time k a;
        long = rows_long k (nack_of time k a) (λ x. world_of (nack_step time a (view_of (world_at k x))));
      }

  pub loss_event : (a : Loss) → Event (on_loss time k a)
  unfolding on_loss
  loss_event a =
      record {
        refuses = rows_refuse k (loss_of time k a) (λ x. world_of (loss_step time a (view_of (world_at k x))));
        lasts = λ x e. loss_lasts x e time k a;
        long = rows_long k (loss_of time k a) (λ x. world_of (loss_step time a (view_of (world_at k x))));
      }

  -- ---- a path choice, with the EV

  path_refuses : (x : Context) → sound_context x ≡ false → on_path time k x ≡ record { number = 2; ev = 0; after = x }
  unfolding on_path
  path_refuses x e = sym (unsound_route x e (path_of time k x) (route_of time (view_of (world_at k x))).ev (path_left time k x))

  pub path_event : Event (λ x. route_answer (on_path time k x))
  unfolding on_path chosen put_world
  path_event =
      record {
        refuses = λ x e. ap route_answer (path_refuses x e);
        lasts = λ x e. path_lasts x e time k;
        long = λ x. eq_both (λ (r : Routing). length r.after.flows ≡ length x.flows) (first_of (with_sound x (path_of time k x))) 0 _ _
            (λ _. with_length x.flows k (world_of (path_step time (view_of (world_at k x)))).state.flow) (λ _. refl);
      }

  -- ---- what else is said where 2 is answered: nothing of a sample, EV 0

  no_sample : (on : Context → Answered) (E : Event on) (x : Context) (sampling : Sampling) → sound_context x ≡ false
      → none ≡ says (on x).number sampling
  unfolding says
  no_sample on E x sampling e =
      let two : (on x).number ≡ 2 = ap (λ (r : Answered). r.number) (E.refuses x e) in
      eq_no (on x).number 0 none (some sampling) none (λ z. let n : ⊥ = omega (arith, two, z) in n) refl

  pub ack_unsaid : (a : Ack) (x : Context) → sound_context x ≡ false → none ≡ ack_says time k a x
  ack_unsaid a x e = no_sample (on_ack time k a) (ack_event a) x (ack_sampling time a (view_of (world_at k x))) e

  pub nack_unsaid : (a : Nack) (x : Context) → sound_context x ≡ false → none ≡ nack_says time k a x
  nack_unsaid a x e = no_sample (on_nack time k a) (nack_event a) x (nack_sampling time a (view_of (world_at k x))) e

  pub path_unsaid : (x : Context) → sound_context x ≡ false → 0 ≡ (on_path time k x).ev
  path_unsaid x e = ap (λ (r : Routing). r.ev) (sym (path_refuses x e))
