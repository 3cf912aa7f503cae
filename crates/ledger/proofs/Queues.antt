-- What covering does to a queue of packets, and what the done ones at its front are: by induction over the queue. No ring here.
-- Assumes nothing.
use Rattle.std.proofs.Common.{◌≡◌, ℕ, zero, suc, ◌+◌, ◌%◌, ◌<◌, ◌≤◌, Bool, true, false, ◌||◌, eqb, List, [], ◌∷◌, length, get_or, take, drop, sym, refl, ap, ◌∙◌, subst, ap₂, suc-le-suc, zero-le, le_of_suc-le-suc, not-suc-le-zero, add-zero, mod-eq_of_lt, add_comm, suc-add, zero-add, add-one, arith, drop_of_length-le, drop-cons, eq-eqb, ne_eqb, eqb-true}
use mathlib.Core.Bool.{false≢true}
use Rattle.rules.specs.Branch.{if_so, if_eq, so_both, eq_both}
use Rattle.serial.specs.Psn.{psns, plus}
use Rattle.serial.proofs.Cover.{plus_plus, plus_lt}
use Rattle.ledger.specs.Packets.{flying_status, marked_status, done_status, no_packet, with_status, is_flying, is_marked, is_done, is_out}
use Rattle.ledger.specs.Packets.{flying_one, marked_one, marked_size, sum_of, cover_one, cover_all, covered_sum, done_run}
use Rattle.ledger.specs.declared.Packet.{Packet}

-- ---- PSNs of a queue: packet 0 has the first one, packet k + 1 is packet k of the rest

pub plus_none : (p : ℕ) → p < psns → plus p 0 ≡ p
unfolding plus
plus_none p h = ap (λ (x : ℕ). x % psns) (add-zero p) ∙ mod-eq_of_lt h

pub plus_next : (p k : ℕ) → plus (plus p 1) k ≡ plus p (suc k)
plus_next p k = plus_plus p 1 k ∙ ap (plus p) (omega arith)

-- ---- one packet

pub cover_no : (x : Packet) → cover_one false x ≡ x
unfolding cover_one if_so
cover_no x = refl

pub cover_out : (x : Packet) → is_out x ≡ true → cover_one true x ≡ with_status done_status x
unfolding cover_one if_so
cover_out x e = rw e

-- a packet that is not out stays as it is
pub cover_stays : (hit : Bool) (x : Packet) → is_out x ≡ false → cover_one hit x ≡ x
unfolding cover_one if_so
cover_stays true x e = rw e
cover_stays false x e = refl

pub done_in : (x : Packet) → is_done x ≡ true → is_out x ≡ false
unfolding is_done is_out is_flying is_marked
done_in x e =
    let q : x.status ≡ 3 = eqb-true x.status 3 e in
    rw q

pub now_done : (x : Packet) → is_done (with_status done_status x) ≡ true
unfolding is_done
now_done x = refl

-- covered by one ACK and then by another is covered by either
pub cover_again : (a b : Bool) (x : Packet) → cover_one b (cover_one a x) ≡ cover_one (a || b) x
cover_again false b x = ap (cover_one b) (cover_no x)
cover_again true b x = go (is_out x) refl
  where
    go : (o : Bool) → is_out x ≡ o → cover_one b (cover_one true x) ≡ cover_one true x
    go true e = rw (cover_out x e) (cover_stays b (with_status done_status x) (done_in (with_status done_status x) (now_done x)))
    go false e = rw (cover_stays true x e) (cover_stays b x e)

-- what is done stays done
pub done_stays : (a b : Bool) (x : Packet) → is_done (cover_one a x) ≡ true → is_done (cover_one (a || b) x) ≡ true
done_stays a b x e =
    let n : cover_one b (cover_one a x) ≡ cover_one a x = cover_stays b (cover_one a x) (done_in (cover_one a x) e) in
    rw (← (cover_again a b x)) (rw n e)

-- ---- all packets of a queue

module _ (cov : ℕ → Bool) where
  pub cover_long : (p : ℕ) (xs : List Packet) → length (cover_all cov p xs) ≡ length xs
  unfolding cover_all
  cover_long p [] = refl
  cover_long p (x ∷ xs) = ap suc (cover_long (plus p 1) xs)

  pub cover_at : (p k : ℕ) (xs : List Packet) → p < psns → k < length xs
      → get_or (cover_all cov p xs) k no_packet ≡ cover_one (cov (plus p k)) (get_or xs k no_packet)
  unfolding cover_all
  cover_at p k [] b h = absurd (not-suc-le-zero h)
  cover_at p zero (x ∷ xs) b h = ap (λ (q : ℕ). cover_one (cov q) x) (sym (plus_none p b))
  cover_at p (suc k) (x ∷ xs) b h =
      cover_at (plus p 1) k xs (plus_lt p 1) (le_of_suc-le-suc h) ∙ ap (λ (q : ℕ). cover_one (cov q) (get_or xs k no_packet)) (plus_next p k)

  -- what covering keeps of one packet, it keeps of each
  pub cover_each : (P : Packet → Type 0) → ((hit : Bool) (x : Packet) → P x → P (cover_one hit x)) → (p k : ℕ) (xs : List Packet)
      → P (get_or xs k no_packet) → P (get_or (cover_all cov p xs) k no_packet)
  unfolding cover_all
  cover_each P f p k [] h = h
  cover_each P f p zero (x ∷ xs) h = f (cov p) x h
  cover_each P f p (suc k) (x ∷ xs) h = cover_each P f (plus p 1) k xs h

  -- no packet from k on is covered
  abbrev pub Beyond : ℕ → ℕ → ℕ → Type 0
  Beyond p k n = (j : ℕ) → k ≤ j → j < n → cov (plus p j) ≡ false

  beyond_next : (p k n : ℕ) → Beyond p (suc k) (suc n) → Beyond (plus p 1) k n
  beyond_next p k n h j l m = rw (plus_next p j) (h (suc j) (suc-le-suc l) (suc-le-suc m))

  beyond_none : (p n : ℕ) → Beyond p 0 (suc n) → Beyond (plus p 1) 0 n
  beyond_none p n h j l m = rw (plus_next p j) (h (suc j) zero-le (suc-le-suc m))

  beyond_here : (p n : ℕ) → p < psns → Beyond p 0 (suc n) → cov p ≡ false
  beyond_here p n b h = subst (λ (q : ℕ). cov q ≡ false) (plus_none p b) (h 0 zero-le (suc-le-suc zero-le))

-- ---- what a queue adds up to: of the flying packets, the marked packets, the marked bytes,
-- and anything that only packets that are out add to

abbrev pub OfOut : (Packet → ℕ) → Type 0
OfOut adds = (x : Packet) → is_out x ≡ false → adds x ≡ 0

-- what is added where the status is s, s being one of the two that are out
status_out : (s v : ℕ) (x : Packet) → (x.status ≡ s → is_out x ≡ true) → is_out x ≡ false → if_eq x.status s v 0 ≡ 0
status_out s v x h e = eq_both (λ (n : ℕ). n ≡ 0) x.status s v 0 (λ q. absurd (false≢true (sym e ∙ h q))) (λ n. refl)

pub flying_out : OfOut flying_one
unfolding is_out is_flying is_marked flying_one
flying_out x e = status_out flying_status 1 x (λ q. rw q) e

pub marked_out : OfOut marked_one
unfolding is_out is_flying is_marked marked_one
marked_out x e = status_out marked_status 1 x (λ q. rw q) e

pub bytes_out : OfOut marked_size
unfolding is_out is_flying is_marked marked_size
bytes_out x e = status_out marked_status x.size x (λ q. rw q) e

module _ (adds : Packet → ℕ) (z : OfOut adds) where
  pub done_adds : (x : Packet) → x.status ≡ done_status → adds x ≡ 0
  unfolding is_done
  done_adds x e = z x (done_in x (eq-eqb x.status done_status e))

  -- what a covered packet adds leaves
  pub cover_adds : (hit : Bool) (x : Packet) → adds (cover_one hit x) + if_so hit (adds x) 0 ≡ adds x
  unfolding if_so
  cover_adds false x = ap (λ (y : Packet). adds y + 0) (cover_no x) ∙ add-zero (adds x)
  cover_adds true x = go (is_out x) refl
    where
      go : (o : Bool) → is_out x ≡ o → adds (cover_one true x) + adds x ≡ adds x
      go true e = rw (cover_out x e, done_adds (with_status done_status x) refl) (zero-add (adds x))
      go false e = rw (cover_stays true x e, z x e)

  module _ (cov : ℕ → Bool) where
    pub cover_sum : (p : ℕ) (xs : List Packet) → sum_of adds (cover_all cov p xs) + covered_sum adds cov p xs ≡ sum_of adds xs
    unfolding sum_of cover_all covered_sum
    cover_sum p [] = refl
    cover_sum p (x ∷ xs) = omega (arith, cover_adds (cov p) x, cover_sum (plus p 1) xs)

    pub covered_le : (p : ℕ) (xs : List Packet) → covered_sum adds cov p xs ≤ sum_of adds xs
    covered_le p xs = omega (arith, cover_sum p xs)

  -- done packets add nothing
  pub run_adds : (xs : List Packet) → sum_of adds (drop (done_run xs) xs) ≡ sum_of adds xs
  unfolding sum_of done_run
  run_adds [] = refl
  run_adds (x ∷ xs) =
      eq_both (λ (g : ℕ). sum_of adds (drop g (x ∷ xs)) ≡ adds x + sum_of adds xs) x.status done_status (suc (done_run xs)) 0
      (λ e. omega (arith, run_adds xs, done_adds x e)) (λ n. refl)

-- ---- what the first k packets of a queue have of it that is covered

module _ (adds : Packet → ℕ) (cov : ℕ → Bool) where
  pub taken_more : (p k : ℕ) (xs : List Packet) → p < psns → k < length xs
      → covered_sum adds cov p (take (k + 1) xs) ≡ covered_sum adds cov p (take k xs) + if_so (cov (plus p k)) (adds (get_or xs k no_packet)) 0
  unfolding covered_sum
  taken_more p k xs b h = ap (λ (j : ℕ). covered_sum adds cov p (take j xs)) (add-one k) ∙ go p k xs b h
    where
      go : (p k : ℕ) (xs : List Packet) → p < psns → k < length xs
          → covered_sum adds cov p (take (suc k) xs) ≡ covered_sum adds cov p (take k xs)
          + if_so (cov (plus p k)) (adds (get_or xs k no_packet)) 0
      go p k [] b h = absurd (not-suc-le-zero h)
      go p zero (x ∷ xs) b h = rw (plus_none p b) (add_comm (if_so (cov p) (adds x) 0) 0)
      go p (suc k) (x ∷ xs) b h = rw (← (plus_next p k)) (omega (arith, go (plus p 1) k xs (plus_lt p 1) (le_of_suc-le-suc h)))

  pub taken_whole : (p k : ℕ) (xs : List Packet) → p < psns → Beyond cov p k (length xs)
      → covered_sum adds cov p (take k xs) ≡ covered_sum adds cov p xs
  unfolding covered_sum
  taken_whole p zero [] b h = refl
  taken_whole p zero (x ∷ xs) b h =
      so_both (λ (v : ℕ). 0 ≡ v + covered_sum adds cov (plus p 1) xs) (cov p) (adds x) 0
      (λ e. absurd (false≢true (sym (beyond_here cov p (length xs) b h) ∙ e)))
      (λ e. taken_whole (plus p 1) zero xs (plus_lt p 1) (beyond_none cov p (length xs) h)
      ∙ sym (zero-add (covered_sum adds cov (plus p 1) xs)))
  taken_whole p (suc k) [] b h = refl
  taken_whole p (suc k) (x ∷ xs) b h =
      ap (λ (s : ℕ). if_so (cov p) (adds x) 0 + s) (taken_whole (plus p 1) k xs (plus_lt p 1) (beyond_next cov p k (length xs) h))

-- ---- the run of done packets at the front

pub run_le : (xs : List Packet) → done_run xs ≤ length xs
unfolding done_run
run_le [] = zero-le
run_le (x ∷ xs) =
    eq_both (λ (g : ℕ). g ≤ suc (length xs)) x.status done_status (suc (done_run xs)) 0 (λ e. suc-le-suc (run_le xs)) (λ n. zero-le)

-- the packet behind it is not done
pub run_next : (xs : List Packet) → done_run xs < length xs → is_done (get_or xs (done_run xs) no_packet) ≡ false
unfolding done_run is_done
run_next [] h = absurd (not-suc-le-zero h)
run_next (x ∷ xs) h =
    eq_both (λ (g : ℕ). g < suc (length xs) → eqb (get_or (x ∷ xs) g no_packet).status done_status ≡ false) x.status done_status
    (suc (done_run xs)) 0
    (λ e l. run_next xs (le_of_suc-le-suc l)) (λ n l. ne_eqb x.status done_status n) h

-- it goes on behind a done packet, and ends before one that is not and at the queue's end
module _ (xs : List Packet) (k : ℕ) where
  pub run_stop : k < length xs → ((get_or xs k no_packet).status ≡ done_status → ⊥) → done_run (drop k xs) ≡ 0
  unfolding done_run if_eq
  run_stop h n = rw (drop-cons xs k no_packet h) (simp (ne_eqb _ _ n))

  pub run_end : length xs ≤ k → done_run (drop k xs) ≡ 0
  unfolding done_run
  run_end h = rw (drop_of_length-le xs {i = k} h)

-- ---- two ACKs after one another

-- what either covers
abbrev pub either : (ℕ → Bool) → (ℕ → Bool) → ℕ → Bool
either c d p = c p || d p

module _ (c d : ℕ → Bool) where
  -- cover what either covers
  pub cover_twice : (p : ℕ) (xs : List Packet) → cover_all d p (cover_all c p xs) ≡ cover_all (either c d) p xs
  unfolding cover_all
  cover_twice p [] = refl
  cover_twice p (x ∷ xs) = ap₂ (λ (y : Packet) (ys : List Packet). y ∷ ys) (cover_again (c p) (d p) x) (cover_twice (plus p 1) xs)

-- how many packets leave the queue by an ACK, and which are left
abbrev pub gone_of : (ℕ → Bool) → ℕ → List Packet → ℕ
gone_of cov p xs = done_run (cover_all cov p xs)

abbrev pub left_of : (ℕ → Bool) → ℕ → List Packet → List Packet
left_of cov p xs = drop (gone_of cov p xs) (cover_all cov p xs)

run_empty : done_run [] ≡ 0
unfolding done_run
run_empty = refl

-- the run at a packet that is done, and at one that is not
run_one : (x : Packet) (xs : List Packet) → is_done x ≡ true → done_run (x ∷ xs) ≡ suc (done_run xs)
unfolding done_run is_done if_eq
run_one x xs e = rw e

run_none : (x : Packet) (xs : List Packet) → is_done x ≡ false → done_run (x ∷ xs) ≡ 0
unfolding done_run is_done if_eq
run_none x xs e = rw e

-- the run is empty where the queue does not begin with a done packet
pub run_first : (xs : List Packet) → (0 < length xs → is_done (get_or xs 0 no_packet) ≡ false) → done_run xs ≡ 0
run_first [] h = run_empty
run_first (x ∷ xs) h = run_none x xs (h (suc-le-suc zero-le))

module _ (c d : ℕ → Bool) where
  -- a queue that c has covered, and one that either has: once d comes too, as many packets leave and the same are left
  abbrev Alike : ℕ → List Packet → List Packet → Type 0
  Alike p ys zs =
      let q = plus p (done_run ys) in
      (done_run ys + gone_of d q (drop (done_run ys) ys) ≡ done_run zs) × (left_of d q (drop (done_run ys) ys) ≡ drop (done_run zs) zs)

  -- a done packet more in front
  alike_more : (p : ℕ) (y z : Packet) (ys zs : List Packet) → is_done y ≡ true → is_done z ≡ true → Alike (plus p 1) ys zs
      → Alike p (y ∷ ys) (z ∷ zs)
  alike_more p y z ys zs e f ih = rw (run_one y ys e, run_one z zs f, ← (plus_next p (done_run ys))) (suc-add _ _ ∙ ap suc ih.0, ih.1)

  -- nothing leaves before d comes
  alike_none : (p : ℕ) (ys zs : List Packet) → p < psns → done_run ys ≡ 0 → cover_all d p ys ≡ zs → Alike p ys zs
  alike_none p ys zs b e f = rw (e, plus_none p b, f) (zero-add (done_run zs), refl)

  -- Two ACKs after one another settle the queue as one does that covers what either covers: as many packets leave, and the same are left.
  pub settle_twice : (p : ℕ) (xs : List Packet) → p < psns
      → let q = plus p (gone_of c p xs) in
      (gone_of c p xs + gone_of d q (left_of c p xs) ≡ gone_of (either c d) p xs) × (left_of d q (left_of c p xs) ≡ left_of (either c d) p xs)
  unfolding cover_all
  settle_twice p [] b = alike_none p [] [] b run_empty refl
  settle_twice p (x ∷ xs) b = go (is_done (cover_one (c p) x)) refl (settle_twice (plus p 1) xs (plus_lt p 1))
    where
      go : (o : Bool) → is_done (cover_one (c p) x) ≡ o → Alike (plus p 1) (cover_all c (plus p 1) xs) (cover_all (either c d) (plus p 1) xs)
          → Alike p (cover_all c p (x ∷ xs)) (cover_all (either c d) p (x ∷ xs))
      go true e ih =
          alike_more p (cover_one (c p) x) (cover_one (c p || d p) x) (cover_all c (plus p 1) xs) (cover_all (either c d) (plus p 1) xs) e
          (done_stays (c p) (d p) x e) ih
      go false e ih =
          alike_none p (cover_all c p (x ∷ xs)) (cover_all (either c d) p (x ∷ xs)) b
          (run_none (cover_one (c p) x) (cover_all c (plus p 1) xs) e) (cover_twice c d p (x ∷ xs))

  -- and the same leaves the totals
  pub covered_twice : (adds : Packet → ℕ) → OfOut adds → (p : ℕ) (xs : List Packet) → p < psns
      → covered_sum adds c p xs + covered_sum adds d (plus p (gone_of c p xs)) (left_of c p xs) ≡ covered_sum adds (either c d) p xs
  covered_twice adds z p xs b =
      let q = plus p (gone_of c p xs) in
      omega (
        arith,
        cover_sum adds z c p xs,
        run_adds adds z (cover_all c p xs),
        cover_sum adds z d q (left_of c p xs),
        run_adds adds z (cover_all d q (left_of c p xs)),
        ap (sum_of adds) (settle_twice p xs b).1,
        run_adds adds z (cover_all (either c d) p xs),
        cover_sum adds z (either c d) p xs,
      )
