-- Buckets: halvings count up to the highest set bit. Assumes nothing.
use Rattle.std.proofs.Common.{◌≡◌, ℕ, zero, suc, ◌*◌, ◌/◌, ◌^◌, ◌≤◌, ◌<◌, min, lit<, refl, sym, ◌∙◌, pow-suc, arith}
use Rattle.std.proofs.lemmas.Nat.{pow_pos}
use Rattle.rules.specs.Branch.{lt_yes, lt_no, lt_both}
use Rattle.report_text.specs.Places.{buckets}
use Rattle.replay_report.specs.Figures.{halvings, bucket_of}

halvings_most : (most n : ℕ) → halvings most n ≤ most
unfolding halvings
halvings_most zero n = omega arith
halvings_most (suc most) n =
    lt_both (λ (r : ℕ). r ≤ suc most) n 2 _ _ (λ _. omega arith) (λ _. omega (arith, halvings_most most (n / 2)))

-- there is a bucket for every sample
pub bucket_most : (ticks : ℕ) → bucket_of ticks < buckets
unfolding bucket_of
bucket_most ticks = omega (arith, halvings_most 31 ticks)

-- ---- the highest set bit of a sample is how often it is halved, of as many halvings as there may be

pub halvings_bit : (most k n : ℕ) → 2 ^ k ≤ n → n < 2 * 2 ^ k → halvings most n ≡ min k most
unfolding halvings
halvings_bit zero k n low high = omega arith
halvings_bit (suc most) zero n low high = sym (lt_yes n 2 0 _ _ (omega arith) refl) ∙ omega arith
halvings_bit (suc most) (suc k) n low high =
    let power : 2 ^ suc k ≡ 2 ^ k * 2 = pow-suc 2 k in
    let half : halvings most (n / 2) ≡ min k most = halvings_bit most k (n / 2) (omega arith) (omega arith) in
    let some : 0 < 2 ^ k = pow_pos k in
    sym (lt_no n 2 _ 0 _ (omega arith) refl) ∙ omega arith

pub bucket_none : 0 ≡ bucket_of 0
unfolding bucket_of halvings
bucket_none = lt_yes 0 2 0 0 _ (lit< tt) refl

pub bucket_bit : (k ticks : ℕ) → 2 ^ k ≤ ticks → ticks < 2 * 2 ^ k → min k 31 ≡ bucket_of ticks
unfolding bucket_of
bucket_bit k ticks low high = sym (halvings_bit 31 k ticks low high)
