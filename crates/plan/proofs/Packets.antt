-- What a send leaves of the packets that wait to be sent again: a resend takes its packet out (`again_waits`), a new packet none
-- (`push_waits`).
-- Assumes nothing.
use mathlib.Core.Path.{◌≡◌, refl, sym, ap, ◌∙◌}
use mathlib.Core.Logic.{by_cases}
use mathlib.Core.Bool.{Bool, true, false, not, ◌&&◌}
use mathlib.Core.List.{List, [], ◌∷◌, ◌++◌}
use Prim.Native.Nat.{ℕ, ◌<◌, ◌≤◌}
use native.Mathlib.Decide.{ℕ_discrete, dec_lt}
use native.Mathlib.Omega.{arith}
use lib.Dec.{eqb}
use lib.ListN.{length, get_or, set, length-append, get_or-append, get_or-eq_default}
use lib.Seq.{get_or-set_same, get_or-set_other, get_or-append_seam}
use borrow.Author.Tests.{eq-eqb, ne_eqb}
use Rattle.std.proofs.lemmas.Bool.{and_right}
use Rattle.serial.specs.Psn.{psns, plus}
use Rattle.serial.proofs.Cover.{plus_minus}
use Rattle.ledger.specs.Packets.{no_packet, is_marked}
use Rattle.ledger.specs.Ring.{Ring, cap_of, laid, long_of, packets, offset_of, packet_of}
use Rattle.ledger.specs.Steps.{changed}
use Rattle.ledger.specs.declared.Flow.{Flow}
use Rattle.ledger.specs.declared.Packet.{Packet}
use Rattle.ledger.proofs.Facts.{Facts, packets_long}
use Rattle.ledger.proofs.Geometry.{packet_none}
use Rattle.ledger.proofs.Sends.{changed_packets, longer_packets}
use Rattle.plan.specs.Ahead.{pushed, waits_as}

pub and_yes : (b c : Bool) → c ≡ true → (b && c) ≡ b
and_yes true c e = e
and_yes false c e = refl

-- a packet that is not marked does not wait
pub not_waits : (size : ℕ) (x : Packet) → is_marked x ≡ false → waits_as size x ≡ false
unfolding waits_as
not_waits size x e = rw e

none_waits : (size : ℕ) → waits_as size no_packet ≡ false
unfolding is_marked
none_waits size = not_waits size no_packet refl

-- two PSNs as far behind low are one
pub offset_tells : (f : Flow) (p q : ℕ) → p < psns → q < psns → offset_of f p ≡ offset_of f q → p ≡ q
unfolding offset_of
offset_tells f p q hp hq e = sym (plus_minus f.low p hp) ∙ ap (plus f.low) e ∙ plus_minus f.low q hq

module _ (mtu clock : ℕ) (f : Flow) (r : Ring) (F : Facts mtu clock f r) where
  -- the packet of q is overwritten by one that is not marked
  pub again_waits : (q : ℕ) → q < psns → offset_of f q < long_of f → (y : Packet) → is_marked y ≡ false → (size psn : ℕ) → psn < psns
      → waits_as size (packet_of f (changed f r q y) psn) ≡ (waits_as size (packet_of f r psn) && not (eqb q psn))
  unfolding packet_of
  again_waits q hq h y e size psn hp =
      by_cases (ℕ_discrete psn q)
      (λ same.
      let there : get_or (packets f (changed f r q y)) (offset_of f psn) no_packet ≡ y =
      ap (λ (xs : List Packet). get_or xs (offset_of f psn) no_packet) (changed_packets mtu clock f r F q h y)
      ∙ ap (λ (n : ℕ). get_or (set (packets f r) (offset_of f q) y) (offset_of f n) no_packet) same
      ∙ get_or-set_same (packets f r) (offset_of f q) y no_packet (omega (arith, packets_long f r)) in
      ap (waits_as size) there ∙ not_waits size y e ∙ sym (and_right (waits_as size (get_or (packets f r) (offset_of f psn) no_packet)) _ (ap not (eq-eqb q psn (sym same)))))
      (λ other.
      let there : get_or (packets f (changed f r q y)) (offset_of f psn) no_packet ≡ get_or (packets f r) (offset_of f psn) no_packet =
      ap (λ (xs : List Packet). get_or xs (offset_of f psn) no_packet) (changed_packets mtu clock f r F q h y)
      ∙ get_or-set_other (packets f r) (offset_of f q) (offset_of f psn) y no_packet (λ s. other (offset_tells f psn q hp hq s)) in
      ap (waits_as size) there ∙ sym (and_yes (waits_as size (get_or (packets f r) (offset_of f psn) no_packet)) _ (ap not (ne_eqb q psn (λ s. other (sym s))))))

  -- one that is not marked comes behind the others
  pub push_waits : long_of f < cap_of r → (x : Packet) → is_marked x ≡ false → (size bytes psn : ℕ)
      → waits_as size (packet_of (pushed bytes f) (laid (cap_of r) f.low (packets f r ++ (x ∷ []))) psn) ≡ waits_as size (packet_of f r psn)
  unfolding packet_of pushed offset_of
  push_waits room x e size bytes psn =
      let xs = packets f r in
      let k = offset_of f psn in
      let all = ap (λ (ys : List Packet). get_or ys k no_packet) (longer_packets mtu clock f r F room bytes x) in
      by_cases (dec_lt k (length xs))
      (λ l. ap (waits_as size) (all ∙ get_or-append xs (x ∷ []) no_packet k l))
      (λ g.
      let gone : get_or xs k no_packet ≡ no_packet = packet_none f r psn (omega (arith, packets_long f r)) in
      by_cases (ℕ_discrete k (length xs))
      (λ s.
      ap (waits_as size) (all ∙ ap (λ (n : ℕ). get_or (xs ++ (x ∷ [])) n no_packet) s ∙ get_or-append_seam xs x [] no_packet)
      ∙ not_waits size x e ∙ sym (ap (waits_as size) gone ∙ none_waits size))
      (λ ne.
      let past : length (xs ++ (x ∷ [])) ≤ k = omega (arith, length-append xs (x ∷ [])) in
      ap (waits_as size) (all ∙ get_or-eq_default (xs ++ (x ∷ [])) no_packet past ∙ sym gone)))
