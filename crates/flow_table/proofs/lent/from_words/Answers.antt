-- `from_words` reads the records of the first n flows in turn (`first_read`).
use mathlib.Core.Path.{◌≡◌, ap, ◌∙◌}
use Prim.Native.Nat.{ℕ}
use native.Mathlib.Omega.{arith}
use Rattle.flow_table.proofs.Turns.{first_read, read_next}
use Rattle.flow_table.proofs.lent.from_words.Goals as goal

pub loop-k-init : goal.loop-k-init
loop-k-init c = c.no_flows-fs.ensures

pub flow_at-f-requires : goal.flow_at-f-requires
flow_at-f-requires c = record {
  k_bound = omega (arith, c.requires.n_le_flows_most.1);
  fits = c.requires.all_fit c.loop-k.k (omega arith);
}

pub with_record-fs-requires : goal.with_record-fs-requires
with_record-fs-requires c = omega (arith, c.requires.n_le_flows_most.0)

pub loop-k-preserved : goal.loop-k-preserved
loop-k-preserved c =
    c.with_record-fs.ensures ∙ read_next c.args.n c.args.words.now c.loop-k.k c.loop-k.fs c.flow_at-f.result
    c.requires.n_le_flows_most.0 (omega arith) c.loop-k.invariant c.flow_at-f.ensures

pub returns : goal.returns
returns c =
    let end : c.loop-k.k ≡ c.args.n = omega arith in
    c.loop-k.invariant ∙ ap (λ (k : ℕ). first_read c.args.n c.args.words.now k) end
