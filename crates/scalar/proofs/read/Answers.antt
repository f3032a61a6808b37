use Rattle.scalar.proofs.Reading.{read-bool, read_int, read-long, read-double, read-string, read-raw, read-void, string-short, raw-short}
use mir.ValLaws.{to_z-of_z}
use mir.Syntax.{w32, w64}
use mathlib.Core.Path.{◌∙◌}
use native.Mathlib.Omega.{arith}
use Rattle.scalar.proofs.read.Goals as goal

pub with_bytes-requires : goal.with_bytes-requires
with_bytes-requires c = (c.requires.0, string-short c.args.s.now c.args.at c.args.basic c.args.len c.requires.0 c.requires.1 (λ k. (c.shared_slice_known-1.given k).fits) c.in-4.is)

pub with_bytes-requires-in-5 : goal.with_bytes-requires-in-5
with_bytes-requires-in-5 c = (c.requires.0, raw-short c.args.s.now c.args.at c.args.basic c.args.len c.requires.0 c.requires.1 (λ k. (c.shared_slice_known-1.given k).fits) c.in-5.is)

pub returns-in-0 : goal.returns-in-0
returns-in-0 c = read-bool c.args.s.now c.args.at c.args.basic c.args.len c.requires.0 c.requires.1 (λ k. (c.shared_slice_known-1.given k).fits) c.in-0.is c.byte_at.ensures c.plain.ensures

pub returns-in-1 : goal.returns-in-1
returns-in-1 c = read_int c.args.s.now c.args.at c.args.basic c.args.len c.requires.0 c.requires.1 (λ k. (c.shared_slice_known-1.given k).fits) c.in-1.is c.u32_at.ensures (to_z-of_z w32 c.int_of.result (record { sfits = c.int_of.type_inv }) ∙ c.int_of.ensures) c.plain-in-1.ensures

pub returns-in-2 : goal.returns-in-2
returns-in-2 c = read-double c.args.s.now c.args.at c.args.basic c.args.len c.requires.0 c.requires.1 (λ k. (c.shared_slice_known-1.given k).fits) c.in-2.is c.u64_at.ensures c.double_of.ensures c.plain-in-2.ensures

pub returns-in-3 : goal.returns-in-3
returns-in-3 c = read-long c.args.s.now c.args.at c.args.basic c.args.len c.requires.0 c.requires.1 (λ k. (c.shared_slice_known-1.given k).fits) c.in-3.is c.u64_at-in-3.ensures (to_z-of_z w64 c.long_of.result (record { sfits = c.long_of.type_inv }) ∙ c.long_of.ensures) c.plain-in-3.ensures

pub returns-in-4 : goal.returns-in-4
returns-in-4 c = read-string c.args.s.now c.args.at c.args.basic c.args.len c.requires.0 c.requires.1 (λ k. (c.shared_slice_known-1.given k).fits) c.in-4.is c.with_bytes.ensures

pub returns-in-5 : goal.returns-in-5
returns-in-5 c = read-raw c.args.s.now c.args.at c.args.basic c.args.len c.requires.0 c.requires.1 (λ k. (c.shared_slice_known-1.given k).fits) c.in-5.is c.with_bytes-in-5.ensures

pub returns-in_default : goal.returns-in_default
returns-in_default c = read-void c.args.s.now c.args.at c.args.basic c.args.len c.requires.0 c.requires.1 (λ k. (c.shared_slice_known-1.given k).fits) (omega arith) c.plain-in_default.ensures
