-- The values of accepted headers are small. Assumes nothing.
use mathlib.Core.Path.{◌≡◌, sym}
use mathlib.Core.List.{List}
use Prim.Native.Nat.{ℕ}
use native.Mathlib.Nat.{le_trans}
use native.Mathlib.Omega.{arith}
use Rattle.refusal.specs.Refused.{gives}
use Rattle.limits.specs.declared.Caller.{Caller}
use Rattle.limits.proofs.Callers.{records-most}
use Rattle.particles.proofs.Checks.{size-limits}
use Rattle.bath_file.specs.declared.Header.{Header}
use Rattle.bath_file.specs.File.{file_answer}
use Rattle.bath_file.proofs.Checks.{edge-limits}
use Rattle.bath_file.proofs.Answers.{header-held}
use Rattle.bath_file.proofs.Records.{file-held}
use Rattle.wide.specs.Internal.{Narrow}

pub narrow : (caller : Caller) (bytes : List ℕ) (h : Header) → gives h ≡ file_answer caller bytes → Narrow h
narrow caller bytes h is =
    let v = (header-held caller bytes (file-held caller bytes h (sym is)).header).valid in
    let count = le_trans v.count-to (records-most caller) in
    let s = size-limits caller h.nx h.ny v.size in
    let e = edge-limits h.kind h.width v.edge in
    record {
      nx = omega arith;
      ny = omega arith;
      count = omega (arith, count);
      steps = omega arith;
      kind = omega (arith, e.kind-to);
      width = omega (arith, e.width-to);
      drag = omega (arith, v.drag-to);
    }
