-- A header counts fewer than 8,192 records, whatever its bytes. Assumes nothing.
use mathlib.Core.Path.{◌≡◌, sym, ap, subst}
use mathlib.Core.List.{List}
use Prim.Native.Nat.{ℕ, ◌+◌, ◌*◌, ◌<◌}
use native.Mathlib.Omega.{arith}
use Rattle.particle.specs.Layout.{record_length}
use Rattle.bath_file.specs.declared.Header.{Header}
use Rattle.bath_file.specs.Layout.{header_length}
use Rattle.bath_file.specs.File.{header_in}
use Rattle.store.specs.Form.{file_length}
use Rattle.store_form.proofs.file_length.Goals as goal

few : (bytes : List ℕ) → (header_in bytes).count < 8192
unfolding header_in
few bytes = omega arith

counted : (bytes : List ℕ) {h : Header} → h ≡ header_in bytes → h.count < 8192
counted bytes e = subst (λ h. h.count < 8192) (sym e) (few bytes)

pub overflow_mul-result : goal.overflow_mul-result
overflow_mul-result c = record { fits = omega (arith, counted _ c.unpack-h.ensures) }

pub overflow_add-result : goal.overflow_add-result
overflow_add-result c = record { fits = omega (arith, counted _ c.unpack-h.ensures) }

pub returns : goal.returns
unfolding file_length
returns c = ap (λ h. header_length + record_length * h.count) c.unpack-h.ensures
