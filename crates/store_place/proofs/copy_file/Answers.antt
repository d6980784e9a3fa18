-- The room that is cut out is the place's, and its front the file. Assumes nothing.
use Prim.Native.Nat.{ℕ, ◌≤◌}
use native.Mathlib.Omega.{arith}
use mathlib.Core.Path.{◌≡◌, sym, ap₂, ◌∙◌}
use mathlib.Core.List.{List, ◌++◌}
use lib.ListN.{length, take, drop}
use lib.Seq.{take-length, length-take-le}
use Rattle.store_place.proofs.Places.{end_is, end_fits, file-copied}
use Rattle.store_place.proofs.copy_file.Goals as goal

-- the buffer with the file at its front, by the file's length
front : (file buffer : List ℕ) {copied : List ℕ} {end : ℕ} → end ≡ length file → copied ≡ file → copied ++ drop end buffer ≡ take (length file) file ++ drop (length file) buffer
front file buffer e c = ap₂ (λ l n. l ++ drop n buffer) (c ∙ sym (take-length file)) e

pub slice_bounds-copy_from_slice-end : goal.slice_bounds-copy_from_slice-end
slice_bounds-copy_from_slice-end c =
    let p = c.requires in
    omega (arith, end_fits c.args.store.now c.args.k p.store_long p.below p.fits c.file_length-end.ensures, p.buffer-long)

pub slice_bounds-copy_from_slice-end-2 : goal.slice_bounds-copy_from_slice-end-2
slice_bounds-copy_from_slice-end-2 c =
    let p = c.requires in
    let fits : c.file_length-end.result ≤ length c.args.buffer.now = omega (arith, end_fits c.args.store.now c.args.k p.store_long p.below p.fits c.file_length-end.ensures, p.buffer-long) in
    sym (length-take-le c.file_length-end.result c.args.buffer.now fits)

pub slice_bounds-copy_from_slice-end-3 : goal.slice_bounds-copy_from_slice-end-3
slice_bounds-copy_from_slice-end-3 c =
    let p = c.requires in
    end_is c.args.store.now c.args.k p.store_long p.below p.fits c.file_length-end.ensures

pub copy_from_slice-requires : goal.copy_from_slice-requires
copy_from_slice-requires c =
    let p = c.requires in
    let fits : c.file_length-end.result ≤ length c.args.buffer.now = omega (arith, end_fits c.args.store.now c.args.k p.store_long p.below p.fits c.file_length-end.ensures, p.buffer-long) in
    length-take-le c.file_length-end.result c.args.buffer.now fits ∙ end_is c.args.store.now c.args.k p.store_long p.below p.fits c.file_length-end.ensures

pub returns : goal.returns
returns c =
    let p = c.requires in
    let is = end_is c.args.store.now c.args.k p.store_long p.below p.fits c.file_length-end.ensures in
    let both = file-copied c.args.store.now c.args.k p.store_long p.below p.fits c.file_length-end.ensures c.args.buffer.now is (front _ c.args.buffer.now is c.copy_from_slice.ensures.after) in
    record { answer = both.0; buffer = both.1 }
