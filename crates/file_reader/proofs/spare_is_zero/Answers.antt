-- The bytes end with the spare bits. Assumes nothing.
use borrow.Author.Tests.{eq-eqb, ne_eqb}
use Prim.Native.Nat.{ℕ, ◌/◌, ◌%◌, ◌^◌, ◌<◌}
use mathlib.Core.Path.{◌≡◌, refl, sym, ap, ap₂, ◌∙◌}
use mathlib.Core.Bool.{Bool, ◌&&◌}
use mathlib.Core.List.{List}
use lib.Dec.{eqb}
use lib.ListN.{length, get_or}
use lib.Pow.{mod-mod-pow}
use Rattle.bits.specs.Bits.{join}
use Rattle.bits.specs.Layout.{byte_widths}
use Rattle.bits.proofs.Bytes.{byte_of}
use Rattle.bath_file.specs.Layout.{layout, header_length}
use Rattle.bath_file.specs.File.{spare_is_zero}
use Rattle.file_reader.proofs.spare_is_zero.Goals as goal

-- by what the first test finds
spare : (l : List ℕ) {t : Bool} → length l ≡ header_length → ((k : ℕ) → get_or l k 0 < 256) → eqb (get_or l 8 0 % 32) 0 ≡ t → (t && eqb (get_or l 10 0 % 16) 0) ≡ spare_is_zero l
spare l long small e =
    let n = join (byte_widths layout) l in
    let byte = byte_of l long small in
    ap (λ t. t && eqb (get_or l 10 0 % 16) 0) (sym e)
    ∙ ap₂ (λ a b. eqb a 0 && eqb b 0)
    (ap (λ b. b % 32) (byte 8 2 refl) ∙ mod-mod-pow (n / 2 ^ 16) 3 5)
    (ap (λ b. b % 16) (byte 10 0 refl) ∙ mod-mod-pow (n / 2 ^ 0) 4 4)

pub returns-then-bytes-eq0 : goal.returns-then-bytes-eq0
returns-then-bytes-eq0 c = spare c.args.bytes.now c.requires (λ k. (c.type_inv.bytes k).fits) (eq-eqb _ 0 c.if-bytes-eq0.true)

pub returns-else-bytes-eq0 : goal.returns-else-bytes-eq0
returns-else-bytes-eq0 c =
    let e = ne_eqb (get_or c.args.bytes.now 8 0 % 32) 0 c.if-bytes-eq0.false in
    e ∙ spare c.args.bytes.now c.requires (λ k. (c.type_inv.bytes k).fits) e
