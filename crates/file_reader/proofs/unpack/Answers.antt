-- `unpack` meets its contract: both words are the header's, and each field follows as a part of one. Assumes nothing.
use Prim.Native.Nat.{ℕ, ◌<◌}
use mathlib.Core.Path.{◌≡◌, refl, ◌∙◌}
use lib.Dec.{lit≤}
use lib.ListN.{length, get_or}
use Rattle.bits.specs.Bits.{join}
use Rattle.bits.specs.Layout.{byte_widths}
use Rattle.bits.proofs.Bytes.{word_of, field-read, top_read}
use Rattle.bits.proofs.TwosComplement.{signed_part}
use Rattle.bath_file.specs.Layout.{layout, header_length}
use Rattle.bath_file.specs.File.{header_in}
use Rattle.file_reader.proofs.unpack.Goals as goal

pub returns : goal.returns
unfolding header_in
returns c =
    let l = c.args.bytes.now in
    let n = join (byte_widths layout) l in
    let long : length l ≡ header_length = c.requires in
    let small : (k : ℕ) → get_or l k 0 < 256 = λ k. (c.type_inv.bytes k).fits in
    let first = c.word-first.ensures ∙ word_of l long small 0 3 refl in
    let second = c.word-second.ensures ∙ word_of l long small 3 0 refl in
    λ i.
    record {
      nx = (c.from.ensures ∙ top_read n 24 58 6 first c.low.ensures (lit≤ tt) refl) i;
      ny = (c.from-2.ensures ∙ field-read n 24 52 6 first c.low-2.ensures (lit≤ tt) (lit≤ tt)) i;
      gx = signed_part 8192 c.signed_low.type_inv c.signed_low.ensures (field-read n 24 38 14 first c.low-3.ensures (lit≤ tt) (lit≤ tt)) i;
      gy = signed_part 8192 c.signed_low-2.type_inv c.signed_low-2.ensures (field-read n 24 24 14 first c.low-4.ensures (lit≤ tt) (lit≤ tt)) i;
      count = (c.from-3.ensures ∙ field-read n 24 11 13 first c.low-5.ensures (lit≤ tt) (lit≤ tt)) i;
      steps = (c.from-4.ensures ∙ field-read n 0 21 14 second c.low-6.ensures (lit≤ tt) (lit≤ tt)) i;
      kind = (c.from-5.ensures ∙ field-read n 0 14 2 second c.low-7.ensures (lit≤ tt) (lit≤ tt)) i;
      width = (c.from-6.ensures ∙ field-read n 0 12 2 second c.low-8.ensures (lit≤ tt) (lit≤ tt)) i;
      drag = (c.from-7.ensures ∙ field-read n 0 4 8 second c.low-9.ensures (lit≤ tt) (lit≤ tt)) i;
    }
