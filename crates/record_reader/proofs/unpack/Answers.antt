-- `unpack` meets its contract: both words are the record's, and each field follows as a part of one. Assumes nothing.
use Rattle.std.proofs.Common.{◌≡◌, refl, sym, ap, ◌∙◌, ℕ, ◌/◌, ◌%◌, ◌^◌, ◌<◌, length, get_or}
use native.Mathlib.Nat.{div-one}
use lib.Dec.{lit≤}
use Rattle.bits.specs.Bits.{join}
use Rattle.bits.specs.Layout.{byte_widths}
use Rattle.bits.proofs.Bytes.{word_of, field-read, top_read}
use Rattle.bits.proofs.TwosComplement.{signed_part}
use Rattle.particle.specs.Layout.{layout, record_length}
use Rattle.particle.specs.Record.{particle_of}
use Rattle.record_reader.proofs.unpack.Goals as goal

-- the low bits of a word, which the code does not divide
undivided : (word : ℕ) {low : ℕ} → low ≡ word % 65536 → low ≡ word / 2 ^ 0 % 65536
undivided word e = e ∙ ap (λ n. n % 65536) (sym (div-one word))

pub returns : goal.returns
unfolding particle_of
returns c =
    let l = c.args.bytes.now in
    let n = join (byte_widths layout) l in
    let long : length l ≡ record_length = c.requires in
    let small : (k : ℕ) → get_or l k 0 < 256 = λ k. (c.type_inv.bytes k).fits in
    let first = c.word-first.ensures ∙ word_of l long small 0 7 refl in
    let last = c.word-second.ensures ∙ word_of l long small 7 0 refl in
    λ i.
    record {
      identifier = top_read n 56 48 16 first c.low.ensures (lit≤ tt) refl i;
      mass = field-read n 56 38 10 first c.low-2.ensures (lit≤ tt) (lit≤ tt) i;
      x = field-read n 56 26 12 first c.low-3.ensures (lit≤ tt) (lit≤ tt) i;
      y = field-read n 56 14 12 first c.low-4.ensures (lit≤ tt) (lit≤ tt) i;
      vx = signed_part 64 c.signed_low.type_inv c.signed_low.ensures (field-read n 56 7 7 first c.low-5.ensures (lit≤ tt) (lit≤ tt)) i;
      vy = signed_part 64 c.signed_low-2.type_inv c.signed_low-2.ensures (field-read n 56 0 7 first (undivided c.word-first.result c.low-6.ensures) (lit≤ tt) (lit≤ tt)) i;
      bxx = signed_part 2048 c.signed_low-3.type_inv c.signed_low-3.ensures (field-read n 0 44 12 last c.low-7.ensures (lit≤ tt) (lit≤ tt)) i;
      bxy = signed_part 2048 c.signed_low-4.type_inv c.signed_low-4.ensures (field-read n 0 32 12 last c.low-8.ensures (lit≤ tt) (lit≤ tt)) i;
      byx = signed_part 2048 c.signed_low-5.type_inv c.signed_low-5.ensures (field-read n 0 20 12 last c.low-9.ensures (lit≤ tt) (lit≤ tt)) i;
      byy = signed_part 2048 c.signed_low-6.type_inv c.signed_low-6.ensures (field-read n 0 8 12 last c.low-10.ensures (lit≤ tt) (lit≤ tt)) i;
      marks = field-read n 0 0 8 last (undivided c.word-second.result c.low-11.ensures) (lit≤ tt) (lit≤ tt) i;
    }
