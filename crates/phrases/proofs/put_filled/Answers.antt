-- A turn of the loop puts one byte more, or a number in its place. Assumes nothing.
use mathlib.Core.List.{[], ◌∷◌, map}
use lib.ListN.{get_or}
use Rattle.text.proofs.Filling.{Turn, filling-none, filling-more, filling-all, piece-room, number-piece, byte-piece, last-piece}
use Rattle.phrases.proofs.put_filled.Goals as goal
use Rattle.phrases.proofs.put_filled.Goals.{in-Some, in_default, in_default-via-in-Some+else-byte-eq-GAP, in_default-via-in_default}

pub loop-byte-init : goal.loop-byte-init
loop-byte-init g c = filling-none c.args.form.now (map g.I.Integer.text c.args.numbers.now) c.requires

pub put_number-requires : goal.put_number-requires
put_number-requires g c =
    let f = g.I.Integer.text in
    piece-room c.args.form.now (map f c.args.numbers.now) c.requires c.loop-byte.invariant c.loop-byte-test.true
    (number-piece f (get_or c.args.form.now c.loop-byte.byte-index 0) c.if-byte-eq-GAP.true c.in-Some.ensures.cases.0)

pub put_byte-requires : goal.put_byte-requires
put_byte-requires g c =
    let f = g.I.Integer.text in
    let b = get_or c.args.form.now c.loop-byte.byte-index 0 in
    let ns = map f c.loop-byte.left.now in
    let turn : Turn b ns (b ∷ []) ns =
    elim c.in_default.branch [
      | in_default-via-in-Some+else-byte-eq-GAP w ↦ byte-piece b ns w.if-byte-eq-GAP.false
      | in_default-via-in_default w ↦ last-piece f b c.loop-byte.left.now w.in_default.ensures.cases
    ] in
    piece-room c.args.form.now (map f c.args.numbers.now) c.requires c.loop-byte.invariant c.loop-byte-test.true turn

pub loop-byte-preserved : goal.loop-byte-preserved
loop-byte-preserved g c =
    let f = g.I.Integer.text in
    let form = c.args.form.now in
    let numbers = map f c.args.numbers.now in
    let b = get_or form c.loop-byte.byte-index 0 in
    let ns = map f c.loop-byte.left.now in
    elim c.match-split_first.branch [
      | in-Some w ↦
          rw (w.text-is, w.left-is)
          (filling-more form numbers c.requires c.loop-byte.invariant c.loop-byte-test.true
          (number-piece f b w.if-byte-eq-GAP.true w.in-Some.ensures.cases.0) w.put_number.ensures)
      | in_default w ↦
          let turn : Turn b ns (b ∷ []) ns =
          elim w.in_default.branch [
            | in_default-via-in-Some+else-byte-eq-GAP w' ↦ byte-piece b ns w'.if-byte-eq-GAP.false
            | in_default-via-in_default w' ↦ last-piece f b c.loop-byte.left.now w'.in_default.ensures.cases
          ] in
          rw (w.text-is, w.left-is)
          (filling-more form numbers c.requires c.loop-byte.invariant c.loop-byte-test.true turn w.put_byte.ensures)
    ]

pub returns : goal.returns
returns g c = filling-all c.args.form.now (map g.I.Integer.text c.args.numbers.now) c.requires c.loop-byte.invariant c.loop-byte-test.false
