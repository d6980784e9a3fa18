-- As many bytes of the form as were passed are put, and the numbers of the others are left.
use mathlib.Core.List.{map}
use Rattle.text.proofs.Filling.{Filling}
use Rattle.phrases.proofs.put_filled.Given as goal

abbrev pub invariant-loop-byte : goal.invariant-loop-byte
invariant-loop-byte g l = Filling l.form (map g.I.Integer.text l.fn.numbers) l.initial.text l.text l.byte-index (map g.I.Integer.text l.left)
