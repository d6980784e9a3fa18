-- The library's count of the first bytes that are letters. Assumes nothing.
use Rattle.std.proofs.Common.{◌≡◌, List, [], ◌∷◌, ℕ, suc, ◌+◌, cond, refl, sym, ap, ◌∙◌, arith, rules, tests}
use Rattle.std.proofs.lemmas.Iterator.{YieldsList-from_slice}
use Rattle.std.proofs.lemmas.Iterator.Consumers.{count_from_yields_List}
use Rattle.std.proofs.lemmas.Iterator.Search.{YieldsList-from_take_while}
use Rattle.std.proofs.lemmas.List.Folds.{length-prefix_len}
use Rattle.std.specs.List.{prefix_len}
use Rattle.store.specs.Names.{is_letter, letters}
use Rattle.store_bytes.proofs.letters.Goals as goal

letters-first : (l : List ℕ) → letters l ≡ prefix_len is_letter l
unfolding letters
letters-first [] = refl
letters-first (b ∷ l) = ap (λ n. cond (is_letter b) n 0) {x = suc (letters l)} {y = 1 + prefix_len is_letter l} (omega (arith, letters-first l))

pub returns : goal.returns
returns c =
    let bytes = c.args.bytes.now in
    count_from_yields_List c.take_while.result _ c.count.ensures.ran (YieldsList-from_take_while _ is_letter (YieldsList-from_slice bytes (cc)) c.take_while.ensures.closure c.take_while.ensures.done (λ x b q k. search (rules, tests)))
    ∙ length-prefix_len is_letter bytes
    ∙ sym (letters-first bytes)
