-- Every block, and what is left behind the last. Assumes nothing.
use Rattle.std.proofs.Common.{◌/◌, length, sym, ◌∙◌, rules, tests}
use Rattle.std.proofs.lemmas.Iterator.{YieldsList-from_slice}
use Rattle.std.proofs.lemmas.Iterator.Search.{all_from_yields_List}
use Rattle.store.specs.Names.{all_zero}
use Rattle.store_bytes.proofs.Zeros.{zero-found}
use Rattle.store_bytes.proofs.all_zero.Goals as goal

pub returns-then-all : goal.returns-then-all
returns-then-all c =
    let bytes = c.args.bytes.now in
    let chunks = c.as_chunks.ensures in
    let all = all_from_yields_List all_zero _ _ c.all.result c.all.ensures.ran (YieldsList-from_slice c.as_chunks.result.0.now cc) (λ x b q k. search (rules, tests)) in
    c.joined.ensures ∙ zero-found 512 (length bytes / 512) bytes chunks.front chunks.back (sym c.if-all.true ∙ all)

pub returns-else-all : goal.returns-else-all
returns-else-all c =
    let bytes = c.args.bytes.now in
    let chunks = c.as_chunks.ensures in
    let all = all_from_yields_List all_zero _ _ c.all.result c.all.ensures.ran (YieldsList-from_slice c.as_chunks.result.0.now cc) (λ x b q k. search (rules, tests)) in
    c.if-all.false ∙ zero-found 512 (length bytes / 512) bytes chunks.front chunks.back (sym c.if-all.false ∙ all)
