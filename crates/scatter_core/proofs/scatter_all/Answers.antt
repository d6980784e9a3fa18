-- `scatter_core::scatter_all` meets its contract: the grids are cleared, and the set is added. Assumes nothing.
use Rattle.scatter_core.proofs.Sets.{set-ready, scattered}
use Rattle.scatter_core.proofs.scatter_all.Goals as goal

pub add_all-requires : goal.add_all-requires
add_all-requires c =
    let a = c.args in
    set-ready a.mass.now a.px.now a.py.now (c.fill.ensures.after (λ y e. e)) (c.fill-2.ensures.after (λ y e. e)) (c.fill-3.ensures.after (λ y e. e)) c.requires

pub returns : goal.returns
returns c ps h =
    let a = c.args in
    scattered a.mass.now a.px.now a.py.now (c.fill.ensures.after (λ y e. e)) (c.fill-2.ensures.after (λ y e. e)) (c.fill-3.ensures.after (λ y e. e)) (c.add_all.ensures ps h)
