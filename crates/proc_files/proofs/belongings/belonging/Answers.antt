use Rattle.std.proofs.Common.{arith}
use Rattle.proc_files.proofs.BelongingLemmas.{all_found, is_nearer, search_begins, search_goes_on}
use Rattle.proc_files.proofs.belongings.belonging.Goals as goal

pub loop-at-init : goal.loop-at-init
loop-at-init g c = search_begins c.args.known.now c.args.groups.now c.args.table.now _ _ c.in_ok-found.ensures.parted

pub loop-at-smaller : goal.loop-at-smaller
loop-at-smaller g c =
    is_nearer c.loop-at.at _ c.loop-at.found.items c.loop-at.rest.items _ _ (omega arith)
    c.in_ok-move_children.ensures.found c.in_ok-move_children.ensures.rest

pub loop-at-preserved : goal.loop-at-preserved
loop-at-preserved g c =
    rw (c.in_ok-move_children.ensures.found, c.in_ok-move_children.ensures.rest)
    (search_goes_on c.args.known.now c.args.groups.now c.args.table.now c.loop-at.at c.loop-at.found.items c.loop-at.rest.items
    c.index.result.now (omega arith) c.index.ensures c.loop-at.invariant)

pub returns-clause-exact : goal.returns-clause-exact
returns-clause-exact g c = λ p. (
  c.loop-at.invariant.belong p,
  all_found c.args.known.now c.args.groups.now c.args.table.now c.loop-at.at c.loop-at.found.items c.loop-at.rest.items (omega arith)
      c.loop-at.invariant p,
)
