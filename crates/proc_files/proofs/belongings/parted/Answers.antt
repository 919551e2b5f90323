use Rattle.std.proofs.Common.{refl}
use Rattle.std.proofs.lemmas.Bool.{false≢true}
use Rattle.proc_files.proofs.BelongingLemmas.{next_other, next_root}
use Rattle.proc_files.proofs.belongings.parted.Goals.{then-is_root+in_ok-push, else-is_root+in_ok-push-2}
use Rattle.proc_files.proofs.belongings.parted.Goals as goal

pub loop-process-preserved : goal.loop-process-preserved
loop-process-preserved g c =
    let l = c.loop-process in
    let known = c.args.known.now in
    let groups = c.args.groups.now in
    elim c.if-is_root.branch [
      | then-is_root+in_ok-push w ↦ rw (w.roots-is, w.others-is, w.in_ok-push.ensures.items)
          (next_root known groups c.args.table.now l.roots.items l.others.items l.process-index _ c.loop-process-test.true
          (w.if-is_root.ensures.0 refl) l.invariant)
      | else-is_root+in_ok-push-2 w ↦ rw (w.roots-is, w.others-is, w.in_ok-push-2.ensures.items)
          (next_other known groups c.args.table.now l.roots.items l.others.items l.process-index _ c.loop-process-test.true
          (λ is. false≢true (w.if-is_root.ensures.1 is)) l.invariant)
    ]
