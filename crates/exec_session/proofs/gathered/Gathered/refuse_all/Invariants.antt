use Rattle.std.proofs.Common.{◌≡◌, replicate}
use Rattle.ocf_model.specs.declared.refusal.Refusal.TheVariants.{Disk}
use Rattle.ocf_model.specs.declared.reply.ReplyOf.TheVariants.{Refused}
use Rattle.exec_session.specs.Gathered.{replied, waiting}
use Rattle.exec_session.proofs.gathered.Gathered.refuse_all.Given as goal

abbrev pub invariant-loop-count : goal.invariant-loop-count
invariant-loop-count l = record {
  refused : replied l.self ≡ replicate l._count (Refused Disk);
  same : waiting l.self ≡ waiting l.fn.self;
}
