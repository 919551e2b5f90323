use Rattle.std.proofs.Common.{subst}
use Rattle.std.specs.Prelude.{◌↔◌, Contains, IsTrue}
use Rattle.child_keeper.proofs.processes.ProcessesChildren.is_live.Goals as goal

pub returns : goal.returns
returns g c = record {
  value = subst (λ v. IsTrue c.contains.result ↔ Contains v.children.live c.args.run) c.self.view_is c.contains.ensures.lives;
}
