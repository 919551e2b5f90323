use Rattle.executor_laws.specs.Incarnations.{GoesOnFrom}
use Rattle.executor_laws.specs.SeenIncarnations.{seen}
use Rattle.executor_laws.proofs.Machines.Claims.{runs_kept}
use Rattle.executor_laws.proofs.Machines.Incarnations.{incarnations_behave}
use Rattle.executor_laws.proofs.laws.promise_on.Goals as goal

pub returns : goal.returns
returns g c =
    let view = g.S.Store.view in
    λ start incarnations is x lawful left.
    let b = incarnations_behave view c.lemma_lawful.ensures.lawful start incarnations is x left in
    (b.0, b.3, b.1, b.2, runs_kept start (seen view (GoesOnFrom view start) incarnations is) b.0 lawful b.1)
