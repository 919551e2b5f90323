use Rattle.exec_journal.specs.StoreViews.{store_view}
use Rattle.executor_laws.specs.OnFiles.{FilesGoOn}
use Rattle.executor_laws.specs.SeenIncarnations.{seen}
use Rattle.executor_laws.proofs.Incarnations.Files.{OneFinding, files_behave}
use Rattle.executor_laws.proofs.Incarnations.Lawful.{LawfulLemmas, start_lawful}
use Rattle.executor_laws.proofs.Machines.Claims.{runs_kept}
use Rattle.executor_laws.proofs.laws.promise.Goals as goal

pub returns : goal.returns
returns g c =
    let view = g.D.Disk.view in
    let disk_law = g.met.D.Disk.lawful in
    let once : OneFinding = record { state = c.lemma_found_once.ensures.state; either = c.lemma_found_once.ensures.either } in
    let laws : LawfulLemmas =
    record { empty = c.lemma_lawful_states.ensures.empty; after = c.lemma_lawful_states.ensures.after; stays = c.layouts.ensures.stays; carried = c.layouts.ensures.lawful } in
    λ start incarnations is image left.
    let b = files_behave view disk_law once start incarnations is image left in
    let lawful = start_lawful laws view disk_law start incarnations is image left in
    (b.0, b.3, b.1, b.2, runs_kept start (seen (store_view view) (FilesGoOn view start) incarnations is) b.0 lawful b.1)
