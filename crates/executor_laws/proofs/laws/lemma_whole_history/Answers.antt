use Rattle.executor_laws.proofs.Incarnations.Files.{OneFinding, files_behave, files_not_refused, files_opened, files_reserved, first_begins, fresh_begins, looked_lasts, opening_on, refused_lasts}
use Rattle.executor_laws.proofs.laws.lemma_whole_history.Goals as goal

pub returns : goal.returns
returns g c =
    let view = g.D.Disk.view in
    let lawful = g.met.D.Disk.lawful in
    let once : OneFinding = record { state = c.lemma_found_once.ensures.state; either = c.lemma_found_once.ensures.either } in
    record {
      fresh = fresh_begins c.lemma_journal_holds.ensures.stays;
      first = first_begins c.lemma_journal_holds.ensures.stays;
      holds = λ start incarnations is image left.
          let b = files_behave view lawful once start incarnations is image left in (b.0, b.2, b.3);
      reserved = files_reserved view lawful once;
      opened = files_opened view lawful once;
      not_refused = files_not_refused view lawful once;
      opening = opening_on view lawful;
      refused = refused_lasts view lawful;
      looked = looked_lasts view lawful;
    }
