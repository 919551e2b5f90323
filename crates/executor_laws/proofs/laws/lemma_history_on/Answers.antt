use Rattle.executor_laws.proofs.Incarnations.Whole.{incarnations_open}
use Rattle.executor_laws.proofs.Machines.Incarnations.{opened_after}
use Rattle.executor_laws.proofs.Openings.{had_reserve, joined_opened, joined_refused}
use Rattle.executor_laws.proofs.laws.lemma_history_on.Goals as goal

pub returns : goal.returns
returns g c =
    let view = g.S.Store.view in
    let lawful = c.lemma_lawful.ensures.lawful in
    record {
      opens = incarnations_open view lawful;
      opened = opened_after view lawful;
      joined = λ old mid s from now x ran queued opens over. joined_opened view old mid s opens from now x ran queued over;
      refused = λ old mid new s from to now fault opens fails. joined_refused view old mid s opens new from to now fault fails;
      not_full = λ start incarnations old mid new s from to now fault is goes_on opens fails honest.
          had_reserve view old mid s opens new from to now fault fails (goes_on.opens (incarnations_open view lawful start incarnations is)).1 honest;
    }
