use Rattle.executor_laws.proofs.Isolation.Calls.{alone_ends, commands_alone, lemma_each_alone, session_alone}
use Rattle.executor_laws.proofs.laws.lemma_each_alone.Goals as goal

pub returns : goal.returns
returns g c = record {
  alone = lemma_each_alone g.S.Store.view;
  ends = alone_ends g.S.Store.view;
  session = session_alone g.S.Store.view;
  batch = commands_alone;
}
