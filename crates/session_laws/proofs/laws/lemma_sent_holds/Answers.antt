use Rattle.session_laws.proofs.SentOver.{sent_lives}
use Rattle.session_laws.proofs.laws.lemma_sent_holds.Goals as goal

pub returns : goal.returns
returns g c = record {
  backed = λ start incarnations reported zs over surviving. sent_lives start incarnations reported zs over surviving;
  holds = λ start incarnations is reported over x lawful left.
      let (zs, same, runs, surviving, kept) = c.promise_on.ensures start incarnations is x lawful left in
      (zs, same, runs, surviving, kept, sent_lives start incarnations reported zs over surviving);
}
