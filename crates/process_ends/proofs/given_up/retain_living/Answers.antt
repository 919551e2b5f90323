use Rattle.std.proofs.Common.{not, rules}
use Rattle.std.proofs.lemmas.Fn.{filter_same}
use Rattle.process_ends.proofs.given_up.retain_living.Goals as goal

pub returns : goal.returns
returns g c = record { living = filter_same _ (λ p. not p.has_ended) _ (λ x b f' t. search rules) _ _ c.retain.ensures.filtered }
