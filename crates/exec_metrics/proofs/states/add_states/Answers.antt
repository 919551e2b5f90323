use Rattle.std.proofs.Common.{◌++◌, refl}
use Rattle.exec_metrics.specs.Samples.{state_sample}
use Rattle.resource_status.specs.declared.condition.Condition.TheVariants.{NeverRun, Started, Promoted, Stopped, Failed, Unknown}
use Rattle.exec_metrics.proofs.TextLemmas.{after}
use Rattle.exec_metrics.proofs.states.add_states.Goals as goal

pub returns : goal.returns
returns c =
    let old = c.args.text.now in
    let f = state_sample c.args.id.now c.args.is in
    let to_started = after old (f NeverRun) _ _ (f Started) _ c.add_state.ensures c.add_state-2.ensures refl in
    let to_promoted = after old (f NeverRun ++ f Started) _ _ (f Promoted) _ to_started c.add_state-3.ensures refl in
    let to_stopped = after old (f NeverRun ++ f Started ++ f Promoted) _ _ (f Stopped) _ to_promoted c.add_state-4.ensures refl in
    let to_failed = after old (f NeverRun ++ f Started ++ f Promoted ++ f Stopped) _ _ (f Failed) _ to_stopped c.add_state-5.ensures refl in
    after old (f NeverRun ++ f Started ++ f Promoted ++ f Stopped ++ f Failed) _ _ (f Unknown) _ to_failed c.add_state-6.ensures refl
