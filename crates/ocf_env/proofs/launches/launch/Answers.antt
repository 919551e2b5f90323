use Rattle.std.proofs.Common.{◌≡◌, ◌∙◌, ap}
use Rattle.ocf_types.specs.Actions.{action_word}
use Rattle.ocf_env.specs.Locations.{Call}
use Rattle.ocf_env.specs.Programs.{arguments_at, program_at}
use Rattle.ocf_env.proofs.launches.launch.Goals as goal

pub returns-clause-invocation : goal.returns-clause-invocation
returns-clause-invocation g c =
    let via = c.args.site.now.via in
    let call = c.in_ok-invocation.ensures.call in
    let file = c.in_ok-file.ensures.file in
    let word : c.word.result.now ≡ action_word c.args.running.task.action = c.word.ensures ∙ ap action_word c.action.ensures in
    let same = ap (λ (i : Call). i.environment) call in
    record {
      program = ap (λ (i : Call). i.program) call ∙ ap (program_at via) file;
      arguments = ap (λ (i : Call). i.arguments) call ∙ (λ k. arguments_at via (file k) (word k));
      sorted = rw same c.in_ok-environment.ensures.sorted;
      variables = λ name value. rw same (c.in_ok-environment.ensures.variables name value);
    }
