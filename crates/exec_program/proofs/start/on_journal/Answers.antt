use Rattle.std.proofs.Common.{◌≡◌, ⊎_elim}
use Rattle.exec_options.specs.declared.options.Subcommand.TheVariants as subcommand
use Rattle.exec_program.proofs.RequestLemmas.{allows_as}
use Rattle.exec_program.proofs.start.on_journal.Goals as goal

pub start_agents-requires-clause-may : goal.start_agents-requires-clause-may
start_agents-requires-clause-may g c =
    let o = c.args.options in
    ⊎_elim
    (λ (is : o.subcommand ≡ subcommand.Run).
    allows_as g.H.Host.asked g.H.Host.may o o.subcommand subcommand.Run is c.requires.may)
    (λ (is : o.subcommand ≡ subcommand.Serve).
    allows_as g.H.Host.asked g.H.Host.may o o.subcommand subcommand.Serve is c.requires.may)
    c.in-Run.is
