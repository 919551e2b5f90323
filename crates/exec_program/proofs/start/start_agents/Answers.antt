use Rattle.std.proofs.Common.{ap, inl, inr, option_map, refl, subst}
use Rattle.exec_options.specs.Arguments.{directory_of}
use Rattle.exec_host.specs.Asked.{system_of}
use Rattle.exec_host.specs.Requests.{OpenFiles, OpenLog}
use Rattle.exec_program.proofs.ProgramLemmas.{runs_in_memory}
use Rattle.exec_program.proofs.start.start_agents.Goals as goal

pub log-requires-clause-may : goal.log-requires-clause-may
log-requires-clause-may g c =
    c.requires.may (OpenLog (option_map (λ s. s.now) c.args.options.log) (option_map (λ s. s.now) c.args.options.logs)) (inr (inl (refl, refl)))

pub files-requires-clause-may : goal.files-requires-clause-may
files-requires-clause-may g c = c.requires.may (OpenFiles c.args.options c.in-Directory.directory.now) (inl (refl, ap directory_of c.in-Directory.is))

pub returns-in-Memory-clause-runs : goal.returns-in-Memory-clause-runs
returns-in-Memory-clause-runs g c = inr (inr (
  c.in-Ok.log,
  subst g.H.Host.asked.ignored c.if-children_ignored.false c.children_ignored.ensures,
  c.in-Ok.ensures.log,
  runs_in_memory (system_of g.H.Host.asked g.H.Files.Disk.view g.H.Agents.Children.view g.H.Source.Metadata.gives g.H.Reader.Input.view
      g.H.Writer.Output.contents g.H.Ticker.Ticker.asked _)
      c.args.options c.in-Ok.log c.args.options.journal c.new-disk.result c.serve_agents-ended.result.0 c.serve_agents-ended.result.1
      c.in-Memory.is c.new-disk.ensures.fresh c.serve_agents-ended.ensures.runs c.serve_agents-ended.ensures.memory,
))
