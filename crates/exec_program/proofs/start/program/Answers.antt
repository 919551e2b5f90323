use Rattle.std.proofs.Common.{Bool, inr, map, option_map, string_bytes, subst}
use Rattle.exec_host.specs.Asked.{system_of}
use Rattle.exec_program.specs.Starts.{IsWrittenAs}
use Rattle.exec_program.proofs.ProgramLemmas.{does_once}
use Rattle.exec_program.proofs.RequestLemmas.{allows_journal, allows_once}
use Rattle.exec_program.proofs.StartLemmas.{starts_asked_journal, starts_asked_once, starts_nothing}
use Rattle.exec_program.proofs.start.program.Goals as goal

pub on_journal-requires-clause-may : goal.on_journal-requires-clause-may
on_journal-requires-clause-may g c =
    allows_journal g.H.Host.asked (option_map (λ s. s.now) c.args.named) (map string_bytes c.args.arguments.now)
    g.H.Host.may c.in-Ok-Journal.field-0 c.in-Ok-Journal.options c.in-Ok-Journal.ensures.ok c.in-Ok-Journal.field-0-is c.requires.may

pub once-requires-clause-may : goal.once-requires-clause-may
once-requires-clause-may g c =
    allows_once g.H.Host.asked (option_map (λ s. s.now) c.args.named) (map string_bytes c.args.arguments.now)
    g.H.Host.may c.in-Ok-Once.field-0 c.in-Ok-Once.options c.in-Ok-Once.ensures.ok c.in-Ok-Once.field-0-is c.requires.may

pub refuse-requires-clause-may : goal.refuse-requires-clause-may
refuse-requires-clause-may g c = λ r h. c.requires.may r (inr (inr (c.in-Err.fault, c.in-Err.ensures.fault, h)))

pub returns-in-Ok-Journal-clause-ends : goal.returns-in-Ok-Journal-clause-ends
returns-in-Ok-Journal-clause-ends g c =
    starts_asked_journal (option_map (λ s. s.now) c.args.named) (map string_bytes c.args.arguments.now)
    c.in-Ok-Journal.field-0 c.in-Ok-Journal.options c.on_journal.result c.with_status.result
    c.in-Ok-Journal.ensures.ok c.in-Ok-Journal.field-0-is c.on_journal.ensures.ends c.with_status.ensures

pub returns-in-Ok-Once-clause-ends : goal.returns-in-Ok-Once-clause-ends
returns-in-Ok-Once-clause-ends g c =
    starts_asked_once (option_map (λ s. s.now) c.args.named) (map string_bytes c.args.arguments.now)
    c.in-Ok-Once.field-0 c.in-Ok-Once.options _ c.in-Ok-Once.ensures.ok c.in-Ok-Once.field-0-is

pub returns-in-Ok-Once-clause-does : goal.returns-in-Ok-Once-clause-does
returns-in-Ok-Once-clause-does g c =
    does_once (system_of g.H.Host.asked g.H.Files.Disk.view g.H.Agents.Children.view g.H.Source.Metadata.gives g.H.Reader.Input.view
    g.H.Writer.Output.contents g.H.Ticker.Ticker.asked _)
    (option_map (λ s. s.now) c.args.named) (map string_bytes c.args.arguments.now)
    c.in-Ok-Once.field-0 c.in-Ok-Once.options _ c.in-Ok-Once.ensures.ok c.in-Ok-Once.field-0-is c.once.ensures.once

pub returns-in-Err-clause-ends : goal.returns-in-Err-clause-ends
returns-in-Err-clause-ends g c =
    starts_nothing (option_map (λ s. s.now) c.args.named) (map string_bytes c.args.arguments.now)
    c.in-Err.fault c.refuse.result c.in-Err.ensures.fault
    (subst (λ (b : Bool). IsWrittenAs b c.in-Err.fault c.refuse.result) c.is_once.ensures c.refuse.ensures.reported)

pub returns-in-Err-clause-does : goal.returns-in-Err-clause-does
returns-in-Err-clause-does g c = inr (inr (
  c.in-Err.fault,
  c.in-Err.ensures.fault,
  c.in-Err.ensures.memory,
  subst (λ (b : Bool). IsWrittenAs b c.in-Err.fault c.refuse.result) c.is_once.ensures c.refuse.ensures.reported,
  c.refuse.ensures.prints,
))
