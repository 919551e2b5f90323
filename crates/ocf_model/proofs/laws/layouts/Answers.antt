use Rattle.ocf_types.specs.declared.layout.Layout.TheVariants.{First}
use Rattle.ocf_model.proofs.LawfulLaw.{lawful_after}
use Rattle.ocf_model.proofs.LayoutLemmas.{state_carried, state_whole, encoding_carried, applies_cut, after_cut, after_all_cut}
use Rattle.ocf_model.proofs.laws.layouts.Goals as goal

pub returns-clause-lawful : goal.returns-clause-lawful
returns-clause-lawful c s h = state_carried s h

pub returns-clause-whole : goal.returns-clause-whole
returns-clause-whole c s h = state_whole s h

pub returns-clause-encoded : goal.returns-clause-encoded
returns-clause-encoded c e h = encoding_carried e h

pub returns-clause-applies : goal.returns-clause-applies
returns-clause-applies c s e h = applies_cut s e h

pub returns-clause-after : goal.returns-clause-after
returns-clause-after c s e h = after_cut s e

pub returns-clause-after_all : goal.returns-clause-after_all
returns-clause-after_all c s es h = after_all_cut es s

pub returns-clause-stays : goal.returns-clause-stays
returns-clause-stays c s e h a = lawful_after First s e h a
