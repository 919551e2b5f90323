use Rattle.std.proofs.Common.{[], ◌∷◌, ◌++◌, ◌-◌, length, refl, replicate}
use Rattle.agents_file.specs.Entries.{entry_fields, entry_text}
use Rattle.agents_file.specs.Lines.{space}
use Rattle.agents_file.proofs.EntryLemmas.{entry_has_fields}
use Rattle.agents_file.proofs.LineLemmas.{all_cut}
use Rattle.agents_file.proofs.entry.fields_in.Goals as goal

pub returns : goal.returns
returns c e is line =
    all_cut c.args.line.now (replicate (255 - length (entry_text e)) space ++ 10 ∷ [])
    (c.cut.result.0.now ∷ c.cut-2.result.0.now ∷ c.cut-3.result.0.now ∷ c.cut-4.result.0.now ∷ c.cut-5.result.0.now
    ∷ c.cut-6.result.0.now ∷ c.cut-7.result.0.now ∷ []) (entry_fields e) (
      c.cut.result.1.now,
      c.cut.ensures,
      (
        c.cut-2.result.1.now,
        c.cut-2.ensures,
        (
          c.cut-3.result.1.now,
          c.cut-3.ensures,
          (
            c.cut-4.result.1.now,
            c.cut-4.ensures,
            (
              c.cut-5.result.1.now,
              c.cut-5.ensures,
              (
                c.cut-6.result.1.now,
                c.cut-6.ensures,
                (c.cut-7.result.1.now, c.cut-7.ensures, tt),
              ),
            ),
          ),
        ),
      ),
    ) line (entry_has_fields e is) refl
