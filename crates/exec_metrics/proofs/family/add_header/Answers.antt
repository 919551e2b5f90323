use Rattle.std.proofs.Common.{◌++◌, refl}
use Rattle.std.specs.Prelude.{codes}
use Rattle.exec_metrics.specs.Families.{kind, name}
use Rattle.exec_metrics.proofs.TextLemmas.{after}
use Rattle.exec_metrics.proofs.family.add_header.Goals as goal

pub returns : goal.returns
returns c =
    let old = c.args.text.now in
    let f = c.args.family in
    let help = c.help.result.now in
    let one = codes "# HELP " ++ name f in
    let two = one ++ codes " " ++ help in
    let three = two ++ codes "\n# TYPE " ++ name f in
    let four = three ++ codes " " ++ kind f in
    let named = after old (codes "# HELP ") _ _ (name f) _ c.text.ensures.appended c.text-2.ensures.appended c.name.ensures in
    let spaced = after old one _ _ (codes " ") _ named c.text-3.ensures.appended refl in
    let helped = after old (one ++ codes " ") _ _ help _ spaced c.text-4.ensures.appended refl in
    let typed = after old two _ _ (codes "\n# TYPE ") _ helped c.text-5.ensures.appended refl in
    let again = after old (two ++ codes "\n# TYPE ") _ _ (name f) _ typed c.text-6.ensures.appended c.name-2.ensures in
    let apart = after old three _ _ (codes " ") _ again c.text-7.ensures.appended refl in
    let kinded = after old (three ++ codes " ") _ _ (kind f) _ apart c.text-8.ensures.appended c.kind.ensures in
    (help, c.help.ensures, after old four _ _ (codes "\n") _ kinded c.text-9.ensures.appended refl)
