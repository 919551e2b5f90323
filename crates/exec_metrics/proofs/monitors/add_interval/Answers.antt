use Rattle.std.proofs.Common.{rules, ◌≡◌, ◌++◌, ap, append_assoc, ◌∙◌}
use Rattle.std.specs.Prelude.{codes, decimal}
use Rattle.exec_metrics.proofs.monitors.add_interval.Goals as goal

pub returns : goal.returns
returns c =
    let old = c.args.text.now in
    let name = codes ",interval_ms=\"" in
    let number = decimal c.args.recur.now.interval in
    let end = codes "\"" in
    let is : c.from.result ≡ c.args.recur.now.interval = search rules in
    c.text-2.ensures.appended ∙ ap (λ t. t ++ end) (c.number.ensures.appended ∙ (λ i. c.text.ensures.appended i ++ decimal (is i)))
    ∙ append_assoc (old ++ name) number end ∙ append_assoc old name (number ++ end)
