-- What `fired` finds is judged by the table, and that is reported.
use mathlib.Core.Path.{◌∙◌, ap, subst}
use Rattle.channel_spec.specs.Told.{Told}
use Rattle.channel_spec.specs.Answers.{ruling, channel_rule}
use Rattle.zimlokur.specs.Report.{ReportsChannel}
use Rattle.zimlokur.proofs.zimlokur_channel.Goals as goal

pub returns : goal.returns
unfolding channel_rule
returns c =
    subst (λ (t : Told). ReportsChannel t c.report.result c.report.new.place c.report.new.answer)
    (c.judged-told.ensures ∙ ap (ruling c.args.account_class c.args.rules.now) c.fired-fired.ensures) c.report.ensures
