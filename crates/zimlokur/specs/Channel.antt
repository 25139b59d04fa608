-- Channel rules from C, of what a reading left: the answer is for the calls in the function's trees. Nothing is known here of the calls but what they
-- report.
-- Assumes nothing.
use Rattle.std.proofs.Common.{subst}
use Rattle.std.specs.Prelude.{List, ℕ}
use Rattle.grammar.specs.Function.{reading_of}
use Rattle.trees.specs.Function.{Function}
use Rattle.channel_spec.specs.declared.Rule.{Rule}
use Rattle.channel_spec.specs.Told.{Told}
use Rattle.channel_spec.specs.Fires.{function_fires, nth}
use Rattle.channel_spec.specs.Answers.{ruling, channel_rule}
use Rattle.theorem_channel.specs.Channels.{accepted_fires}
use Rattle.zimlokur.specs.Report.{Reports, ReportsChannel}
use Rattle.zimlokur.specs.Zero.{zero_accepts}

-- After a call of `zimlokur_parse_define` that returned 0, `zimlokur_channel` of the same text and of what it left tells of the m-th call in the trees.
pub channel_of_calls : (W D : ℕ) (text : List ℕ) (place n : ℕ) (words dir : List ℕ) (rs : List Rule) (asked m r at answer : ℕ) → Reports (reading_of W D text) 0 place n words dir
    → ReportsChannel (channel_rule asked m n rs text words dir) r at answer → (F : Function n words dir) × ReportsChannel (ruling asked rs (nth m (function_fires text F.trees dir))) r at answer
channel_of_calls W D text place n words dir rs asked m r at answer h c =
    let t = accepted_fires W D n words dir text (zero_accepts W D text place n words dir h) in
    (t.0, subst (λ (x : Told). ReportsChannel x r at answer) (t.1.1 asked m rs) c)
