use mathlib.Core.Path.{◌≡◌, ◌∙◌, sym, ap, subst}
use Prim.Native.Nat.{◌<◌}
use lib.ListN.{get_or}
use Rattle.channel_spec.specs.declared.Rule.{Rule}
use Rattle.channel_spec.specs.Table.{channels}
use Rattle.channel_table.specs.declared.Search.{Search}
use Rattle.channel_table.specs.Search.{shown}
use Rattle.channel_table.proofs.Marked.{blank}
use Rattle.channel_table.proofs.Passes.{Good, measure, starts, goes, falls, ends}
use Rattle.channel_table.proofs.judged.Goals as goal

pub loop-s-init : goal.loop-s-init
loop-s-init c = subst (λ (s : Search). Good c.args.rules.now c.args.asked c.args.fired s) (sym c.begin-s.ensures) (starts _ _ _)

pub loop-s-smaller : goal.loop-s-smaller
loop-s-smaller c =
    let s = c.loop-s.s in
    let e : c.shown-s.result ≡ shown s (get_or c.args.rules.now s.at blank) = c.shown-s.ensures ∙ ap (shown s) (c.rule_at.ensures.copied blank) in
    subst (λ (r : Search). measure r < measure s) (sym e) (falls _ _ _ s c.loop-s.invariant c.loop-s-test.true)

pub loop-s-preserved : goal.loop-s-preserved
loop-s-preserved c =
    let s = c.loop-s.s in
    let e : c.shown-s.result ≡ shown s (get_or c.args.rules.now s.at blank) = c.shown-s.ensures ∙ ap (shown s) (c.rule_at.ensures.copied blank) in
    let fits : (get_or c.args.rules.now s.at blank).last < channels = subst (λ (x : Rule). x.last < channels) (c.rule_at.ensures.copied blank) c.rule_at.ensures.last_fits in
    subst (λ (r : Search). Good c.args.rules.now c.args.asked c.args.fired r) (sym e) (goes _ _ _ s c.loop-s.invariant c.loop-s-test.true fits)

pub returns : goal.returns
returns c = ends _ _ _ _ c.loop-s.invariant c.loop-s-test.false
