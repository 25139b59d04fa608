-- Where the code has come to is the child that is so many steps behind the first.
use mathlib.Core.Path.{◌≡◌}
use mathlib.Core.Option.{some}
use Rattle.channel_spec.specs.Fires.{child_at}
use Rattle.channel_calls.proofs.child_at.Given as goal

abbrev pub invariant-loop-i : goal.invariant-loop-i
invariant-loop-i l = child_at l._i l.node ≡ some l.at
