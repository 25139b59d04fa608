-- What is sought among the nodes from where the code has come to is what is sought among all.
use mathlib.Core.Path.{◌≡◌}
use mathlib.Core.Option.{some}
use Prim.Native.Nat.{◌-◌}
use Rattle.channel_spec.specs.Fires.{fires_from}
use Rattle.channel_calls.specs.Seek.{seek}
use Rattle.channel_calls.proofs.seek_from.Given as goal

abbrev pub invariant-loop-i : goal.invariant-loop-i
invariant-loop-i l = seek l.more (fires_from (l.n - l._i) l.piece l.own (some l.at)) ≡ seek l.k (fires_from l.n l.piece l.own (some l.first))
