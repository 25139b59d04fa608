-- What is sought in the blocks from where the code has come to is what is sought in all.
use mathlib.Core.Path.{◌≡◌}
use Prim.Native.Nat.{◌-◌, ◌*◌}
use lib.ListN.{drop}
use Rattle.records.specs.Limits.{entry_words}
use Rattle.channel_spec.specs.Fires.{blocks_in, word_fires, nth}
use Rattle.channel_calls.proofs.fired.Given as goal

abbrev pub invariant-loop-i : goal.invariant-loop-i
invariant-loop-i l = nth l.more (blocks_in (l.entries - 1 - l.i) l.text (drop l.w l.words) (drop (l.i * entry_words) l.directory)) ≡ nth l.n (word_fires l.entries l.text l.words l.directory)
