-- Two words pushed, one behind the other.
use mathlib.Core.Path.{◌∙◌, ap}
use Rattle.node_words.specs.Writes.{pushed}
use Rattle.node_words.proofs.begin.Goals as goal

pub returns : goal.returns
returns c = let a = c.push-q.ensures in let b = c.push.ensures in (b.0 ∙ ap pushed a.0, let x = a.0 in let y = a.1 in let z = b.1 in cc)
