-- A shift by eight bits for each byte of the word: a power of 256.
use Rattle.grammar.proofs.WordLaws.{span_shift}
use Rattle.grammar.proofs.words.span.Goals as goal

pub returns : goal.returns
returns c = span_shift _ c.requires
