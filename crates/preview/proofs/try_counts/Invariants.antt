-- Before each piece of `preview::try_counts` all counts before it have passed, or the words are no state.
-- Assumes nothing.
use Rattle.std.proofs.Common.{◌≤◌, ◌≡◌, length, drop}
use Rattle.std.specs.Slice.Iter.{chunks_rest, chunks_size}
use Rattle.scripts.specs.Words.{LegalMonitorWords}
use Rattle.preview.proofs.Turn.{Begun}
use Rattle.preview.proofs.try_counts.Given as goal

abbrev pub invariant-loop-piece : goal.invariant-loop-piece
invariant-loop-piece l = record {
  rest : chunks_rest l.piece-iterator ≡ drop l.passed l.counts;
  size : chunks_size l.piece-iterator ≡ 1_024;
  room : length l.verdicts ≡ 1_024;
  untold : l.verdict ≡ l.fn.verdict;
  begun : Begun l.fn.words l.counts l.passed l.words;
  asked : length l.counts ≤ l.passed → LegalMonitorWords l.fn.words;
}
