-- The part before the first place where CR LF stands.
use Rattle.std.proofs.Common.{rules}
use Rattle.csv_text.proofs.Splitting.{splits_records}
use Rattle.records.proofs.Spelling.{cut_is}
use Rattle.records.proofs.find_record.Goals as goal

pub returns : goal.returns
returns c = cut_is splits_records _ (λ t b k. search rules) _ _ c.part_before.ensures
